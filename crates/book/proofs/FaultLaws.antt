-- The check refuses with no number but those of faults, whatever the numbers of the book are. So `verdict`, which makes
-- a fault of any number, gives a fault of the check's own number.
--
--   Numbered                             what a part of the book gives: a refusal has a fault's number
--   -numbered                            each part of the check, in its order
--   check_number, says_check             the verdict on a book has the number of the check's outcome; what is that
--                                        verdict has the outcome's numbers
--   check_with_number, says_check_with   the same of the check with an index
--
-- Not here: bounds of a refusal's number and place (BoundLaws).
use Rattle.std.specs.Prelude.{◌≡◌, refl, Bool, List, [], ◌∷◌, ℕ, zero, suc, ◌+◌, ltb, length, get_or}
use Rattle.std.proofs.Common.{ltb-true, ltb-false}
use Rattle.characters.specs.Cases.{by_test}
use Rattle.characters.specs.Classes.{between}
use Rattle.book.specs.Numbers.{fault_number}
use Rattle.book.specs.Check.{Checked, refused, accepted, and_then, Reader, checked, records, section, placed}
use Rattle.book.specs.Check.{spelling, entry, nonterminal, variant, step, passes, all_pass, ended}
use Rattle.book.specs.Check.{of_binder, first_step, entire_book, outcome, outcome_refusal, check_book}
use Rattle.book.specs.Index.{Verdict, refusal_of, fault_of, verdict, Says, check_with}
use Rattle.book.proofs.ReaderLaws.{checked_bad, checked_good, checked_short}
use Rattle.book.proofs.EndLaws.{says_case, verdict_is}
use Rattle.book.specs.Book.{Book}
use Rattle.book.specs.declared.records.Step.{Step}
use Rattle.book.specs.declared.records.Variant.{Variant}

-- a number is that of a fault
abbrev IsFault : ℕ → Type 0
IsFault number = fault_number (fault_of number) ≡ number

data Numbered {A : Type 0} : Checked A → Type 0 where
  refuse : {number place : ℕ} → IsFault number → Numbered (refused number place)
  read : {x : A} {next : ℕ} → Numbered (accepted x next)

then_numbered : {A B : Type 0} (c : Checked A) (f : A → ℕ → Checked B) → Numbered c →
    ((x : A) (next : ℕ) → Numbered (f x next)) → Numbered (and_then c f)
then_numbered (refused number place) f (refuse h) then = refuse h
then_numbered (accepted x next) f read then = then x next

module _ (book : List ℕ) where
  checked_numbered : (fits : ℕ → Bool) (number at place : ℕ) → IsFault number →
      Numbered (checked fits number at book place)
  checked_numbered fits number at place h =
      by_test (ltb place (length book))
      (λ t. let inside = ltb-true place (length book) t in
      by_test (fits (get_or book place 0))
      (λ good. rw (checked_good fits number at book place inside good) read)
      (λ bad. rw (checked_bad fits number at book place inside bad) (refuse h)))
      (λ t. rw (checked_short fits number at book place (ltb-false place (length book) t))
      (refuse {number = 3} refl))

  module _ {A : Type 0} (size : A → ℕ) (one : ℕ → ℕ → Reader A)
      (each : (i sum place : ℕ) → Numbered (one i sum book place)) where
    records_numbered : (n i sum place : ℕ) → Numbered (records size one n i sum book place)
    unfolding records
    records_numbered zero i sum place = read
    records_numbered (suc n) i sum place =
        then_numbered (one i sum book place) _ (each i sum place) (λ x at.
        then_numbered (records size one n (i + 1) (sum + size x) book at) _
        (records_numbered n (i + 1) (sum + size x) at) (λ xs end. read))

    section_numbered : (fits : ℕ → Bool) (place : ℕ) → Numbered (section fits size one book place)
    section_numbered fits place =
        then_numbered (checked fits 4 place book place) _ (checked_numbered fits 4 place place refl)
        (λ n at. records_numbered n 0 0 at)

  -- a field, and what follows it
  field_numbered : {B : Type 0} (fits : ℕ → Bool) (place : ℕ) (f : ℕ → ℕ → Checked B) →
      ((x next : ℕ) → Numbered (f x next)) → Numbered (and_then (checked fits 6 place book place) f)
  field_numbered fits place f then =
      then_numbered (checked fits 6 place book place) f (checked_numbered fits 6 place place refl) then

  spelling_numbered : (place : ℕ) → Numbered (spelling book place)
  unfolding spelling
  spelling_numbered place =
      then_numbered (checked (between 1 15) 5 place book place) _ (checked_numbered (between 1 15) 5 place place refl)
      (λ size at.
      records_numbered (λ b. 0) _ (λ i sum next. checked_numbered _ 5 place next refl) size 0 0 at)

  entry_numbered : (greatest place : ℕ) → Numbered (entry greatest book place)
  unfolding entry
  entry_numbered greatest place =
      field_numbered _ place _ (λ label at.
      then_numbered (spelling book at) _ (spelling_numbered at) (λ letters end. read))

  nonterminal_numbered : (first place : ℕ) → Numbered (nonterminal first book place)
  unfolding nonterminal
  nonterminal_numbered first place =
      field_numbered _ place _ (λ mark at. field_numbered _ at _ (λ number end. read))

  variant_numbered : (binder : Bool) (first place : ℕ) → Numbered (placed (variant binder first) book place)
  unfolding variant
  variant_numbered binder first place =
      then_numbered (variant binder first book place) _
      (field_numbered _ place _ (λ a p.
      field_numbered _ p _ (λ b q. field_numbered _ q _ (λ c r. field_numbered _ r _ (λ d end. read)))))
      (λ v end. read)

  step_numbered : (words nonterminals : ℕ) (binder : Bool) (place : ℕ) →
      Numbered (step words nonterminals binder book place)
  unfolding step
  step_numbered words nonterminals binder place =
      field_numbered _ place _ (λ a p.
      field_numbered _ p _ (λ b q. field_numbered _ q _ (λ c r. field_numbered _ r _ (λ d end. read))))

  passing_numbered : (steps : List Step) (variants : List (ℕ × Variant)) (place : ℕ) →
      Numbered (all_pass steps variants book place)
  unfolding all_pass
  passing_numbered steps [] place = read
  passing_numbered steps (v ∷ variants) place =
      by_test (passes steps v.1)
      (λ t. rw (t, all_pass) (passing_numbered steps variants place))
      (λ t. rw (t, all_pass) (refuse {number = 7} refl))

  ended_numbered : (place : ℕ) → Numbered (ended book place)
  unfolding ended
  ended_numbered place = by_test (ltb place (length book)) (λ t. rw t (refuse {number = 8} refl)) (λ t. rw t read)

  book_numbered : Numbered (entire_book book 0)
  unfolding entire_book
  book_numbered =
      then_numbered (section _ _ _ book 0) _ (section_numbered (λ w. 0) (λ i first. entry 1)
      (λ i sum. entry_numbered 1) _ 0) (λ words p.
      then_numbered (section _ _ _ book p) _ (section_numbered (λ w. 0) (λ i first. entry 7)
      (λ i sum. entry_numbered 7) _ p) (λ names q.
      then_numbered (section _ _ _ book q) _ (section_numbered (λ n. n.count) (λ i. nonterminal)
      (λ i. nonterminal_numbered) _ q) (λ nonterminals r.
      then_numbered (section _ _ _ book r) _ (section_numbered (λ v. v.1.count)
      (λ j first. placed (variant (of_binder (λ n. n.first) nonterminals j) first))
      (λ j. variant_numbered (of_binder (λ n. n.first) nonterminals j)) _ r) (λ variants v.
      then_numbered (section _ _ _ book v) _ (section_numbered (λ s. 0)
      (λ k first. step (length words) (length nonterminals) (of_binder (first_step variants) nonterminals k))
      (λ k sum. step_numbered (length words) (length nonterminals) (of_binder (first_step variants) nonterminals k))
      _ v) (λ steps w.
      then_numbered (all_pass steps variants book w) _ (passing_numbered steps variants w) (λ passed x.
      then_numbered (ended book x) _ (ended_numbered x) (λ over y. read)))))))

-- ---- What follows
pub check_number : (bytes : List ℕ) → refusal_of (verdict (check_book bytes)) ≡ outcome_refusal (check_book bytes)
unfolding check_book
check_number bytes = of (entire_book bytes 0) (book_numbered bytes)
  where
    of : (c : Checked Book) → Numbered c → refusal_of (verdict (outcome c)) ≡ outcome_refusal (outcome c)
    of (refused number place) (refuse h) = h
    of (accepted x next) read = refl

pub says_check : (bytes : List ℕ) (r : Verdict) → r ≡ verdict (check_book bytes) → Says (check_book bytes) r
says_check bytes r e =
    says_case (check_book bytes) r (verdict_is (check_book bytes) r (check_number bytes) e)

pub check_with_number : (bytes index : List ℕ) →
    refusal_of (verdict (check_with bytes index)) ≡ outcome_refusal (check_with bytes index)
check_with_number bytes index =
    by_test (ltb (length index) 1091) (λ t. rw t refl) (λ t. rw t (check_number bytes))

pub says_check_with : (bytes index : List ℕ) (r : Verdict) → r ≡ verdict (check_with bytes index) →
    Says (check_with bytes index) r
says_check_with bytes index r e =
    says_case (check_with bytes index) r (verdict_is (check_with bytes index) r (check_with_number bytes index) e)
