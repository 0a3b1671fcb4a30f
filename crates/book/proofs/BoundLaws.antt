-- How far the check of a book looks. The longest accepted book has 3,777 bytes: five counts, 64 words and 64 names of
-- 17 bytes, 32 nonterminals of 2, 128 variants of 4, 255 steps of 4. The check of a longer one ends at one of its first
-- 3,778 bytes, and no later byte matters.
--
--   longest, reach   3,777 and 3,778
--   Agree            two lists of bytes that are alike as far as 3,778 bytes
--   agree_check      their checks end alike
--   first_bytes      the first 3,778 bytes decide the check
--   refusal_bounds   a refusal's number is at most 8, its place at most 3,777
--
-- All come from one walk over the check of two such lists (`book_alike`). Not here: what the numbers of an accepted
-- book are.
use Rattle.std.specs.Prelude.{◌≡◌, Bool, true, ltb, eqb, length, get_or, take}
use Rattle.std.proofs.Math.Path.{refl}
use Rattle.std.proofs.Common.{ap, ◌∙◌, arith, mul-le-mul_right, length-take, get_or-take}
use Rattle.std.proofs.Math.Bool.{and-eq-true_iff}
use mathlib.Core.List.{List, [], ◌∷◌}
use Prim.Native.Nat.{ℕ, zero, suc, ◌+◌, ◌*◌, ◌≤◌, ◌<◌, min}
use Rattle.std.proofs.Math.Nat.{suc-mul}
use borrow.Author.Tests.{lt-ltb, le-ltb, ltb-true, ltb-false}
use Rattle.characters.specs.Cases.{by_test}
use Rattle.characters.specs.Classes.{between}
use Rattle.book.specs.Book.{Book}
use Rattle.book.specs.Check.{Checked, refused, accepted, and_then, Reader, checked, records, section, placed}
use Rattle.book.specs.Check.{spelling, entry, nonterminal, variant, step, passes, all_pass, ended, total}
use Rattle.book.specs.Check.{of_binder, first_step, entire_book}
use Rattle.book.specs.Check.{Outcome, outcome, check_book}
use Rattle.book.proofs.ReaderLaws.{between_high, checked_bad, checked_good, checked_short}
use Rattle.book.specs.declared.records.Step.{Step}
use Rattle.book.specs.declared.records.Variant.{Variant}

-- the longest accepted book
abbrev pub longest : ℕ
longest = 5 + 64 * 17 + 64 * 17 + 32 * 2 + 128 * 4 + 255 * 4

-- the bytes that the check may look at
abbrev pub reach : ℕ
reach = longest + 1

-- alike as far as these
pub record Agree (some other : List ℕ) : Type 0 where
  pub bytes : (i : ℕ) → i < reach → get_or some i 0 ≡ get_or other i 0
  pub lengths : min reach (length some) ≡ min reach (length other)

-- the numbers of a list are bytes
abbrev pub Bytes : List ℕ → Type 0
Bytes book = (i : ℕ) → get_or book i 0 ≤ 255

-- ---- Two checks end alike
-- both refuse at the same one of the first 3,778 bytes; or both read the same, which has a property, and end at the
-- same place, at most `most`
data Alike {A : Type 0} (P : A → Type 0) (most : ℕ) (other : Checked A) : Checked A → Type 0 where
  refuse : {number place : ℕ} → number ≤ 8 → place ≤ longest → other ≡ refused number place →
      Alike P most other (refused number place)
  read : {x : A} {next : ℕ} → P x → next ≤ most → other ≡ accepted x next → Alike P most other (accepted x next)

abbrev Any : {A : Type 0} → A → Type 0
Any x = Unit {0}

unfoldable All : {A : Type 0} → (A → Type 0) → List A → Type 0
All P [] = Unit {0}
All P (x ∷ xs) = P x × All P xs

then_alike : {A B : Type 0} (P : A → Type 0) (Q : B → Type 0) (m n : ℕ) (d c : Checked A) (g f : A → ℕ → Checked B) →
    Alike P m d c →
    ((x : A) (next : ℕ) → P x → next ≤ m → Alike Q n (g x next) (f x next)) → Alike Q n (and_then d g) (and_then c f)
then_alike P Q m n d (refused number place) g f (refuse k h e) then = rw e (refuse k h refl)
then_alike P Q m n d (accepted x next) g f (read p l e) then = rw e (then x next p l)

forget : {A : Type 0} {P : A → Type 0} {m : ℕ} (d c : Checked A) → Alike P m d c → Alike Any m d c
forget d (refused number place) (refuse k h e) = refuse k h e
forget d (accepted x next) (read p l e) = read tt l e

-- ---- The walk
module _ (some bytes : List ℕ) (agree : Agree some bytes) (small : Bytes bytes) where
  checked_alike : (fits : ℕ → Bool) (number at place m : ℕ) → number ≤ 8 → at ≤ longest →
      place ≤ longest → place + 1 ≤ m →
      Alike (λ x. (fits x ≡ true) × x ≤ 255) m (checked fits number at some place) (checked fits number at bytes place)
  checked_alike fits number at place m n a p h =
      let e = agree.bytes place (omega arith) in
      let lengths = agree.lengths in
      by_test (ltb place (length bytes))
      (λ in_bytes. let inside = ltb-true place (length bytes) in_bytes in
      by_test (fits (get_or bytes place 0))
      (λ t. rw (
        checked_good fits number at bytes place inside t,
        checked_good fits number at some place (omega arith) (ap fits e ∙ t),
        e,
      ) (read (t, small place) h refl))
      (λ t. rw (
        checked_bad fits number at bytes place inside t,
        checked_bad fits number at some place (omega arith) (ap fits e ∙ t),
      ) (refuse n a refl)))
      (λ out. let over = ltb-false place (length bytes) out in
      let same_length : length some ≡ length bytes = omega arith in
      rw (
        checked_short fits number at bytes place over,
        checked_short fits number at some place (omega arith),
        same_length,
      )
      (refuse {number = 3} {place = length bytes} (omega arith) (omega arith) refl))

  module _ {A : Type 0} (size : A → ℕ) (one : ℕ → ℕ → Reader A) (P : A → Type 0) (k : ℕ)
      (each : (i sum place m : ℕ) → place + k ≤ longest → place + k ≤ m →
      Alike P m (one i sum some place) (one i sum bytes place)) where
    records_alike : (n i sum place m : ℕ) → place + n * k ≤ longest → place + n * k ≤ m →
        Alike (All P) m (records size one n i sum some place) (records size one n i sum bytes place)
    unfolding records All
    records_alike zero i sum place m h l = read {next = place} tt (omega arith) refl
    records_alike (suc n) i sum place m h l =
        let e : suc n * k ≡ n * k + k = suc-mul n k in
        then_alike P (All P) (place + k) m (one i sum some place) (one i sum bytes place) _ _
        (each i sum place (place + k) (omega arith) (omega arith)) (λ x at p low.
        then_alike (All P) (All P) m m (records size one n (i + 1) (sum + size x) some at)
        (records size one n (i + 1) (sum + size x) bytes at) _ _
        (records_alike n (i + 1) (sum + size x) at m (omega arith) (omega arith)) (λ xs end all high.
        read (p, all) high refl))

    -- a count that passes its test is at most `greatest`
    section_alike : (fits : ℕ → Bool) (greatest : ℕ) → ((n : ℕ) → fits n ≡ true → n ≤ 255 → n ≤ greatest) →
        (place m : ℕ) → place + 1 + greatest * k ≤ longest → place + 1 + greatest * k ≤ m →
        Alike (All P) m (section fits size one some place) (section fits size one bytes place)
    section_alike fits greatest bound place m h l =
        then_alike (λ x. (fits x ≡ true) × x ≤ 255) (All P) (place + 1) m (checked fits 4 place some place)
        (checked fits 4 place bytes place) _ _
        (checked_alike fits 4 place place (place + 1) (omega arith) (omega arith) (omega arith) (omega arith))
        (λ n at fit low.
        let b : n * k ≤ greatest * k = mul-le-mul_right k (bound n fit.0 fit.1) in
        records_alike n 0 0 at m (omega arith) (omega arith))

  -- a field, and what follows it
  field_alike : {B : Type 0} (fits : ℕ → Bool) (place m n : ℕ) (g f : ℕ → ℕ → Checked B) → place + 1 ≤ longest →
      place + 1 ≤ m → ((x next : ℕ) → next ≤ m → Alike Any n (g x next) (f x next)) →
      Alike Any n (and_then (checked fits 6 place some place) g) (and_then (checked fits 6 place bytes place) f)
  field_alike fits place m n g f h l then =
      then_alike _ Any m n (checked fits 6 place some place) (checked fits 6 place bytes place) g f
      (checked_alike fits 6 place place m (omega arith) (omega arith) (omega arith) l) (λ x next _ low. then x next low)

  spelling_alike : (place m : ℕ) → place + 16 ≤ longest → place + 16 ≤ m →
      Alike Any m (spelling some place) (spelling bytes place)
  unfolding spelling
  spelling_alike place m h l =
      forget _ _
      (then_alike (λ x. (between 1 15 x ≡ true) × x ≤ 255) (All Any) (place + 1) m (checked _ 5 place some place)
      (checked _ 5 place bytes place) _ _
      (checked_alike (between 1 15) 5 place place (place + 1) (omega arith) (omega arith) (omega arith) (omega arith))
      (λ size at fit low.
      let few : size ≤ 15 = between_high 1 15 size fit.0 in
      records_alike (λ b. 0) _ Any 1
      (λ i sum at m near low. forget _ _ (checked_alike _ 5 place at m (omega arith) (omega (arith, h)) (omega arith)
      (omega arith))) size 0 0 at m (omega arith) (omega arith)))

  entry_alike : (greatest place m : ℕ) → place + 17 ≤ longest → place + 17 ≤ m →
      Alike Any m (entry greatest some place) (entry greatest bytes place)
  unfolding entry
  entry_alike greatest place m h l =
      field_alike _ place (place + 1) m _ _ (omega arith) (omega arith) (λ label at low.
      then_alike Any Any m m (spelling some at) (spelling bytes at) _ _
      (spelling_alike at m (omega arith) (omega arith)) (λ letters end _ high.
      read tt high refl))

  nonterminal_alike : (first place m : ℕ) → place + 2 ≤ longest → place + 2 ≤ m →
      Alike Any m (nonterminal first some place) (nonterminal first bytes place)
  unfolding nonterminal
  nonterminal_alike first place m h l =
      field_alike _ place (place + 1) m _ _ (omega arith) (omega arith) (λ mark at low.
      field_alike _ at m m _ _ (omega arith) (omega arith) (λ number end high. read tt high refl))

  variant_alike : (binder : Bool) (first place m : ℕ) → place + 4 ≤ longest → place + 4 ≤ m →
      Alike (λ x. x.0 ≤ longest) m (placed (variant binder first) some place)
      (placed (variant binder first) bytes place)
  unfolding variant
  variant_alike binder first place m h l =
      then_alike Any (λ (x : ℕ × Variant). x.0 ≤ longest) m m (variant binder first some place)
      (variant binder first bytes place) _ _
      (field_alike _ place (place + 1) m _ _ (omega arith) (omega arith) (λ a p p_low.
      field_alike _ p (place + 2) m _ _ (omega arith) (omega arith) (λ b q q_low.
      field_alike _ q (place + 3) m _ _ (omega arith) (omega arith) (λ c r r_low.
      field_alike _ r m m _ _ (omega arith) (omega arith) (λ d end high. read tt high refl)))))
      (λ v end _ high. read {x = (place, v)} (omega arith) high refl)

  step_alike : (words nonterminals : ℕ) (binder : Bool) (place m : ℕ) → place + 4 ≤ longest → place + 4 ≤ m →
      Alike Any m (step words nonterminals binder some place) (step words nonterminals binder bytes place)
  unfolding step
  step_alike words nonterminals binder place m h l =
      field_alike _ place (place + 1) m _ _ (omega arith) (omega arith) (λ a p p_low.
      field_alike _ p (place + 2) m _ _ (omega arith) (omega arith) (λ b q q_low.
      field_alike _ q (place + 3) m _ _ (omega arith) (omega arith) (λ c r r_low.
      field_alike _ r m m _ _ (omega arith) (omega arith) (λ d end high. read tt high refl))))

  passing_alike : (steps : List Step) (variants : List (ℕ × Variant)) (place m : ℕ) → place ≤ m →
      All (λ x. x.0 ≤ longest) variants →
      Alike Any m (all_pass steps variants some place) (all_pass steps variants bytes place)
  unfolding all_pass All
  passing_alike steps [] place m h all = read tt h refl
  passing_alike steps (v ∷ variants) place m h all =
      by_test (passes steps v.1)
      (λ t. rw (t, all_pass) (passing_alike steps variants place m h all.1))
      (λ t. rw (t, all_pass) (refuse {number = 7} (omega arith) all.0 refl))

  ended_alike : (place : ℕ) → place ≤ longest → Alike Any longest (ended some place) (ended bytes place)
  unfolding ended
  ended_alike place h =
      let lengths = agree.lengths in
      by_test (ltb place (length bytes))
      (λ t. let left = ltb-true place (length bytes) t in
      rw (lt-ltb place (length some) (omega arith), lt-ltb place (length bytes) left)
      (refuse {number = 8} (omega arith) h refl))
      (λ t. let none = ltb-false place (length bytes) t in
      rw (le-ltb place (length some) (omega arith), le-ltb place (length bytes) none) (read tt h refl))

  -- two sections of entries, at most 1,089 bytes each; nonterminals, at most 65; variants, at most 513; steps, at most
  -- 1,021
  book_alike : Alike Any longest (entire_book some 0) (entire_book bytes 0)
  unfolding entire_book
  book_alike =
      then_alike (All Any) Any 1089 longest (section _ _ _ some 0) (section _ _ _ bytes 0) _ _
      (section_alike (λ w. 0) (λ i first. entry 1) Any 17 (λ i sum. entry_alike 1) _ 64
      (λ n t _. between_high 0 64 n t) 0 1089 (omega arith) (omega arith)) (λ words p _ p_low.
      then_alike (All Any) Any 2178 longest (section _ _ _ some p) (section _ _ _ bytes p) _ _
      (section_alike (λ w. 0) (λ i first. entry 7) Any 17 (λ i sum. entry_alike 7) _ 64
      (λ n t _. between_high 0 64 n t) p 2178 (omega arith) (omega arith)) (λ names q _ q_low.
      then_alike (All Any) Any 2243 longest (section _ _ _ some q) (section _ _ _ bytes q) _ _
      (section_alike (λ n. n.count) (λ i. nonterminal) Any 2 (λ i. nonterminal_alike) _ 32
      (λ n t _. between_high 1 32 n t) q 2243 (omega arith) (omega arith)) (λ nonterminals r _ r_low.
      then_alike (All (λ (x : ℕ × Variant). x.0 ≤ longest)) Any 2756 longest (section _ _ _ some r)
      (section _ _ _ bytes r) _ _
      (section_alike (λ v. v.1.count) (λ j first. placed (variant (of_binder (λ n. n.first) nonterminals j) first))
      (λ (x : ℕ × Variant). x.0 ≤ longest) 4
      (λ j. variant_alike (of_binder (λ n. n.first) nonterminals j)) _ 128
      (λ n t _. between_high 0 128 n ((and-eq-true_iff (between 0 128 n) (eqb n (total (λ x. x.count) nonterminals))).0
      t).0) r 2756 (omega arith) (omega arith)) (λ variants v placed_all v_low.
      then_alike (All Any) Any longest longest (section _ _ _ some v) (section _ _ _ bytes v) _ _
      (section_alike (λ s. 0)
      (λ k first. step (length words) (length nonterminals) (of_binder (first_step variants) nonterminals k)) Any 4
      (λ k sum. step_alike (length words) (length nonterminals) (of_binder (first_step variants) nonterminals k)) _ 255
      (λ n _ byte. byte) v longest (omega arith) (omega arith)) (λ steps w _ w_low.
      then_alike Any Any longest longest (all_pass steps variants some w) (all_pass steps variants bytes w) _ _
      (passing_alike steps variants w longest w_low placed_all) (λ _ y _ y_low.
      then_alike Any Any longest longest (ended some y) (ended bytes y) _ _ (ended_alike y y_low)
      (λ _ z _ z_low. read tt z_low refl)))))))

-- ---- What follows
pub agree_check : (some bytes : List ℕ) → Agree some bytes → Bytes bytes → check_book some ≡ check_book bytes
unfolding check_book
agree_check some bytes agree small = of (entire_book some 0) (entire_book bytes 0) (book_alike some bytes agree small)
  where
    of : (d c : Checked Book) → Alike Any longest d c → outcome d ≡ outcome c
    of d (refused n p) (refuse a b e) = ap outcome e
    of d (accepted x next) (read a b e) = ap outcome e

-- so a program need read no more of a file than these bytes
pub first_bytes : (bytes : List ℕ) → Bytes bytes → check_book (take reach bytes) ≡ check_book bytes
first_bytes bytes small =
    agree_check (take reach bytes) bytes
    (record { bytes = λ i. get_or-take reach bytes i 0; lengths = omega (arith, length-take reach bytes) }) small

pub refusal_bounds : (bytes : List ℕ) → Bytes bytes → (number place : ℕ) →
    check_book bytes ≡ Outcome.refusal number place → (number ≤ 8) × (place ≤ longest)
unfolding check_book
refusal_bounds bytes small number place e =
    of (entire_book bytes 0) (book_alike bytes bytes (record { bytes = λ i h. refl; lengths = refl }) small) e
  where
    of : {d : Checked Book} (c : Checked Book) → Alike Any longest d c → outcome c ≡ Outcome.refusal number place →
        (number ≤ 8) × (place ≤ longest)
    of (refused n p) (refuse a b _) q = let x : n ≡ number = cc in let y : p ≡ place = cc in (omega arith, omega arith)
    of (accepted x next) (read a b _) q = let z : ◌≡◌ {A = ℕ} 0 1 = cc in absurd (omega arith)
