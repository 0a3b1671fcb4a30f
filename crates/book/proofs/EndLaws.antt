-- Laws of what comes after the five sections.
--
--   pass-            the loop over the variants: those before a number pass
--   says-            a verdict that is an outcome's (IsVerdict) has its numbers, and is the one that `verdict` gives
--   passes-          whether one variant passes
--   into-            the check with an index that is long enough, and with one that isn't
--   checks-          the check: refused in a section, at a passing variant, for bytes left over; or accepted
--
-- Not here: the sections (SectionLaws, WholeLaws).
use Rattle.std.specs.Prelude.{◌≡◌, Ok, Err, IsErrAnd, true, false, List, [], ◌∷◌, ◌++◌, map, ℕ, zero, suc, ◌+◌, ◌≤◌}
use Rattle.std.specs.Prelude.{◌<◌, drop}
use Rattle.std.proofs.Math.Path.{refl}
use Rattle.std.proofs.Common.{ap, ◌∙◌, drop_of_length-le}
use native.Mathlib.Omega.{arith}
use Rattle.std.proofs.Math.Numerals.{add-one}
use Rattle.std.proofs.Math.ListN.{length}
use Rattle.std.proofs.Math.Seq.{drop-cons}
use borrow.Author.Tests.{lt-ltb, le-ltb}
use Rattle.book.specs.Book.{Book, nth_variant}
use Rattle.book.specs.Check.{Checked, refused, accepted, and_then, passes, all_pass, ended, entire_book, Outcome}
use Rattle.book.specs.Check.{check_book}
use Rattle.book.specs.Index.{up_to, count_in, place_in, first_in, variant_from, entries_in, nonterminals_in}
use Rattle.book.specs.Index.{placed_in, steps_in, book_in, five_sections, Sections, SectionsRead}
use Rattle.book.specs.Numbers.{fault_number}
use Rattle.book.specs.Index.{Part, Verdict, refused_as, passed_of, fault_of, Says, Checks, KeptOutside}
use Rattle.book.proofs.ReadingLaws.{up_to_in, up_to_length}
use Rattle.book.proofs.WholeLaws.{follow_read}
use Rattle.book.specs.declared.parts.Read.{Read}
use Rattle.book.specs.declared.refusals.Fault.{Fault}
use Rattle.book.specs.declared.refusals.Refusal.{Refusal}
use Rattle.book.specs.declared.records.Variant.{Variant}
use Rattle.std.specs.Prelude.{eqb}
use borrow.Author.Tests.{eq-eqb, ne_eqb}
use Rattle.book.specs.Book.{step_number, nth_step}
use Rattle.book.specs.Index.{refusal_of, place_of, verdict, CheckedInto}
use Rattle.book.specs.Check.{outcome_refusal}
use Rattle.book.specs.declared.records.Step.{Step}

-- ---- Passing variants: those before j pass
module _ (book index : List ℕ) where
  abbrev variant_in : ℕ → Variant
  variant_in j = variant_from book (place_in index 323 j) (first_in index 323 j)

  abbrev placed_from : ℕ → ℕ × Variant
  placed_from j = (place_in index 323 j, variant_in j)

  placed_length : length (placed_in book index) ≡ count_in index 323
  placed_length = up_to_length placed_from (count_in index 323)

  module _ (next j : ℕ) where
    abbrev pub pass_from : Checked (Unit {0})
    pass_from = all_pass (book_in book index).steps (drop j (placed_in book index)) book next

    module _ (count : ℕ) (count_is : count ≡ count_in index 323) (h : j < count) where
      this : drop j (placed_in book index)
          ≡ (place_in index 323 j, nth_variant (book_in book index) j) ∷ drop (j + 1) (placed_in book index)
      unfolding book_in
      this =
          let less : j < count_in index 323 = omega arith in
          let l = placed_length in
          drop-cons (placed_in book index) j (placed_from 0) (omega arith)
          ∙ rw (
            add-one j,
            up_to_in placed_from (count_in index 323) j (placed_from 0) less,
            up_to_in variant_in (count_in index 323) j _ less,
          )

      pub pass_on : passes (book_in book index).steps (nth_variant (book_in book index) j) ≡ true →
          pass_from ≡ all_pass (book_in book index).steps (drop (j + 1) (placed_in book index)) book next
      unfolding all_pass
      pass_on e = rw (this, e)

      pub pass_stop : (at : ℕ) → at ≡ place_in index 323 j →
          passes (book_in book index).steps (nth_variant (book_in book index) j) ≡ false → pass_from ≡ refused 7 at
      unfolding all_pass
      pass_stop at at-is e = rw (this, e, at-is)

    pub pass_end : (count : ℕ) → count ≡ count_in index 323 → count ≤ j → pass_from ≡ accepted tt next
    unfolding all_pass
    pass_end count count_is h =
        let l = placed_length in
        let out : length (placed_in book index) ≤ j = omega arith in
        rw (drop_of_length-le (placed_in book index) out)

-- ---- The outcome
map_snoc : {A B : Type 0} (f : A → B) (xs : List A) (x : A) → map f (xs ++ (x ∷ [])) ≡ map f xs ++ (f x ∷ [])
map_snoc f [] x = refl
map_snoc f (y ∷ xs) x = rw (map_snoc f xs x)

map_up_to : {A B : Type 0} (f : A → B) (g : ℕ → A) (n : ℕ) → map f (up_to n g) ≡ up_to n (λ i. f (g i))
unfolding up_to
map_up_to f g zero = refl
map_up_to f g (suc n) = map_snoc f (up_to n g) (g n) ∙ rw (map_up_to f g n)

-- what follows the five sections
abbrev rest : List ℕ → Sections
rest book words names nonterminals variants steps place =
    and_then (all_pass steps variants book place) (λ passed p.
    and_then (ended book p) (λ over q.
    accepted (record {
      words = words;
      names = names;
      nonterminals = nonterminals;
      variants = map (λ v. v.1) variants;
      steps = steps;
    }) q))

entire_is : (book : List ℕ) → entire_book book 0 ≡ five_sections book (rest book)
unfolding entire_book
entire_is book = refl

fault_back : (f : Fault) → fault_of (fault_number f) ≡ f
fault_back Fault.ShortIndex = refl
fault_back Fault.EndsEarly = refl
fault_back Fault.BadCount = refl
fault_back Fault.BadSpelling = refl
fault_back Fault.BadField = refl
fault_back Fault.BadPassing = refl
fault_back Fault.BytesLeftOver = refl

-- A verdict is an outcome's: it accepts a book, or refuses with the number and the place. By `verdict` alone this can't
-- be said, which of a number that is no fault's makes a fault with another number
abbrev pub IsVerdict : Outcome → Verdict → Type 0
IsVerdict (Outcome.book b) r = r ≡ Ok tt
IsVerdict (Outcome.refusal number place) r = IsErrAnd r (λ d. (fault_number d.fault ≡ number) × (d.place ≡ place))

pub says_case : (o : Outcome) (r : Verdict) → IsVerdict o r → Says o r
says_case (Outcome.book b) r e = record { refusal = ap refusal_of e; place = ap place_of e; case = e }
says_case (Outcome.refusal number place) (Ok u) h = absurd h
says_case (Outcome.refusal number place) (Err d) h =
    record { refusal = h.0; place = h.1; case = rw (← h.0, ← h.1, fault_back d.fault) }

-- where an outcome's number is a fault's, its verdict is the one that `verdict` gives
pub verdict_is : (o : Outcome) (r : Verdict) → refusal_of (verdict o) ≡ outcome_refusal o → r ≡ verdict o →
    IsVerdict o r
verdict_is (Outcome.book b) r n e = e
verdict_is (Outcome.refusal number place) r n e = rw e (n, refl)

pub says_refused : (d : Refusal) {o : Outcome} → o ≡ Outcome.refusal (fault_number d.fault) d.place → Says o (Err d)
says_refused d e = rw e (says_case _ (Err d) (refl, refl))

pub says_book : {b : Book} {o : Outcome} → o ≡ Outcome.book b → Says o (Ok tt)
says_book e = rw e (says_case _ _ refl)

refused_checks : (book f g : List ℕ) (d : Refusal) → entire_book book 0 ≡ refused_as d → KeptOutside 0 1091 f g →
    Checks book f g (Err d)
unfolding check_book
refused_checks book f g d w k =
    record {
      says = says_refused d (rw w);
      gives = λ e. let z : ◌≡◌ {A = ℕ} 0 1 = cc in absurd (omega arith);
      kept = k;
    }

module _ (book f g : List ℕ) (part : Part) (s : SectionsRead book f g part) where
  -- the sections are refused
  pub checks_sections : {d : Refusal} → part ≡ Err d → Checks book f g (Err d)
  checks_sections {d} told = refused_checks book f g d (entire_is book ∙ s.reads (rest book) ∙ rw told) s.kept

  module _ (r : Read) (told : part ≡ Ok r) (passed : Verdict)
      (p_is : all_pass (book_in book g).steps (placed_in book g) book r.next ≡ passed_of passed r.next) where
    the_rest : entire_book book 0 ≡ rest book (entries_in book g 0) (entries_in book g 129) (nonterminals_in book g)
        (placed_in book g) (steps_in book g) r.next
    the_rest = entire_is book ∙ s.reads (rest book) ∙ follow_read part _ told

    steps_are : (book_in book g).steps ≡ steps_in book g
    unfolding book_in
    steps_are = refl

    pass_is : all_pass (steps_in book g) (placed_in book g) book r.next ≡ passed_of passed r.next
    pass_is = rw steps_are at p_is

    -- a variant doesn't pass
    pub checks_passing : {d : Refusal} → passed ≡ Err d → Checks book f g (Err d)
    checks_passing {d} told' = refused_checks book f g d (the_rest ∙ rw (pass_is, told')) s.kept

    module _ (told' : passed ≡ Ok tt) where
      -- bytes are left over
      pub checks_over : r.next < length book →
          Checks book f g (Err (record { fault = Fault.BytesLeftOver; place = r.next }))
      unfolding ended
      checks_over h = refused_checks book f g _ (the_rest ∙ rw (pass_is, told', lt-ltb r.next (length book) h)) s.kept

      abbrev gathered : Book
      gathered = record {
        words = entries_in book g 0;
        names = entries_in book g 129;
        nonterminals = nonterminals_in book g;
        variants = map (λ v. v.1) (placed_in book g);
        steps = steps_in book g;
      }

      the_book : gathered ≡ book_in book g
      unfolding book_in
      the_book = rw (map_up_to (λ v. v.1) (placed_from book g) (count_in g 323))

      pub checks_accepted : length book ≤ r.next → Checks book f g (Ok tt)
      unfolding ended check_book
      checks_accepted h =
          let w : entire_book book 0 ≡ accepted gathered r.next =
          the_rest ∙ rw (pass_is, told', le-ltb r.next (length book) h) in
          record { says = says_book {b = gathered} (rw w); gives = λ e. rw w (ap Outcome.book the_book); kept = s.kept }

-- ---- One variant
module _ (steps : List Step) (v w : Variant) (same_variant : v ≡ w) where
  pub passes_plain : v.passing ≡ false → true ≡ passes steps w
  passes_plain e = rw (← same_variant, e)

  module _ (passing : v.passing ≡ true) where
    pub passes_not_one : (v.count ≡ 1 → ⊥) → false ≡ passes steps w
    passes_not_one h = rw (← same_variant, passing, ne_eqb v.count 1 h)

    pub passes_one : v.count ≡ 1 → (s : Step) (n : ℕ) → s ≡ nth_step steps v.first →
        n ≡ step_number s → eqb n 8 ≡ passes steps w
    passes_one h s n s_is n_is = rw (← same_variant, passing, eq-eqb v.count 1 h, n_is, s_is)

-- ---- The public check
module _ (book f g : List ℕ) (r : Verdict) where
  pub into_long : 1091 ≤ length f → Checks book f g r → CheckedInto book f g r
  into_long h c =
      record {
        says = rw (le-ltb (length f) 1091 h) c.says;
        gives = c.gives;
        beyond = c.kept.above;
        short = λ l. absurd (omega arith);
      }

pub into_short : (book f : List ℕ) → length f < 1091 →
    CheckedInto book f f (Err (record { fault = Fault.ShortIndex; place = 0 }))
into_short book f h =
    record {
      says = says_refused _ (rw (lt-ltb (length f) 1091 h));
      gives = λ e. let z : ◌≡◌ {A = ℕ} 0 1 = cc in absurd (omega arith);
      beyond = λ k l. refl;
      short = λ l. refl;
    }
