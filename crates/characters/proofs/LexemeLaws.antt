-- Laws of identifiers and numbers.
--
--   identifier-   when one begins at a place, and that it ends behind its start and within the text
--   decimal-      the number that digits spell, digit by digit
--   number-       when one begins at a place, whether it is too large, and the same bounds
--
-- Not here: where a span ends (SkippingLaws).
use Rattle.std.specs.Prelude.{Some, None, ◌≡◌, true, false, List, [], ◌∷◌, ℕ, ◌+◌, ◌-◌, ◌*◌, ◌^◌, ◌≤◌, ◌<◌, eqb, ltb}
use Rattle.std.specs.Prelude.{leb, length, get_or, drop}
use Rattle.std.proofs.Common.{sym, ◌∙◌, arith, add-one, drop_of_length-le, drop-cons}
use Rattle.std.proofs.Math.ListN.{get_or-eq_default}
use borrow.Author.Tests.{le-leb, lt-leb, leb-true, leb-false, eq-eqb, ne_eqb, eqb-true, eqb-false, ltb-true, ltb-false}
use Rattle.characters.specs.Cases.{by_test, clash}
use Rattle.characters.specs.Classes.{is_of, class_of}
use Rattle.characters.specs.Skipping.{span_end}
use Rattle.characters.proofs.SkippingLaws.{span_forward, span_within, span_out}
use Rattle.characters.specs.Spelling.{part_of}
use Rattle.characters.specs.Lexemes.{identifier_at, decimal, largest, number_of, number_at}
use Rattle.characters.specs.declared.classes.Class.TheVariants.{Letter}
use Rattle.characters.specs.declared.skipping.Span.TheVariants.{Word, Digits}
use Rattle.characters.specs.declared.lexemes.Number.{Number}

-- ---- Identifiers
module _ (text : List ℕ) (place : ℕ) where
  letter_inside : is_of Letter (get_or text place 0) ≡ true → place < length text
  unfolding class_of
  letter_inside e =
      by_test (ltb place (length text)) (λ t. ltb-true _ _ t)
      (λ t. clash e (rw (get_or-eq_default text 0 (ltb-false place (length text) t))))

  pub identifier_letter : is_of Letter (get_or text place 0) ≡ true →
      identifier_at text place ≡ Some (span_end Word text (place + 1))
  unfolding identifier_at
  identifier_letter e = rw e

  pub identifier_none : is_of Letter (get_or text place 0) ≡ false → identifier_at text place ≡ None
  unfolding identifier_at
  identifier_none e = rw e

  -- nothing begins beyond the end
  pub identifier_out : length text ≤ place → identifier_at text place ≡ None
  identifier_out h =
      by_test (is_of Letter (get_or text place 0)) (λ e. absurd (omega (arith, letter_inside e)))
      (λ e. identifier_none e)

  pub identifier_bounds : (end : ℕ) → identifier_at text place ≡ Some end →
      (place < end) × (end ≤ length text)
  identifier_bounds end e =
      by_test (is_of Letter (get_or text place 0))
      (λ t. let inside = letter_inside t in
      let l = identifier_letter t in
      let q : span_end Word text (place + 1) ≡ end = cc in (
        omega (arith, span_forward Word text (place + 1)),
        omega (arith, span_within Word text (place + 1) (omega arith)),
      ))
      (λ t. let n = identifier_none t in let z : ◌≡◌ {A = ℕ} 0 1 = cc in absurd (omega arith))

-- ---- Numbers
pub decimal_grows : (value : ℕ) (digits : List ℕ) → value ≤ decimal value digits
unfolding decimal
decimal_grows value [] = omega arith
decimal_grows value (digit ∷ digits) = let h = decimal_grows (value * 10 + (digit - 48)) digits in omega arith

pub decimal_on : (value : ℕ) (digits : List ℕ) (i : ℕ) → i < length digits →
    decimal value (drop i digits) ≡ decimal (value * 10 + (get_or digits i 0 - 48)) (drop (i + 1) digits)
unfolding decimal
decimal_on value digits i h = rw (drop-cons digits i 0 h, add-one)

-- a value that is too large after a digit stays so
pub decimal_large : (value : ℕ) (digits : List ℕ) (i : ℕ) → i < length digits →
    largest < value * 10 + (get_or digits i 0 - 48) → largest < decimal value (drop i digits)
decimal_large value digits i h l =
    let g = decimal_grows (value * 10 + (get_or digits i 0 - 48)) (drop (i + 1) digits) in
    rw (decimal_on value digits i h) (omega arith)

pub decimal_end : (value : ℕ) (digits : List ℕ) (i : ℕ) → length digits ≤ i → decimal value (drop i digits) ≡ value
unfolding decimal
decimal_end value digits i h = rw (drop_of_length-le digits h)

pub number_fits : (value end : ℕ) → value ≤ largest → number_of value end ≡ Number.Value value end
unfolding number_of
number_fits value end h = rw (le-leb value largest h)

pub number_large : (value end : ℕ) → largest < value → number_of value end ≡ Number.TooLarge
unfolding number_of
number_large value end h = rw (lt-leb value largest h)

number_told : (v last value end : ℕ) → number_of v last ≡ Number.Value value end → (value < 2 ^ 64) × (last ≡ end)
number_told v last value end e =
    by_test (leb v largest)
    (λ t. let h = leb-true v largest t in
    let f = number_fits v last h in
    let q : v ≡ value = cc in
    (omega arith, cc))
    (λ t. let f = number_large v last (leb-false v largest t) in let z : ◌≡◌ {A = ℕ} 0 1 = cc in absurd (omega arith))

module _ (text : List ℕ) (place : ℕ) where
  pub number_none : span_end Digits text place ≡ place → number_at text place ≡ Number.Nothing
  unfolding number_at
  number_none e = rw (eq-eqb (span_end Digits text place) place e)

  -- nothing begins beyond the end
  pub number_out : length text ≤ place → number_at text place ≡ Number.Nothing
  number_out h = number_none (span_out Digits text place h)

  pub number_some : (span_end Digits text place ≡ place → ⊥) →
      number_at text place
      ≡ number_of (decimal 0 (part_of text place (span_end Digits text place - place))) (span_end Digits text place)
  unfolding number_at
  number_some h = rw (ne_eqb (span_end Digits text place) place h)

  pub number_bounds : (value end : ℕ) → number_at text place ≡ Number.Value value end →
      (place < end) × (end ≤ length text) × (value < 2 ^ 64)
  number_bounds value end e =
      by_test (eqb (span_end Digits text place) place)
      (λ t. let n = number_none (eqb-true _ _ t) in let z : ◌≡◌ {A = ℕ} 0 1 = cc in absurd (omega arith))
      (λ t. let moved = eqb-false (span_end Digits text place) place t in
      let told =
      number_told (decimal 0 (part_of text place (span_end Digits text place - place))) (span_end Digits text place)
      value
      end (sym (number_some moved) ∙ e) in
      let forward = span_forward Digits text place in
      let inside : place ≤ length text =
      by_test (ltb place (length text)) (λ l. omega (arith, ltb-true place (length text) l))
      (λ l. absurd (moved (span_out Digits text place (ltb-false place (length text) l)))) in
      (omega (arith, moved), omega (arith, span_within Digits text place inside), told.0))
