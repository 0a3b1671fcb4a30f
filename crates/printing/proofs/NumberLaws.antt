-- Laws of numbers.
--
--   decimal_digit, decimal_digits     a number in decimal: its last digit, and those before
--   feeds_counted                     line feeds, as the library counts what passes a test
--   column_step, column_end           the loop for the column of a place
--   after-, column_bounds             the column after a byte
use Rattle.std.specs.Prelude.{◌≡◌, refl, List, [], ◌∷◌, ◌++◌, ℕ, zero, suc, ◌+◌, ◌/◌, ◌%◌, ◌≤◌, ◌<◌, ltb, eqb, length}
use Rattle.std.specs.Prelude.{get_or, drop, cond, count_by}
use Rattle.std.proofs.Common.{sym, ap, ◌∙◌, arith, drop_of_length-le, drop-cons}
use Rattle.std.proofs.Math.Numerals.{add-one}
use borrow.Author.Tests.{lt-ltb, le-ltb, ltb-true, ltb-false, eq-eqb, ne_eqb}
use Rattle.std.proofs.lemmas.List.Recursion.{is_count_by}
use Rattle.characters.specs.Cases.{by_test}
use Rattle.printing.specs.Printing.{digits, decimal, line_feeds, tab_stop, column_after, column_from}

-- ---- Digits
module _ (turns n : ℕ) where
  digits_one : n < 10 → digits (suc turns) n ≡ (48 + n) ∷ []
  unfolding digits
  digits_one h = rw (lt-ltb n 10 h, digits)

  digits_more : 10 ≤ n → digits (suc turns) n ≡ digits turns (n / 10) ++ ((48 + n % 10) ∷ [])
  unfolding digits
  digits_more h = rw (le-ltb n 10 h, digits)

-- more turns than the number has digits change nothing
digits_enough : (k j n : ℕ) → n ≤ k → n ≤ j → digits k n ≡ digits j n
unfolding digits
digits_enough zero zero n h g = refl
digits_enough zero (suc j) n h g = let e : n ≡ 0 = omega arith in rw e
digits_enough (suc k) zero n h g = let e : n ≡ 0 = omega arith in rw e
digits_enough (suc k) (suc j) n h g =
    by_test (ltb n 10)
    (λ t. let small = ltb-true n 10 t in digits_one k n small ∙ sym (digits_one j n small))
    (λ t.
    let large = ltb-false n 10 t in
    digits_more k n large
    ∙ ap (λ (l : List ℕ). l ++ ((48 + n % 10) ∷ [])) (digits_enough k j (n / 10) (omega arith) (omega arith))
    ∙ sym (digits_more j n large))

pub decimal_digit : (n : ℕ) → n < 10 → decimal n ≡ (48 + n % 10) ∷ []
unfolding digits
decimal_digit zero h = refl
decimal_digit (suc m) h = let e : suc m % 10 ≡ suc m = omega arith in digits_one m (suc m) h ∙ rw e

pub decimal_digits : (n : ℕ) → 10 ≤ n → decimal n ≡ decimal (n / 10) ++ ((48 + n % 10) ∷ [])
decimal_digits zero h = absurd (omega arith)
decimal_digits (suc m) h =
    digits_more m (suc m) h ∙ rw (digits_enough m (suc m / 10) (suc m / 10) (omega arith) (omega arith))

-- ---- Line feeds
none : line_feeds [] ≡ 0
unfolding line_feeds
none = refl

more : (b : ℕ) (bytes : List ℕ) →
    line_feeds (b ∷ bytes) ≡ cond (eqb b 10) (1 + line_feeds bytes) (line_feeds bytes)
unfolding line_feeds
more b bytes =
    let one : suc (line_feeds bytes) ≡ 1 + line_feeds bytes = omega arith in
    ap (λ (n : ℕ). cond (eqb b 10) n (line_feeds bytes)) one

pub feeds_counted : (bytes : List ℕ) → count_by (λ b. eqb b 10) bytes ≡ line_feeds bytes
feeds_counted bytes = sym (is_count_by line_feeds (λ b. eqb b 10) none more bytes)

-- ---- The loop for the column
module _ (bytes : List ℕ) (i n : ℕ) where
  pub column_step : i < length bytes →
      column_from (column_after n (get_or bytes i 0)) (drop (i + 1) bytes) ≡ column_from n (drop i bytes)
  unfolding column_from
  column_step h = rw (drop-cons bytes i 0 h, add-one i)

  pub column_end : length bytes ≤ i → column_from n (drop i bytes) ≡ n
  unfolding column_from
  column_end h = rw (drop_of_length-le bytes h)

-- ---- The column after a byte
module _ (column b next : ℕ) where
  pub after_line_feed : b ≡ 10 → next ≡ 1 → next ≡ column_after column b
  unfolding column_after
  after_line_feed e is = rw (eq-eqb b 10 e) is

  pub after_tab : (b ≡ 10 → ⊥) → b ≡ 9 → next ≡ tab_stop column → next ≡ column_after column b
  unfolding column_after
  after_tab h e is = rw (ne_eqb b 10 h, eq-eqb b 9 e) is

  pub after_other : (b ≡ 10 → ⊥) → (b ≡ 9 → ⊥) → next ≡ suc column → next ≡ column_after column b
  unfolding column_after
  after_other h g is = rw (ne_eqb b 10 h, ne_eqb b 9 g) is

-- it is moved by at most 8, and never in front of 1
pub column_bounds : (column b : ℕ) → 1 ≤ column →
    (1 ≤ column_after column b) × (column_after column b ≤ column + 8)
unfolding column_after
column_bounds column b h =
    by_test (eqb b 10)
    (λ t. rw t (omega (arith, h), omega (arith, h)))
    (λ t.
    by_test (eqb b 9)
    (λ u. rw (t, u) (omega (arith, h), omega (arith, h)))
    (λ u. rw (t, u) (omega (arith, h), omega (arith, h))))
