-- Laws of the byte classes.
--
--   class_table, table_length             the table: two classes to a byte
--   half_for, table_at                    the half that has a byte's class, and that the table has it there
--   above_space                          no byte above 32 is whitespace
--
-- Not here: that the table in the source is `class_table`. The proof of `number_of` computes that, once.
use Rattle.std.specs.Prelude.{◌≡◌, refl, Bool, true, false, ◌&&◌, ◌||◌, List, [], ◌∷◌, ℕ, zero, suc, ◌+◌, ◌*◌}
use Rattle.std.specs.Prelude.{◌/◌, ◌%◌, ◌^◌, ◌<◌, leb, eqb, length, get_or}
use Rattle.std.proofs.Common.{sym, ◌∙◌, arith, eqb-true, ne_eqb, le-leb}
use Rattle.std.proofs.lemmas.Bool.{eqb-false, lt-leb}
use Rattle.characters.specs.Cases.{by_test, clash}
use Rattle.characters.specs.Classes.{class_number, class_of, between, is_of}
use Rattle.characters.specs.declared.classes.Class.TheVariants.{Whitespace}

-- the table of a rule: its value at i and at the n - 1 numbers that follow
unfoldable pub tabulate : (ℕ → ℕ) → ℕ → ℕ → List ℕ
tabulate rule i zero = []
tabulate rule i (suc n) = rule i ∷ tabulate rule (suc i) n

-- row r of the table: in its half d, counted from the right, the class of the byte that begins with the hexadecimal
-- digit d and ends in r, for the digits below n
unfoldable pub packed : ℕ → ℕ → ℕ
packed r zero = 0
packed r (suc d) = class_number (class_of (d * 16 + r)) * 2 ^ (d * 4) + packed r d

-- the table: the number of each byte's class, two to a byte
unfoldable pub class_table : List ℕ
class_table = tabulate (λ r. packed r 16) 0 16

pub table_length : length class_table ≡ 16
unfolding class_table tabulate
table_length = refl

-- the half that has a byte's class in its row
abbrev pub half_for : ℕ → ℕ → ℕ
half_for row b = row / 2 ^ (b / 16 * 4) % 16

-- the test: whether rows have the class of each byte below n
unfoldable has_classes : List ℕ → ℕ → Bool
has_classes rows zero = true
has_classes rows (suc b) = eqb (half_for (get_or rows (b % 16) 0) b) (class_number (class_of b)) && has_classes rows b

-- rows that pass have the class of each of these bytes
has_class :
    (rows : List ℕ) (n b : ℕ) → b < n → has_classes rows n ≡ true →
    half_for (get_or rows (b % 16) 0) b ≡ class_number (class_of b)
unfolding has_classes
has_class rows zero b h has = absurd (omega (arith, h))
has_class rows (suc n) b h has =
    by_test (eqb (half_for (get_or rows (n % 16) 0) n) (class_number (class_of n)))
    (λ right.
    let below : has_classes rows (suc n) ≡ has_classes rows n = rw (right) in
    by_test (eqb b n)
    (λ last. rw (eqb-true b n last) (eqb-true _ _ right))
    (λ not_last. has_class rows n b (omega (arith, h, eqb-false b n not_last)) (sym below ∙ has)))
    (λ wrong. clash has (rw (wrong)))

table_has_classes : has_classes class_table 256 ≡ true
unfolding has_classes class_table tabulate packed class_of
table_has_classes = refl

pub table_at : (b : ℕ) → b < 256 → half_for (get_or class_table (b % 16) 0) b ≡ class_number (class_of b)
table_at b h = has_class class_table 256 b h table_has_classes

pub above_space : (b : ℕ) → 32 < b → is_of Whitespace b ≡ false
unfolding class_of
above_space b h =
    let a : between 9 13 b ≡ false = rw (le-leb 9 b (omega arith), lt-leb b 13 (omega arith)) in
    by_test (between 48 57 b) (λ t. rw (a, ne_eqb b 32 (λ e. omega (arith, e)), t)) (λ t.
    by_test (between 65 90 b || between 97 122 b || eqb b 95)
    (λ u. rw (a, ne_eqb b 32 (λ e. omega (arith, e)), t, u)) (λ u.
    by_test (leb 128 b) (λ v. rw (a, ne_eqb b 32 (λ e. omega (arith, e)), t, u, v))
    (λ v. rw (a, ne_eqb b 32 (λ e. omega (arith, e)), t, u, v))))
