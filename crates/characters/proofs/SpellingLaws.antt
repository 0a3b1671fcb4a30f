-- Laws of spellings.
--
--   part-    a part beyond the end, inside, and of as much as there is
--   same-    the test of two spellings tells whether they are equal; and is the library's;
--            from a place on it goes on and ends
use Rattle.std.specs.Prelude.{◌≡◌, refl, true, false, ◌&&◌, List, [], ◌∷◌, ℕ, ◌+◌, ◌-◌, ◌≤◌, ◌<◌, eqb, length, get_or}
use Rattle.std.specs.Prelude.{take, drop}
use Rattle.std.proofs.Common.{sym, ap, ◌∙◌, arith, length-drop, drop_of_length-le, take_all}
use Rattle.std.proofs.Math.Numerals.{add-one}
use Rattle.std.proofs.Math.Seq.{drop-cons, take-nil}
use lib.Pointwise.{pointwise}
use borrow.Author.Tests.{eq-eqb, ne_eqb, eqb-true}
use Rattle.characters.specs.Cases.{by_test, clash}
use Rattle.characters.specs.Spelling.{part_of, same}

-- ---- Parts
module _ (bytes : List ℕ) (start size : ℕ) where
  pub part_out : length bytes ≤ start → part_of bytes start size ≡ []
  part_out h = rw (drop_of_length-le bytes h) (take-nil size)

  pub part_inside : take (start + size - start) (drop start bytes) ≡ part_of bytes start size
  part_inside = let k : start + size - start ≡ size = omega arith in rw k

  -- as much as there is
  pub part_rest : length bytes - start ≤ size → take (length bytes - start) (drop start bytes) ≡ part_of bytes start
      size
  part_rest h =
      let l = length-drop start bytes in
      take_all (length bytes - start) (drop start bytes) (omega arith)
      ∙ sym (take_all size (drop start bytes) (omega arith))

-- ---- Equality
-- the test tells whether the two lists are equal
pub same_equal : (a b : List ℕ) → same a b ≡ true → a ≡ b
unfolding same
same_equal [] [] e = refl
same_equal [] (y ∷ b) e = clash refl (sym e)
same_equal (x ∷ a) [] e = clash refl (sym e)
same_equal (x ∷ a) (y ∷ b) e =
    by_test (eqb x y)
    (λ t. let tails = same_equal a b (rw t at e) in let heads = eqb-true x y t in cc)
    (λ t. clash e (rw t))

pub same_itself : (a : List ℕ) → same a a ≡ true
unfolding same
same_itself [] = refl
same_itself (x ∷ a) = rw (eq-eqb x x refl) (same_itself a)

pub same_lengths : (a b : List ℕ) → (length a ≡ length b → ⊥) → same a b ≡ false
same_lengths a b h = by_test (same a b) (λ e. absurd (h (ap length (same_equal a b e)))) (λ e. e)

-- the library's test of two lists is this one
pub same_pointwise : (a b : List ℕ) → same a b ≡ pointwise eqb a b
unfolding same
same_pointwise [] [] = refl
same_pointwise [] (y ∷ b) = refl
same_pointwise (x ∷ a) [] = refl
same_pointwise (x ∷ a) (y ∷ b) = ap (λ t. eqb x y && t) (same_pointwise a b)

-- from a place on, of two lists of one length
module _ (a b : List ℕ) (i : ℕ) (h : i < length a) (equal : length a ≡ length b) where
  in_b : i < length b
  in_b = omega arith

  pub same_on : get_or a i 0 ≡ get_or b i 0 → same (drop i a) (drop i b) ≡ same (drop (i + 1) a) (drop (i + 1) b)
  unfolding same
  same_on e = rw (drop-cons a i 0 h, drop-cons b i 0 in_b, add-one, eq-eqb (get_or a i 0) (get_or b i 0) e)

  pub same_differ : (get_or a i 0 ≡ get_or b i 0 → ⊥) → same (drop i a) (drop i b) ≡ false
  unfolding same
  same_differ e = rw (drop-cons a i 0 h, drop-cons b i 0 in_b, ne_eqb (get_or a i 0) (get_or b i 0) e)

pub same_end : (a b : List ℕ) (i : ℕ) → length a ≤ i → length a ≡ length b → same (drop i a) (drop i b) ≡ true
unfolding same
same_end a b i h equal = let k : length b ≤ i = omega arith in rw (drop_of_length-le a h, drop_of_length-le b k)
