-- Laws of the numbers of cells: identities, equality and hashes.
--
-- Contents:
-- - identities by numbers: identity_name, identity_other, identity_numbers
-- - equality: same_forms, same_names, same_a, same_b, same_other
-- - hashes: hash_lt, hash_on, hash_end, hash_name, hash_other
use Rattle.std.specs.Prelude.{◌≡◌, false, ◌&&◌, List, [], ◌∷◌, ℕ, ◌+◌, ◌*◌, ◌≤◌, ◌<◌, eqb, length, get_or, drop}
use Rattle.std.proofs.Common.{sym, ap, ◌∙◌, arith, mod-lt, drop_of_length-le, drop-cons}
use Rattle.std.proofs.Math.Numerals.{add-one}
use borrow.Author.Tests.{eq-eqb, ne_eqb, eqb-true, eqb-false}
use Rattle.characters.specs.Cases.{by_test}
use Rattle.characters.specs.Spelling.{part_of, same}
use Rattle.characters.proofs.SpellingLaws.{same_equal}
use Rattle.semantics.specs.Cells.{Cell, numbers_of, identity_of}
use Rattle.cells.specs.declared.numbers.CellNumbers.{CellNumbers}
use Rattle.cells.specs.Store.{listed, identity_in, same_in, mixed, hash_from, hash_of}

-- ---- Identities by numbers
module _ (text : List ℕ) (c : CellNumbers) where
  pub identity_name : c.form ≡ 4 → identity_in text c ≡ 4 ∷ part_of text c.a c.b
  unfolding identity_in
  identity_name e = rw (eq-eqb c.form 4 e)

  pub identity_other : (c.form ≡ 4 → ⊥) → identity_in text c ≡ listed c
  unfolding identity_in
  identity_other h = rw (ne_eqb c.form 4 h)

pub identity_numbers : (text : List ℕ) (cell : Cell) (c : CellNumbers) → listed c ≡ numbers_of cell →
    identity_in text c ≡ identity_of text cell
unfolding identity_of numbers_of
identity_numbers text Cell.empty c e = let form : c.form ≡ 1 = cc in identity_other text c (λ z. omega arith) ∙ e
identity_numbers text (Cell.chain items item) c e =
    let form : c.form ≡ 2 = cc in identity_other text c (λ z. omega arith) ∙ e
identity_numbers text (Cell.variant j items) c e =
    let form : c.form ≡ 3 = cc in identity_other text c (λ z. omega arith) ∙ e
identity_numbers text (Cell.name place size) c e =
    let form : c.form ≡ 4 = cc in
    let places : c.a ≡ place = cc in
    let sizes : c.b ≡ size = cc in
    identity_name text c form ∙ rw (places, sizes)
identity_numbers text (Cell.number high low) c e =
    let form : c.form ≡ 5 = cc in identity_other text c (λ z. omega arith) ∙ e
identity_numbers text (Cell.variable i kind) c e =
    let form : c.form ≡ 6 = cc in identity_other text c (λ z. omega arith) ∙ e
identity_numbers text Cell.absent c e = let form : c.form ≡ 7 = cc in identity_other text c (λ z. omega arith) ∙ e
identity_numbers text (Cell.list items) c e =
    let form : c.form ≡ 8 = cc in identity_other text c (λ z. omega arith) ∙ e
identity_numbers text (Cell.declared depth index) c e =
    let form : c.form ≡ 9 = cc in identity_other text c (λ z. omega arith) ∙ e

-- ---- Equality
module _ (text : List ℕ) (c d : CellNumbers) where
  identity_form : (x : CellNumbers) → get_or (identity_in text x) 0 0 ≡ x.form
  identity_form x =
      by_test (eqb x.form 4)
      (λ t. let e = eqb-true x.form 4 t in rw (identity_name text x e, e))
      (λ t. rw (identity_other text x (eqb-false x.form 4 t)))

  pub same_forms : (c.form ≡ d.form → ⊥) → same_in text c d ≡ false
  same_forms h =
      by_test (same_in text c d)
      (λ t.
      let e = ap (λ (l : List ℕ). get_or l 0 0) (same_equal (identity_in text c) (identity_in text d) t) in
      absurd (h (sym (identity_form c) ∙ e ∙ identity_form d)))
      (λ t. t)

  module _ (forms : c.form ≡ d.form) where
    pub same_names : c.form ≡ 4 → same_in text c d ≡ same (part_of text c.a c.b) (part_of text d.a d.b)
    unfolding same
    same_names e = rw (identity_name text c e, identity_name text d (sym forms ∙ e), same)

    module _ (other : c.form ≡ 4 → ⊥) where
      by_numbers : same_in text c d ≡ same (listed c) (listed d)
      by_numbers = rw (identity_other text c other, identity_other text d (λ e. other (forms ∙ e)))

      pub same_a : (c.a ≡ d.a → ⊥) → same_in text c d ≡ false
      unfolding same
      same_a h = by_numbers ∙ rw (eq-eqb c.form d.form forms, ne_eqb c.a d.a h)

      pub same_b : c.a ≡ d.a → same_in text c d ≡ eqb c.b d.b
      unfolding same
      same_b e =
          by_numbers ∙ rw (eq-eqb c.form d.form forms, eq-eqb c.a d.a e)
          (by_test (eqb c.b d.b) (λ t. rw t) (λ t. rw t))

  -- cells that aren't both names are equal by their numbers
  pub same_other : (c.form ≡ 4 → d.form ≡ 4 → ⊥) →
      same_in text c d ≡ (eqb c.form d.form && (eqb c.a d.a && eqb c.b d.b))
  same_other h =
      by_test (eqb c.form d.form)
      (λ t.
      let forms = eqb-true c.form d.form t in
      let other : c.form ≡ 4 → ⊥ = λ e. h e (sym forms ∙ e) in
      by_test (eqb c.a d.a)
      (λ u. same_b forms other (eqb-true c.a d.a u) ∙ rw (t, u))
      (λ u. same_a forms other (eqb-false c.a d.a u) ∙ rw (t, u)))
      (λ t. same_forms (eqb-false c.form d.form t) ∙ rw t)

-- ---- Hashes
hash_from_lt : (hash : ℕ) (xs : List ℕ) → hash < 1024 → hash_from hash xs < 1024
unfolding hash_from
hash_from_lt hash [] h = h
hash_from_lt hash (x ∷ xs) h = hash_from_lt (mixed hash x) xs (mod-lt (hash * 31 + x) (omega arith))

pub hash_lt : (text : List ℕ) (c : CellNumbers) → hash_of text c < 1024
hash_lt text c = hash_from_lt 0 _ (omega arith)

module _ (hash : ℕ) (bytes : List ℕ) (i : ℕ) where
  pub hash_on : i < length bytes →
      hash_from hash (drop i bytes) ≡ hash_from (mixed hash (get_or bytes i 0)) (drop (i + 1) bytes)
  unfolding hash_from
  hash_on h = rw (drop-cons bytes i 0 h, add-one, hash_from)

  pub hash_end : length bytes ≤ i → hash_from hash (drop i bytes) ≡ hash
  unfolding hash_from
  hash_end h = rw (drop_of_length-le bytes h)

module _ (text : List ℕ) (c : CellNumbers) where
  pub hash_name : c.form ≡ 4 → hash_of text c ≡ hash_from 4 (part_of text c.a c.b)
  unfolding hash_from
  hash_name e = rw (identity_name text c e)

  pub hash_other : (c.form ≡ 4 → ⊥) → hash_of text c ≡ mixed (mixed (mixed 0 c.form) c.a) c.b
  unfolding hash_from
  hash_other h = rw (identity_other text c h)
