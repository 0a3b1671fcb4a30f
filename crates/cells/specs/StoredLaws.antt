-- What stands at the head of a store that holds cells: their numbers, so that the cells can be read from it.
--
-- Contents:
-- - stored_numbers, stored_cells_lem
use Rattle.std.specs.Prelude.{◌≡◌, refl, ℕ, suc, ◌+◌, ◌-◌, ◌*◌, ◌≤◌, ◌<◌, length, get_or, take}
use Rattle.std.proofs.Common.{sym, ap, ◌∙◌, arith}
use mathlib.Core.List.{List, [], ◌∷◌, ◌++◌, append-nil}
use Rattle.semantics.specs.Cells.{Cell, numbers_of, cells_in}
use Rattle.semantics.specs.Answer.{cell_numbers}
use Rattle.semantics.proofs.Theorem.Numbers.{cells_in_lem}
use Rattle.cells.specs.Store.{stored_cells, Holds}

-- the three numbers from 3i on
abbrev three_at : List ℕ → ℕ → List ℕ
three_at l i = get_or l (3 * i) 0 ∷ get_or l (3 * i + 1) 0 ∷ get_or l (3 * i + 2) 0 ∷ []

numbers_taken : (cells : List Cell) (l : List ℕ) → 3 * length cells ≤ length l
    → ((i : ℕ) → i < length cells → three_at l i ≡ numbers_of (get_or cells i Cell.empty))
    → take (3 * length cells) l ≡ cell_numbers cells
unfolding cell_numbers
numbers_taken [] l room h = refl
numbers_taken (c ∷ cells) [] room h = absurd (omega arith)
numbers_taken (c ∷ cells) (x ∷ []) room h = absurd (omega arith)
numbers_taken (c ∷ cells) (x ∷ y ∷ []) room h = absurd (omega arith)
numbers_taken (c ∷ cells) (x ∷ y ∷ z ∷ l) room h =
    let three : 3 * suc (length cells) ≡ suc (suc (suc (3 * length cells))) = omega arith in
    let rest : take (3 * length cells) l ≡ cell_numbers cells =
    numbers_taken cells l (omega arith) (λ i m. later i (h (suc i) (omega arith))) in
    rw (three, rest) (ap (λ (these : List ℕ). these ++ cell_numbers cells) (h 0 (omega arith)))
  where
    later : (i : ℕ) → three_at (x ∷ y ∷ z ∷ l) (suc i) ≡ numbers_of (get_or cells i Cell.empty) →
        three_at l i ≡ numbers_of (get_or cells i Cell.empty)
    later i e =
        let first : 3 * suc i ≡ suc (suc (suc (3 * i))) = omega arith in
        let second : 3 * suc i + 1 ≡ suc (suc (suc (3 * i + 1))) = omega arith in
        let third : 3 * suc i + 2 ≡ suc (suc (suc (3 * i + 2))) = omega arith in
        rw (third, second, first) at e

module _ (text store : List ℕ) (cells : List Cell) (held : Holds text store cells) where
  at_three : (i : ℕ) → i < length cells → three_at store i ≡ numbers_of (get_or cells i Cell.empty)
  at_three i l = let place : suc i * 3 - 3 ≡ 3 * i = omega arith in rw place at (held.stored i l)

  pub stored_numbers : take (3 * length cells) store ≡ cell_numbers cells
  stored_numbers = let room = held.room in let few = held.few in numbers_taken cells store (omega arith) at_three

  pub stored_cells_lem : stored_cells store (length cells) ≡ cells
  unfolding cells_in
  stored_cells_lem =
      rw stored_numbers (ap cells_in (sym (append-nil (cell_numbers cells))) ∙ cells_in_lem cells [] ∙ append-nil cells)
