-- What the parts of a run give, as the model of the crate run_model has it, and the cells that the store holds.
-- Scaffolding between that model and the code: no definition of document 01.
use Rattle.std.specs.Prelude.{◌≡◌, Bool, cond, ◌&&◌, List, [], ℕ, eqb, length}
use Rattle.std.specs.Prelude.{None, Some}
use Rattle.semantics.specs.Tokens.{when}
use Rattle.semantics.specs.Cells.{Cell}
use Rattle.semantics.specs.Run as run
use Rattle.semantics.specs.Run.{Result, met, ok, ◌>>=◌, made}
use Rattle.run_model.specs.Rows.{Row}
use Rattle.run_model.specs.Model as model
use Rattle.run_model.specs.Model.{row_state, outcome, spend_rows}
use Rattle.cells.specs.Store.{Holds, stored_cells}
use Rattle.errors.specs.Maps.{failure_of}
use Rattle.errors.specs.Maps.{Failure}
use Rattle.transitions.specs.Results.{CellOutcome, Outcome}
use Rattle.transitions.specs.declared.outcomes.State.{State}

-- ---- Cells
-- the first `count` cells of a store
unfoldable pub cells_of : List ℕ → ℕ → List Cell
cells_of store count = stored_cells store count

-- the store holds its first `count` cells, equal ones once, and its index leads to each
pub record Held (text store : List ℕ) (count : ℕ) : Type 0 where
  pub holds : Holds text store (cells_of store count)
  pub counted : length (cells_of store count) ≡ count

-- a state of the definition, without marks
abbrev pub bare : ℕ → List Cell → run.State
bare units cells = record { units = units; cells = cells; asked = [] }

-- ---- Outcomes
-- its failure
abbrev pub failure_at : Outcome → Failure
failure_at o = cond (eqb o.failed 0) None (Some o.error)

-- an outcome of the code, with the cells and rows that it leaves; a limit forgets them
unfoldable pub given : Outcome → List Cell → List Row → Result model.Outcome
given o cells T =
    when (eqb o.limit 0) (λ _. ok (outcome (failure_of (failure_at o)) (row_state o.state.units cells T)))
    (λ _. met o.limit o.state.units)

-- neither a limit nor a failure
unfoldable pub goes_on : Outcome → Bool
goes_on o = eqb o.limit 0 && eqb o.failed 0

-- what a part leaves: its outcome, the cells of the store and the rows are those of the model
pub record Ran (text store : List ℕ) (T : List Row) (o : Outcome) (z : Result model.Outcome) : Type 0 where
  pub is : given o (cells_of store o.state.cells) T ≡ z
  pub held : Held text store o.state.cells

-- what a part of a run does, where the store holds its cells at first
abbrev pub Runs : List ℕ → List ℕ → ℕ → List ℕ → List Row → Outcome → (List Cell → Result model.Outcome) → Type 0
Runs text before count after T o z = Held text before count → Ran text after T o (z (cells_of before count))

-- a unit was spent
pub record Spent (r : Outcome) (s : State) : Type 0 where
  pub is : (cells : List Cell) (T : List Row) →
      given r cells T ≡ (spend_rows (row_state s.units cells T) >>= (λ t. ok (outcome None t)))
  pub cells : r.state.cells ≡ s.cells

-- ---- Cells that were asked for
unfoldable pub given_cell : CellOutcome → List Cell → Result run.Made
given_cell m cells =
    when (eqb m.limit 0) (λ _. ok (made m.cell (bare m.state.units cells)))
    (λ _. met m.limit m.state.units)

pub record MadeIn (text store : List ℕ) (m : CellOutcome) (z : Result run.Made) : Type 0 where
  pub is : given_cell m (cells_of store m.state.cells) ≡ z
  pub held : Held text store m.state.cells

abbrev pub MadeBy : List ℕ → List ℕ → List ℕ → State → CellOutcome → (run.State → Result run.Made) → Type 0
MadeBy text before after s m f =
    Held text before s.cells → MadeIn text after m (f (bare s.units (cells_of before s.cells)))
