-- What the code promises of a call before and after its runs, by the model of the crate run_model. Scaffolding: no
-- definition of document 01.
--
-- The letters are the model's; n is the row of the use or call, T and U are the tables before and after.
use Rattle.std.specs.Prelude.{◌≡◌, true, List, ℕ, ◌-◌, ◌<◌}
use Rattle.std.specs.Prelude.{Option}
use Rattle.book.specs.Book.{Book}
use Rattle.semantics.specs.Tokens.{when}
use Rattle.semantics.specs.Steps.{Todo}
use Rattle.semantics.specs.Errors.{join_with}
use Rattle.semantics.specs.Cells.{Cell}
use Rattle.semantics.specs.Uses.{has_mark}
use Rattle.semantics.specs.Run.{Result, ok, ◌>>=◌, begin, counted}
use Rattle.run_model.specs.Rows.{Row, row_of}
use Rattle.run_model.specs.Model.{RowState, row_state, Outcome, outcome, RowRunner, makes, at_row, bare_call}
use Rattle.run_model.specs.Model.{take_variant}
use Rattle.run_model.specs.Model.{settle, settle_first}
use Rattle.run_model.specs.Model.{run_call_rows, run_identifier_rows, nested_rows, stored_rows, enter_rows, steps_rows}
use Rattle.run_model.specs.Model.{runner_rows}
use Rattle.calls.specs.Table.{after_run}
use Rattle.calls.specs.declared.settling.Settled.{Settled}
use Rattle.errors.specs.Maps.{failure_of}
use Rattle.errors.specs.Maps.{Failure}
use Rattle.transitions.specs.Results.{Entered, Reached, RunEnd}
use Rattle.transitions.specs.Results as code
use Rattle.transitions.specs.declared.outcomes.State.{State}
use Rattle.transitions.specs.declared.stages.Doing.{Doing}
use Rattle.transitions.specs.Outcomes.{cells_of, Held, given, failure_at}
use Rattle.transitions.specs.Steps.{resumes}

-- ---- Entering, with a binder b
-- stored parses
pub record Stores (T U : List Row) (g n N u : ℕ) (s : State) (r : code.Outcome) : Type 0 where
  pub is : (book : Book) (text : List ℕ) (inner : Option RowRunner) (cells : List Cell) →
      given r cells U ≡ ok (stored_rows book text inner n g N u (row_state s.units cells T))
  pub cells : r.state.cells ≡ s.cells

-- what runs a variant of a call of row n, where n is not 0
abbrev pub inner_runner : Book → List ℕ → ℕ → RowRunner
inner_runner book text n = steps_rows book text (runner_rows book text (n - 1)) (n - 1)

-- a use goes on to its runs, or is over
unfoldable pub goes_in : Book → List ℕ → ℕ → ℕ → ℕ → ℕ → Entered → List Cell → List Row → Result Outcome
goes_in book text n b N u e cells T =
    when e.runs
    (λ _.
    run_call_rows book text (inner_runner book text n) n b N u e.minimum (row_state e.outcome.state.units cells T))
    (λ _. given e.outcome cells T)

-- what a use comes to is what the model gives, and the store holds its cells
pub record Entering (book : Book) (text store : List ℕ) (T : List Row) (n b N u : ℕ) (e : Entered)
    (z : Result Outcome) : Type 0 where
  pub is : goes_in book text n b N u e (cells_of store e.outcome.state.cells) T ≡ z
  pub held : Held text store e.outcome.state.cells

-- one level of nesting, after the unit and the governor
pub record Opens (book : Book) (text before after : List ℕ) (T U : List Row) (n b N u m : ℕ) (s : State)
    (e : Entered) : Type 0 where
  pub does : Held text before s.cells → Entering book text after U n b N u e
      (let t = row_state s.units (cells_of before s.cells) T in
      nested_rows book text (runner_rows book text n) n t (λ run.
      when (has_mark book 2 N) (λ _. run_identifier_rows book text n b N u t)
      (λ _. run_call_rows book text run n b N u m t)))
  -- a use that is to be run has a level of nesting left
  pub above : e.runs ≡ true → 0 < n

-- a use of a nonterminal
pub record BeginsUse (book : Book) (text before after : List ℕ) (T U : List Row) (n b N u : ℕ) (s : State)
    (e : Entered) : Type 0 where
  pub does : Held text before s.cells → Entering book text after U n b N u e
      (enter_rows book text (runner_rows book text n) n b N u (row_state s.units (cells_of before s.cells) T))
  -- a use that is to be run has a level of nesting left
  pub above : e.runs ≡ true → 0 < n

-- ---- Runs
-- a call is run again, or over
unfoldable pub goes_again : (RowState → Result Outcome) → RunEnd → List Cell → List Row → Result Outcome
goes_again again e cells T =
    when e.again (λ _. again (row_state e.outcome.state.units cells T)) (λ _. given e.outcome cells T)

pub record SettledAs (T : List Row) (n : ℕ) (how : Settled) (failure : Failure) (s : State) (e : RunEnd) : Type 0 where
  pub is : (again : RowState → Result Outcome) (cells : List Cell) →
      goes_again again e cells T ≡ after_run how n again (failure_of failure) (row_state s.units cells T)
  pub cells : e.outcome.state.cells ≡ s.cells

-- the first run is over
pub record FirstEnded (T U : List Row) (n : ℕ) (o : code.Outcome) (e : RunEnd) : Type 0 where
  pub is : (book : Book) (text : List ℕ) (again : RowState → Result Outcome) (cells : List Cell) →
      goes_again again e cells U ≡ (given o cells T >>= (λ y. settle_first book text n again y))
  pub cells : e.outcome.state.cells ≡ o.state.cells

-- a further run is over
pub record RoundEnded (T U : List Row) (n : ℕ) (o : code.Outcome) (e : RunEnd) : Type 0 where
  pub is : (book : Book) (text : List ℕ) (again : RowState → Result Outcome) (cells : List Cell) →
      goes_again again e cells U ≡ (given o cells T >>= (λ y. settle book text n again y.state))
  pub cells : e.outcome.state.cells ≡ o.state.cells

-- ---- Variants
-- a variant has begun, whatever runs its steps
pub record Begun (book : Book) (text store : List ℕ) (T U : List Row) (c j units : ℕ) (cells : List Cell)
    (r : Reached) : Type 0 where
  pub is : (inner : Option RowRunner) (n : ℕ) (rest : List (Todo ℕ)) →
      resumes book text inner n c j rest Doing.Steps r.place r.items
      (given r.outcome (cells_of store r.outcome.state.cells) U)
      ≡ (makes (begin book text j) (row_state units cells T) >>= (λ b.
      steps_rows book text inner n c j rest (row_of T c).start b.cell (at_row c (take_variant book text j) b.state)))
  pub held : Held text store r.outcome.state.cells
  pub start : r.place ≡ (row_of T c).start

abbrev pub Begins : Book → List ℕ → List ℕ → List ℕ → List Row → List Row → ℕ → ℕ → State → Reached → Type 0
Begins book text before after T U n j s r =
    Held text before s.cells → Begun book text after T U n j s.units (cells_of before s.cells) r

-- what a variant gave is counted
pub record VariantEnded (book : Book) (j start : ℕ) (before o r : code.Outcome) : Type 0 where
  pub is : (text : List ℕ) (N : ℕ) (cells : List Cell) (T : List Row) →
      given r cells T ≡ (given o cells T >>= (λ y.
      ok (outcome (join_with (failure_of (failure_at before)) (counted book text (bare_call N start) j y.failure))
      y.state)))
  pub cells : r.state.cells ≡ o.state.cells
