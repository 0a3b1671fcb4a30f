-- The run over the rows gives what the definition of the run gives, whatever the rows held at first: `rows_run`.
-- Scaffolding: no definition of document 01.
--
-- Plan: the runners are alike, by recursion on the levels left (SimSteps); then `sim_enter` (SimCalls) at row 200,
-- above which no row is.
use Rattle.std.specs.Prelude.{◌≡◌, refl, List, [], length}
use Rattle.std.proofs.Common.{◌∙◌, arith}
use Prim.Native.Nat.{ℕ, zero, suc}
use Rattle.characters.specs.Skipping.{skip_from}
use Rattle.book.specs.Book.{Book}
use Rattle.semantics.specs.Uses.{scope_of}
use Rattle.semantics.specs.Run.{Result, met, ok, Parsed, parsed, runner, run}
use Rattle.run_model.specs.Rows.{Row, row_of, open_from, behind_names, path_from, scope_at}
use Rattle.run_model.specs.Model.{row_state, Outcome, runner_rows, enter_rows}
use Rattle.run_model.proofs.KeepsRun.{keeping_steps, keeps_runner}
use Rattle.run_model.proofs.Sim.{state_of, see, found_at, Kin, last, more}
use Rattle.run_model.proofs.SimCalls.{sim_enter}
use Rattle.run_model.proofs.SimSteps.{sim_steps}

-- what a caller of the whole run sees of its result: the parses found stand in row 200
unfoldable pub seen : Result Outcome → Result Parsed
seen (met number units) = met number units
seen (ok o) =
    ok (parsed (row_of o.state.rows 200).set o.failure (state_of o.state.units o.state.cells []))

seen_is : (y : Result Outcome) → see (found_at 200) y ≡ seen y
unfolding see seen open_from
seen_is (met number units) = refl
seen_is (ok o) = refl

module _ (book : Book) (text : List ℕ) where
  pub sim_runner : (n : ℕ) → Kin book text n (runner_rows book text n) (runner book text n)
  unfolding runner_rows runner
  sim_runner zero = last zero
  sim_runner (suc n) =
      more n _ _ (keeping_steps book text n (runner_rows book text n) (keeps_runner book text n)) (record {
        of = λ C c j todo x items s h is.
            sim_steps book text n (runner_rows book text n) (runner book text n) (sim_runner n)
            (omega (arith, h.below, h.within)) C c j
            (omega (arith, h.below)) h.within todo x items s.units s.cells s.rows h is;
      })

pub rows_run : (book : Book) (text : List ℕ) (units start : ℕ) (T : List Row) → length T ≡ 201 →
    run book text units start
    ≡ seen (enter_rows book text (runner_rows book text 200) 200 0 start (skip_from text 0) (row_state units [] T))
unfolding run open_from path_from behind_names scope_at scope_of
rows_run book text units start T size =
    sim_enter book text 200 (runner_rows book text 200) (runner book text 200) (sim_runner book text 200) (omega arith)
    0 start (skip_from text 0) T size refl units []
    ∙ seen_is (enter_rows book text (runner_rows book text 200) 200 0 start (skip_from text 0) (row_state units [] T))
