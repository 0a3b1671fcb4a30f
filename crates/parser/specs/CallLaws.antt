-- Laws for calls: a use of a nonterminal, its first run and further runs. One for each return and each turn of a loop,
-- over the code's own values.
--
-- Contents:
-- - runners: runner_some
-- - a use of a nonterminal: enter_over, enter_runs
-- - the runs of a call: run_call_over, run_call_rounds
-- - further runs: rounds_none, rounds_over, rounds_again
use Rattle.std.specs.Prelude.{◌≡◌, true, false, List, ℕ, zero, suc, ◌+◌, ◌-◌, ◌<◌, ◌≤◌}
use Rattle.std.proofs.Common.{sym, subst, ◌∙◌, arith, sub-one}
use Rattle.std.proofs.Math.Path.{ap}
use Rattle.std.specs.Prelude.{Some}
use Rattle.book.specs.Book.{Book}
use Rattle.semantics.specs.Run.{Result}
use Rattle.run_model.specs.Rows.{Row, on_row, opened}
use Rattle.run_model.specs.Model as model
use Rattle.run_model.specs.Model.{RowState, row_state, outcome, RowRunner}
use Rattle.run_model.specs.Model.{one_run_rows, rounds_rows, run_call_rows, enter_rows, runner_rows}
use Rattle.transitions.specs.Results.{Entered, Outcome, RunEnd, without_failure}
use Rattle.transitions.specs.declared.outcomes.State.{State}
use Rattle.transitions.specs.Outcomes.{cells_of, Held, given, Ran, Runs}
use Rattle.transitions.specs.Entering.{inner_runner, goes_in, BeginsUse, goes_again, FirstEnded, RoundEnded}
use Rattle.parser.specs.ResultLaws.{Going, sub_turn, sub_end}

-- ---- Runners
pub runner_some : (book : Book) (text : List ℕ) (n : ℕ) → 0 < n →
    runner_rows book text n ≡ Some (inner_runner book text n)
unfolding runner_rows
runner_some book text zero h = absurd (omega (arith, h))
runner_some book text (suc n) h = rw sub-one

-- ---- A use of a nonterminal
module _ (book : Book) (text st0 st1 : List ℕ) (T U : List Row) (n b N u : ℕ) (s : State) (e : Entered)
    (E : BeginsUse book text st0 st1 T U n b N u s e) where
  pub enter_over : e.runs ≡ false →
      Runs text st0 s.cells st1 U e.outcome
      (λ cells. enter_rows book text (runner_rows book text n) n b N u (row_state s.units cells T))
  unfolding goes_in
  enter_over h held = let d = E.does held in record { is = rw (h, goes_in) at d.is; held = d.held }

  pub enter_runs : (st2 : List ℕ) (U1 : List Row) (r : Outcome) → e.runs ≡ true →
      Runs text st1 e.outcome.state.cells st2 U1 r (λ cells.
      run_call_rows book text (inner_runner book text n) n b N u e.minimum
      (row_state e.outcome.state.units cells U)) →
      Runs text st0 s.cells st2 U1 r
      (λ cells. enter_rows book text (runner_rows book text n) n b N u (row_state s.units cells T))
  unfolding goes_in
  enter_runs st2 U1 r h k held =
      let d = E.does held in
      let q = k d.held in
      record { is = q.is ∙ (rw (h, goes_in) at d.is); held = q.held }

-- ---- The runs of a call
module _ (book : Book) (text st0 st1 : List ℕ) (T T1 U U1 : List Row) (n b N u m : ℕ) (s : State) (run : RowRunner)
    (o : Outcome) (e : RunEnd) (eo : T1 ≡ on_row T n (opened b N u))
    (one : Runs text st0 s.cells st1 U o (λ cells. one_run_rows book text run n m (row_state s.units cells T1)))
    (fe : FirstEnded U U1 n o e) where
  first_run : Held text st0 s.cells →
      goes_again (λ t. rounds_rows book text 65 run n m t) e (cells_of st1 e.outcome.state.cells) U1 ≡
      run_call_rows book text run n b N u m (row_state s.units (cells_of st0 s.cells) T)
  unfolding run_call_rows
  first_run held =
      let again : RowState → Result model.Outcome = λ t. rounds_rows book text 65 run n m t in
      ap (λ k. goes_again again e (cells_of st1 k) U1) fe.cells
      ∙ fe.is book text again (cells_of st1 o.state.cells) ∙ rw ((one held).is, eo)

  keep : Held text st0 s.cells → Held text st1 e.outcome.state.cells
  keep held = subst (λ k. Held text st1 k) (sym fe.cells) (one held).held

  pub run_call_over : e.again ≡ false →
      Runs text st0 s.cells st1 U1 e.outcome
      (λ cells. run_call_rows book text run n b N u m (row_state s.units cells T))
  unfolding goes_again
  run_call_over h held = record { is = rw (h, goes_again) at (first_run held); held = keep held }

  pub run_call_rounds : (st2 : List ℕ) (U2 : List Row) (r : Outcome) → e.again ≡ true →
      Runs text st1 e.outcome.state.cells st2 U2 r
      (λ cells. rounds_rows book text 65 run n m (row_state e.outcome.state.units cells U1)) →
      Runs text st0 s.cells st2 U2 r (λ cells. run_call_rows book text run n b N u m (row_state s.units cells T))
  unfolding goes_again
  run_call_rounds st2 U2 r h k held =
      let q = k (keep held) in
      record { is = q.is ∙ (rw (h, goes_again) at (first_run held)); held = q.held }

-- ---- Further runs
module _ (book : Book) (text : List ℕ) (run : RowRunner) (n m i : ℕ) (st0 : List ℕ) (c0 : ℕ) (z : Result model.Outcome)
    (st : List ℕ) (T : List Row) (s : State)
    (inv : Held text st0 c0 → Going text st s.cells
    (rounds_rows book text (65 - i) run n m (row_state s.units (cells_of st s.cells) T)) z) where
  pub rounds_none : (r : Outcome) → r ≡ without_failure 22 s → 65 ≤ i → Held text st0 c0 → Ran text st T r z
  unfolding rounds_rows given
  rounds_none r er h held = let g = inv held in rw er (record { is = rw (sub_end 65 i h) at g.is; held = g.held })

  module _ (st1 : List ℕ) (U U1 : List Row) (o : Outcome) (e : RunEnd) (l : i < 65)
      (one : Runs text st s.cells st1 U o (λ cells. one_run_rows book text run n m (row_state s.units cells T)))
      (re : RoundEnded U U1 n o e) where
    round : Held text st0 c0 →
        goes_again (λ t. rounds_rows book text (65 - (i + 1)) run n m t) e (cells_of st1 e.outcome.state.cells) U1 ≡ z
    unfolding rounds_rows
    round held =
        let g = inv held in
        let again : RowState → Result model.Outcome = λ t. rounds_rows book text (65 - (i + 1)) run n m t in
        ap (λ k. goes_again again e (cells_of st1 k) U1) re.cells
        ∙ re.is book text again (cells_of st1 o.state.cells)
        ∙ rw (one g.held).is (rw (sub_turn 65 i l) at g.is)

    keep_on : Held text st0 c0 → Held text st1 e.outcome.state.cells
    keep_on held = subst (λ k. Held text st1 k) (sym re.cells) (one (inv held).held).held

    pub rounds_over : e.again ≡ false → Held text st0 c0 → Ran text st1 U1 e.outcome z
    unfolding goes_again
    rounds_over h held = record { is = rw (h, goes_again) at (round held); held = keep_on held }

    pub rounds_again : e.again ≡ true → Held text st0 c0 →
        Going text st1 e.outcome.state.cells
        (rounds_rows book text (65 - (i + 1)) run n m
        (row_state e.outcome.state.units (cells_of st1 e.outcome.state.cells) U1)) z
    unfolding goes_again
    rounds_again h held = record { is = rw (h, goes_again) at (round held); held = keep_on held }
