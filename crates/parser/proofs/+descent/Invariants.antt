-- The measures: 2,048 for each level of nesting left, 6 for each step left, and a rank that falls from one function to
-- the next on one level. Each loop keeps that what is still to do gives what was to do when it began.
use Rattle.std.proofs.Common.{◌+◌, ◌-◌, ◌*◌, ◌≤◌}
use Rattle.calls.specs.Lent.{table_in, SameSlice}
use Rattle.parser.specs.ResultLaws.{Going}
use Rattle.parser.specs.Cycle.{InRange, todo_at, further, proceeds, rank_of, rank_begun}
use Rattle.transitions.specs.Entering.{inner_runner}
use Rattle.transitions.specs.Steps.{next_rows}
use Rattle.transitions.specs.Outcomes.{cells_of, Held, given, failure_at}
use Rattle.transitions.specs.Results.{done_with, without_failure}
use Rattle.run_model.specs.Model.{row_state, rounds_rows, variants_rows, follow_from, runner_rows}
use Rattle.errors.specs.Maps.{failure_of}
use Rattle.parser.proofs.+descent.Given as goal

abbrev pub decreases-left_recursion::enter : goal.decreases-left_recursion::enter
decreases-left_recursion::enter l = 2048 * l.row + 5

abbrev pub decreases-left_recursion::call : goal.decreases-left_recursion::call
decreases-left_recursion::call l = 2048 * l.row + 4

abbrev pub decreases-left_recursion::rounds : goal.decreases-left_recursion::rounds
decreases-left_recursion::rounds l = 2048 * l.row + 3

abbrev pub decreases-names::choose : goal.decreases-names::choose
decreases-names::choose l = 2048 * l.free + 8

abbrev pub decreases-names::close : goal.decreases-names::close
decreases-names::close l = 2048 * l.free + 7

abbrev pub decreases-names::declare : goal.decreases-names::declare
decreases-names::declare l = 2048 * l.free + 7

abbrev pub decreases-parser::choice : goal.decreases-parser::choice
decreases-parser::choice l = 2048 * l.free + 6 * l.here.remaining + 9

abbrev pub decreases-parser::descend : goal.decreases-parser::descend
decreases-parser::descend l = 2048 * l.free + 7

abbrev pub decreases-parser::follow : goal.decreases-parser::follow
decreases-parser::follow l = 2048 * l.free + 6

abbrev pub decreases-parser::one_run : goal.decreases-parser::one_run
decreases-parser::one_run l = 2048 * l.row + 2

abbrev pub decreases-parser::steps : goal.decreases-parser::steps
decreases-parser::steps l = 2048 * l.free + 6 * l.from.remaining + rank_begun l.begun + 8

abbrev pub decreases-parser::variant : goal.decreases-parser::variant
decreases-parser::variant l = 2048 * l.row + 1

abbrev pub invariant-left_recursion::rounds-loop-round : goal.invariant-left_recursion::rounds-loop-round
invariant-left_recursion::rounds-loop-round l = record {
  few : l._round ≤ 65;
  left :
      Held l.text l.initial.store l.initial.state.cells → Going l.text l.store l.state.cells
      (rounds_rows l.book l.text (65 - l._round) (inner_runner l.book l.text l.row)
      l.row l.minimum (row_state l.state.units (cells_of l.store l.state.cells) (table_in l.rows)))
      (rounds_rows l.book l.text 65 (inner_runner l.book l.text l.row)
      l.row l.minimum (row_state l.initial.state.units (cells_of l.initial.store l.initial.state.cells)
      (table_in l.initial.rows)));
  same : SameSlice l.initial.rows l.rows;
}

abbrev pub invariant-parser::follow-loop-i : goal.invariant-parser::follow-loop-i
invariant-parser::follow-loop-i l = record {
  few : l.i ≤ l.parses;
  left :
      Held l.text l.initial.store l.initial.state.cells → Going l.text l.store l.state.cells
      (follow_from l.book l.text (runner_rows l.book l.text l.free) l.free
      (next_rows l.book l.text l.here.call l.here.variant (todo_at l.book l.here)
      l.next l.here.items) (l.parses - l.i) l.i (failure_of (failure_at (done_with l.all l.state)))
      (row_state l.state.units (cells_of l.store l.state.cells) (table_in l.rows)))
      (follow_from l.book l.text (runner_rows l.book l.text l.free) l.free
      (next_rows l.book l.text l.here.call l.here.variant (todo_at l.book l.here)
      l.next l.here.items) l.parses 0 (failure_of (failure_at (done_with l.initial.all l.initial.state)))
      (row_state l.initial.state.units (cells_of l.initial.store l.initial.state.cells) (table_in l.initial.rows)));
  same : SameSlice l.initial.rows l.rows;
}

abbrev pub invariant-parser::one_run-loop-k : goal.invariant-parser::one_run-loop-k
invariant-parser::one_run-loop-k l = record {
  few : l.k ≤ l.called.count;
  left :
      Held l.text l.initial.store l.initial.state.cells → Going l.text l.store l.state.cells
      (variants_rows l.book l.text (inner_runner l.book l.text l.row) l.row
      l.minimum (l.called.count - l.k) (l.called.first + l.k) (failure_of (failure_at (done_with l.failure l.state)))
      (row_state l.state.units (cells_of l.store l.state.cells) (table_in l.rows)))
      (variants_rows l.book l.text (inner_runner l.book l.text l.row) l.row
      l.minimum l.called.count l.called.first (failure_of (failure_at (done_with l.initial.failure l.initial.state)))
      (row_state l.initial.state.units (cells_of l.initial.store l.initial.state.cells) (table_in l.initial.rows)));
  same : SameSlice l.initial.rows l.rows;
}

abbrev pub invariant-parser::steps-loop-stage : goal.invariant-parser::steps-loop-stage
invariant-parser::steps-loop-stage l = record {
  in_range : InRange l.book (further l.from l.step l.remaining l.stage.place l.stage.items);
  nearer : 6 * l.remaining + rank_of l.stage.doing ≤ 6 * l.initial.remaining + rank_of l.initial.stage.doing;
  left :
      Held l.text l.initial.store l.initial.state.cells → Going l.text l.store l.state.cells
      (proceeds l.free (further l.from l.step l.remaining l.stage.place l.stage.items) l.stage.doing l.book l.text
      (given (without_failure 0 l.state) (cells_of l.store l.state.cells) (table_in l.rows)))
      (proceeds l.free (further l.from l.initial.step l.initial.remaining l.initial.stage.place l.initial.stage.items)
      l.initial.stage.doing l.book l.text
      (given (without_failure 0 l.initial.state) (cells_of l.initial.store l.initial.state.cells) (table_in
      l.initial.rows)));
  same : SameSlice l.initial.rows l.rows;
}

abbrev pub decreases-parser::steps-loop-stage : goal.decreases-parser::steps-loop-stage
decreases-parser::steps-loop-stage l = l.remaining
