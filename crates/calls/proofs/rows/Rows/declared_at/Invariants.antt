-- `Rows::declared_at` meets its contract. The invariant (`Searching` of NamesLaws): the binders that are left decide.
use Rattle.std.proofs.Common.{◌+◌, ◌<◌, ◌≡◌, ◌≤◌}
use Rattle.calls.specs.NamesLaws.{Searching}
use Rattle.calls.proofs.rows.Rows.declared_at.Given as goal

abbrev pub invariant-loop-above : goal.invariant-loop-above
invariant-loop-above l = record {
  depth : l.depth + l.row ≤ l.above;
  past : 200 < l.above → l.around ≡ 0;
  left : Searching l.text l.self l.wanted l.row l.binder l.above l.around l.depth;
}
