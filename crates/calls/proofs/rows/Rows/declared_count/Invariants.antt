-- `Rows::declared_count` meets its contract. The invariant (`Counting` of NamesLaws): the names of the binders that are
-- left are still to be counted. A binder is a number of 32 bits, so that those of all rows together don't overflow.
use Rattle.std.proofs.Common.{List, ℕ, ◌*◌, ◌+◌, ◌<◌, ◌≡◌, ◌≤◌}
use Rattle.calls.specs.NamesLaws.{Counting}
use Rattle.calls.proofs.rows.Rows.declared_count.Given as goal

abbrev pub invariant-loop-above : goal.invariant-loop-above
invariant-loop-above l = record {
  few : l.count + l.row * 4294967296 ≤ l.above * 4294967296;
  past : 200 < l.above → l.around ≡ 0;
  left : (text : List ℕ) → Counting text l.self l.row l.binder l.above l.around l.count;
}
