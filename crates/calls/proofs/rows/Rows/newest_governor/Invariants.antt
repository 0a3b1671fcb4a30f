-- `Rows::newest_governor` meets its contract. The invariant (`Seeking` of CallLaws): the newest governor from here on
-- is the one above the row.
use Rattle.calls.specs.CallLaws.{Seeking}
use Rattle.calls.proofs.rows.Rows.newest_governor.Given as goal

abbrev pub invariant-loop-above : goal.invariant-loop-above
invariant-loop-above l = Seeking l.self l.nonterminal l.at l.row l.above
