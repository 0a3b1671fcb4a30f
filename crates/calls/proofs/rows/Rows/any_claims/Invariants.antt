-- `Rows::any_claims` meets its contract. The invariant (`Asking` of CallLaws): a row from here on claims where one
-- above the row does.
use Rattle.calls.specs.CallLaws.{Asking}
use Rattle.calls.proofs.rows.Rows.any_claims.Given as goal

abbrev pub invariant-loop-above : goal.invariant-loop-above
invariant-loop-above l = Asking l.book l.self l.at l.row l.above
