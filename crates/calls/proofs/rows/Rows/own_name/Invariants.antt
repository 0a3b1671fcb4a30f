-- `Rows::own_name` meets its contract. The invariant (`Looking` of NamesLaws): the names that are left decide.
use Rattle.std.proofs.Common.{◌+◌, ◌-◌}
use Rattle.calls.specs.NamesLaws.{Looking}
use Rattle.calls.proofs.rows.Rows.own_name.Given as goal

abbrev pub invariant-loop-last : goal.invariant-loop-last
invariant-loop-last l = Looking l.text l.self l.wanted l.row l.count (l.row + (l.count - l.last)) l.last
