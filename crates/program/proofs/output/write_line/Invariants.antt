-- `program::write_line` ends: each turn is one byte further at least, and no place is past the largest number.
use Rattle.std.proofs.Common.{◌-◌, ◌≤◌}
use Rattle.program.proofs.output.write_line.Given as goal

abbrev pub invariant-loop-answer : goal.invariant-loop-answer
invariant-loop-answer g l = l.from ≤ 18446744073709551615

abbrev pub decreases-loop-answer : goal.decreases-loop-answer
decreases-loop-answer g l = 18446744073709551615 - l.from
