-- `known_answers::read_full` ends: each turn leaves fewer bytes to be filled, which keep their number.
use Rattle.std.proofs.Common.{length, ◌-◌, ◌≤◌}
use Rattle.known_answers.proofs.reading.read_full.Given as goal

abbrev pub invariant-loop-done : goal.invariant-loop-done
invariant-loop-done g l = l.done ≤ length l.initial.bytes

abbrev pub decreases-loop-done : goal.decreases-loop-done
decreases-loop-done g l = length l.initial.bytes - l.done
