-- `characters::skip` meets its contract. The invariant: skipping from here ends where skipping from `place` does. A
-- round that drops something leaves fewer bytes.
use Rattle.std.proofs.Common.{length, ◌-◌, ◌≡◌}
use Rattle.characters.specs.Skipping.{skip_from}
use Rattle.characters.proofs.skipping.skip.Given as goal

abbrev pub invariant-loop-at : goal.invariant-loop-at
invariant-loop-at l = skip_from l.text l.at ≡ skip_from l.text l.place

abbrev pub decreases-loop-at : goal.decreases-loop-at
decreases-loop-at l = length l.text - l.at
