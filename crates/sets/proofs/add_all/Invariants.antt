-- `sets::add_all` meets its contract. The invariant (`Joining` of SetLaws): the parses that are left, joined to the
-- set, give what all give.
use Rattle.std.proofs.Common.{length, ◌*◌, ◌+◌, ◌-◌, ◌≡◌}
use Rattle.sets.specs.SetLaws.{Joining}
use Rattle.sets.proofs.add_all.Given as goal

abbrev pub invariant-loop-i : goal.invariant-loop-i
invariant-loop-i l = record {
  shape : length l.numbers ≡ length l.initial.numbers;
  joining : Joining l.initial.numbers l.numbers l.into l.from (l.from + 1 + 4 * l.i) (l.i-end - l.i);
}
