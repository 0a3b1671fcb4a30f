-- `sets::put_kept` meets its contract. The invariant (`Keeping` of SetLaws): what is kept so far, and what is kept of
-- the rest, make the whole.
use Rattle.std.proofs.Common.{length, ◌*◌, ◌+◌, ◌-◌, ◌≡◌}
use Rattle.sets.specs.SetLaws.{Keeping}
use Rattle.sets.proofs.put_kept.Given as goal

abbrev pub invariant-loop-i : goal.invariant-loop-i
invariant-loop-i l = record {
  shape : length l.numbers ≡ length l.initial.numbers;
  keeping : Keeping l.initial.numbers l.numbers l.into l.from l.associativity l.level (l.from + 1 + 4 * l.i)
      (l.i-end - l.i);
}
