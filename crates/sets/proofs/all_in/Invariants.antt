-- `sets::all_in` meets its contract. The invariant: all are in the set just where all that are left are.
use Rattle.std.proofs.Common.{◌*◌, ◌+◌, ◌-◌, ◌≡◌}
use Rattle.semantics.specs.Run.{all_in}
use Rattle.sets.specs.Sets.{list_at, set_at}
use Rattle.sets.proofs.all_in.Given as goal

abbrev pub invariant-loop-i : goal.invariant-loop-i
invariant-loop-i l =
    all_in (set_at l.numbers l.into) (list_at l.numbers (l.from + 1 + 4 * l.i) (l.i-end - l.i))
    ≡ all_in (set_at l.numbers l.into) (set_at l.numbers l.from)
