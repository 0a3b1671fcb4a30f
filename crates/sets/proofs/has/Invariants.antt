-- `sets::has` meets its contract. The invariant: the set has the parse just where those that are left have it.
use Rattle.std.proofs.Common.{◌*◌, ◌+◌, ◌-◌, ◌≡◌}
use Rattle.semantics.specs.Run.{has}
use Rattle.sets.specs.Sets.{parse_of, list_at, set_at}
use Rattle.sets.proofs.has.Given as goal

abbrev pub invariant-loop-i : goal.invariant-loop-i
invariant-loop-i l =
    has (list_at l.numbers (l.place + 1 + 4 * l.i) (l.i-end - l.i)) (parse_of l.p)
    ≡ has (set_at l.numbers l.place) (parse_of l.p)
