-- `cells::find` meets its contract. The invariant: from the cell that is reached the rest of the chain gives the same
-- as the whole from its head.
use Rattle.std.proofs.Common.{◌-◌, ◌≡◌}
use Rattle.cells.specs.Store.{find_in}
use Rattle.cells.proofs.store.find.Given as goal

abbrev pub invariant-loop : goal.invariant-loop
invariant-loop l =
    find_in l.text l.store l.c (l.count - l.counter) l.n ≡ find_in l.text l.store l.c l.count l.first
