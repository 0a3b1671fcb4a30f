-- `errors::list::join_list` meets its contract. The invariant: what is kept is the furthest of the first `i` errors.
use Rattle.std.proofs.Common.{length, ◌*◌, ◌≡◌}
use Rattle.semantics.specs.Furthest.{Furthest}
use Rattle.errors.specs.Maps.{error_of}
use Rattle.errors.specs.Lists.{errors_in}
use Rattle.errors.proofs.list.join_list.Given as goal

abbrev pub invariant-loop-i : goal.invariant-loop-i
invariant-loop-i l = record {
  entire : length l.numbers ≡ 3 * l.count;
  furthest : Furthest (errors_in l.numbers l.i) (error_of l.found);
}
