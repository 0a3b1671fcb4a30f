-- `errors::list::join_list` meets its contract. The invariant: what is kept is the furthest of the first `i` errors.
use Rattle.std.proofs.Common.{add-one, arith}
use Rattle.errors.specs.ListLaws.{first_joined, next_joined}
use Rattle.errors.proofs.list.join_list.Goals as goal

pub loop-i-init : goal.loop-i-init
loop-i-init c = record {
  entire = omega arith;
  furthest = first_joined c.args.numbers.now c.error_at-found.result c.error_at-found.ensures;
}

pub loop-i-preserved : goal.loop-i-preserved
loop-i-preserved c = record {
  entire = c.loop-i.invariant.entire;
  furthest = rw add-one (next_joined _ _ _ _ _ c.loop-i.invariant.furthest c.error_at.ensures c.join-found.ensures);
}
