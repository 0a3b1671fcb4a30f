-- `sets::add_all` meets its contract.
use Rattle.std.proofs.Common.{arith, refl, ◌∙◌}
use Rattle.sets.specs.SetLaws.{joining_start, joining_again, joining_full, joining_end}
use Rattle.sets.proofs.add_all.Goals as goal

pub loop-i-init : goal.loop-i-init
loop-i-init c = record {
  shape = refl;
  joining = joining_start _ _ _ _ _ (omega (arith, c.size-i-end.ensures)) (omega arith);
}

pub returns-then-not-add : goal.returns-then-not-add
returns-then-not-add c =
    joining_full _ _ _ _ _ _ _ c.requires.2 c.loop-i.invariant.joining (omega arith) _ c.item-p.ensures
    _ c.add.ensures c.if-not-add.true

pub loop-i-preserved : goal.loop-i-preserved
loop-i-preserved c = record {
  shape = c.add.auto.numbers ∙ c.loop-i.invariant.shape;
  joining = joining_again _ _ _ _ _ _ _ c.requires.2 c.loop-i.invariant.joining (omega arith) _ c.item-p.ensures _
      c.add.ensures _ _ (omega arith) (omega arith) c.if-not-add.false;
}

pub returns : goal.returns
returns c = joining_end _ _ _ _ _ _ c.loop-i.invariant.joining (omega arith)
