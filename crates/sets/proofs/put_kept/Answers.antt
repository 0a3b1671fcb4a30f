-- `sets::put_kept` meets its contract.
use Rattle.std.proofs.Common.{arith, refl, ◌∙◌}
use Rattle.sets.specs.SetLaws.{keeping_start, keeping_again, keeping_end}
use Rattle.sets.proofs.put_kept.Goals as goal

pub loop-i-init : goal.loop-i-init
loop-i-init c = record {
  shape = refl;
  keeping = keeping_start _ _ _ _ _ _ _ c.clear.ensures.now (omega (arith, c.size-i-end.ensures)) (omega arith);
}

pub loop-i-preserved : goal.loop-i-preserved
loop-i-preserved c = record {
  shape = c.keep.auto.numbers ∙ c.loop-i.invariant.shape;
  keeping = keeping_again _ _ _ _ _ _ _ _ _ _ _ _ (omega arith) (omega arith) c.requires.2 c.loop-i.invariant.keeping
      (omega arith) c.item-p.ensures c.keep.ensures;
}

pub returns : goal.returns
returns c = keeping_end _ _ _ _ _ _ _ _ _ c.requires.2 c.clear.ensures c.loop-i.invariant.keeping (omega arith)
