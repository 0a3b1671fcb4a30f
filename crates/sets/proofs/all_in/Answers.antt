-- `sets::all_in` meets its contract.
use Rattle.std.proofs.Common.{ap, arith, sym, ◌∙◌}
use Rattle.semantics.specs.Run.{all_in}
use Rattle.sets.specs.Sets.{set_at}
use Rattle.sets.specs.PlaceLaws.{list_whole}
use Rattle.sets.specs.SetLaws.{all_on, all_not, all_end}
use Rattle.sets.proofs.all_in.Goals as goal

pub loop-i-init : goal.loop-i-init
loop-i-init c =
    ap (all_in (set_at c.args.numbers.now c.args.into))
    (list_whole _ _ _ _ _ c.size-i-end.ensures (omega arith) (omega arith))

pub returns-then-not-has : goal.returns-then-not-has
returns-then-not-has c =
    sym (all_not _ _ _ _ _ c.item.ensures c.has.ensures _ (omega arith) c.if-not-has.true) ∙ c.loop-i.invariant

pub loop-i-preserved : goal.loop-i-preserved
loop-i-preserved c =
    sym (all_on _ _ _ _ _ c.item.ensures c.has.ensures _ _ _ (omega arith) (omega arith) c.if-not-has.false)
    ∙ c.loop-i.invariant

pub returns : goal.returns
returns c = sym (all_end _ _ _ _ (omega arith)) ∙ c.loop-i.invariant
