-- `sets::has` meets its contract.
use Rattle.std.proofs.Common.{ap, arith, sym, ◌∙◌}
use Rattle.semantics.specs.Run.{has}
use Rattle.sets.specs.Sets.{parse_of}
use Rattle.sets.specs.PlaceLaws.{list_whole}
use Rattle.sets.specs.SetLaws.{has_hit, has_miss, has_none}
use Rattle.sets.proofs.has.Goals as goal

pub loop-i-init : goal.loop-i-init
loop-i-init c =
    ap (λ set. has set (parse_of c.args.p)) (list_whole _ _ _ _ _ c.size-i-end.ensures (omega arith) (omega arith))

pub returns-then-same_parse : goal.returns-then-same_parse
returns-then-same_parse c =
    sym (has_hit _ _ _ _ _ c.item.ensures c.same_parse.ensures _ (omega arith) c.if-same_parse.true)
    ∙ c.loop-i.invariant

pub loop-i-preserved : goal.loop-i-preserved
loop-i-preserved c =
    sym (has_miss _ _ _ _ _ c.item.ensures c.same_parse.ensures _ _ _ (omega arith) (omega arith)
    c.if-same_parse.false)
    ∙ c.loop-i.invariant

pub returns : goal.returns
returns c = sym (has_none _ _ _ _ (omega arith)) ∙ c.loop-i.invariant
