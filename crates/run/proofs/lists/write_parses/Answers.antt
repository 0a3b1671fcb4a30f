-- `run::write_parses` meets its contract.
use Rattle.std.proofs.Common.{List, ap, arith, ℕ, ◌*◌, ◌∙◌}
use Rattle.run_model.specs.Rows.{row_of}
use Rattle.sets.specs.Sets.{parse_of}
use Rattle.sets.specs.Sets as sets
use Rattle.run.specs.ListLaws.{parses_first, parses_again}
use Rattle.run.proofs.lists.write_parses.Goals as goal

pub loop-i-init : goal.loop-i-init
loop-i-init c = λ lent e. e ∙ parses_first 256 lent (row_of c.args.rows.now 200).set

pub loop-i-preserved : goal.loop-i-preserved
loop-i-preserved c =
    let set = (row_of c.args.rows.now 200).set in
    let at = c.loop-i.i in
    let p = parse_of c.nth_parse.result in
    let few = c.parse_count-count.ensures.few in
    λ lent e. c.put_parse.ensures
    ∙ ap (λ (m : List ℕ). sets.put_parse m (4 * at) p) (c.loop-i.invariant lent e)
    ∙ parses_again 256 lent set at p (omega (arith, c.loop-i-test.true, c.parse_count-count.ensures.count))
    (omega (arith, c.loop-i-test.true, c.parse_count-count.ensures.count, few)) c.nth_parse.ensures
