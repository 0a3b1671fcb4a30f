-- `run::whole_values` meets its contract. The invariant: the parses from i on decide.
use Rattle.std.proofs.Common.{arith, sym, ◌∙◌}
use Rattle.run_model.specs.Rows.{row_of}
use Rattle.sets.specs.Sets.{parse_of}
use Rattle.run.specs.ListLaws.{values_again, values_end}
use Rattle.run.proofs.whole.whole_values.Goals as goal

pub loop-i-preserved : goal.loop-i-preserved
loop-i-preserved c =
    let loop = c.loop-i in
    let loop-test = c.loop-i-test in
    let nth-parse = c.nth_parse in
    let set = (row_of c.args.rows.now 200).set in
    values_again c.args.text.now set loop.i loop.values _ (parse_of nth-parse.result)
    (omega (arith, loop-test.true, c.parse_count-count.ensures.count)) nth-parse.ensures c.with_parse-values.ensures ∙
    loop.invariant

pub returns : goal.returns
returns c =
    let set = (row_of c.args.rows.now 200).set in
    sym (values_end c.args.text.now set c.loop-i.i c.loop-i.values
    (omega (arith, c.loop-i-test.false, c.parse_count-count.ensures.count))) ∙ c.loop-i.invariant
