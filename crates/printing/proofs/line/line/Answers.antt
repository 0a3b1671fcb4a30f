-- `printing::line` meets its contract.
use Rattle.printing.proofs.LayingLaws.{lays_then, lays_as}
use Rattle.printing.proofs.LineLaws.{line_refused, line_value}
use Rattle.run.specs.Promise.{answer_in}
use Rattle.printing.proofs.line.line.Goals as goal

pub returns-then-answer-ne0 : goal.returns-then-answer-ne0
returns-then-answer-ne0 c =
    let names = c.args.book.now.names in
    lays_as c.refused.ensures
    (line_refused names c.args.text.now c.args.cells.now (answer_in c.args.answer) c.if-answer-ne0.true)

pub returns : goal.returns
returns c =
    let names = c.args.book.now.names in
    let parts = lays_then c.bytes.ensures (lays_then c.item.ensures c.byte.ensures) in
    lays_as parts
    (line_value names c.args.text.now c.args.cells.now (answer_in c.args.answer) _
    c.cell_numbers.ensures c.if-answer-ne0.false)
