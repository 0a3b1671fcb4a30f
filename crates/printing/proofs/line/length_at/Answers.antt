-- `printing::length_at` meets its contract.
use Rattle.std.proofs.Common.{arith, refl}
use Rattle.run.specs.Promise.{answer_in}
use Rattle.printing.specs.Printing.{line_bytes}
use Rattle.printing.proofs.LineLaws.{length_in, length_out}
use Rattle.printing.proofs.LayingLaws.{skip_is, within_limit, beyond_limit}
use Rattle.printing.proofs.line.length_at.Goals as goal

pub overflow_sub-result : goal.overflow_sub-result
overflow_sub-result c = omega (arith, skip_is _ _ _ c.line.ensures.laid)

pub returns-then-part-eq0 : goal.returns-then-part-eq0
returns-then-part-eq0 c =
    let names = c.args.book.now.names in
    let bytes = line_bytes names c.args.text.now c.args.cells.now (answer_in c.args.answer) in
    let within = within_limit _ bytes _ c.line.ensures.laid refl c.if-part-eq0.true in
    let skip = skip_is _ bytes _ c.line.ensures.laid in
    length_in _ _ bytes (omega (arith, within, skip)) (omega arith)

pub returns-else-part-eq0 : goal.returns-else-part-eq0
returns-else-part-eq0 c =
    let names = c.args.book.now.names in
    let bytes = line_bytes names c.args.text.now c.args.cells.now (answer_in c.args.answer) in
    length_out _ bytes (beyond_limit _ bytes _ c.line.ensures.laid c.if-part-eq0.false)
