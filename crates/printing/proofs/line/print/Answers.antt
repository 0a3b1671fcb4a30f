-- `printing::print` meets its contract.
use Rattle.std.proofs.Common.{None, refl}
use Rattle.run.specs.Promise.{answer_in}
use Rattle.printing.specs.Printing.{line_bytes}
use Rattle.printing.proofs.LineLaws.{prints_whole, prints_nothing}
use Rattle.printing.proofs.line.print.Goals as goal

pub returns-in_err-length : goal.returns-in_err-length
returns-in_err-length c =
    let bytes = line_bytes c.args.book.now.names c.args.text.now c.args.cells.now (answer_in c.args.answer) in
    rw c.from_residual.ensures (prints_nothing bytes c.args.out.now None c.in_err-length.ensures refl)

pub returns : goal.returns
returns c =
    let bytes = line_bytes c.args.book.now.names c.args.text.now c.args.cells.now (answer_in c.args.answer) in
    prints_whole bytes c.args.out.now _ c.in_ok-length.ensures _ _ _ refl c.part_at.ensures
