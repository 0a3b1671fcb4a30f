-- `printing::spelling` meets its contract.
use Rattle.std.proofs.Common.{arith, sym, ◌∙◌}
use Rattle.printing.proofs.CellLaws.{spelling_name, spelling_variable, spelling_none}
use Rattle.printing.proofs.cell.spelling.Goals as goal

pub returns-in-4 : goal.returns-in-4
returns-in-4 c =
    c.part.ensures ∙ sym (spelling_name c.args.book.now.names c.args.text.now _ c.args.cell.a c.args.cell.b c.in-4.is)

pub returns-in-6 : goal.returns-in-6
returns-in-6 c =
    c.name.ensures
    ∙ sym (spelling_variable c.args.book.now.names c.args.text.now _ c.args.cell.a c.args.cell.b c.in-6.is)

pub returns-in_default : goal.returns-in_default
returns-in_default c =
    c.part-in_default.ensures
    ∙ sym (spelling_none c.args.book.now.names c.args.text.now c.args.cell.form c.args.cell.a c.args.cell.b
    (λ h. omega (arith, h)) (λ h. omega (arith, h)))
