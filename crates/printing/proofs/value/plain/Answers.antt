-- `printing::plain` meets its contract.
use Rattle.std.proofs.Common.{List, ap, arith, sym, ℕ, ◌∙◌, ◌∷◌}
use Rattle.printing.proofs.LayingLaws.{lays_then, lays_as}
use Rattle.printing.proofs.CellLaws.{plain_number, plain_name, plain_variable, plain_declared, plain_absent}
use Rattle.printing.proofs.value.plain.Goals as goal

pub returns-in-5 : goal.returns-in-5
returns-in-5 c =
    let args = c.args in
    let cell = args.cell in
    let names = args.book.now.names in
    lays_as c.number.ensures (sym
    (plain_number names args.text.now cell.form cell.a cell.b c.in-5.is))

pub returns-in-4 : goal.returns-in-4
returns-in-4 c =
    let names = c.args.book.now.names in
    lays_as c.bytes.ensures
    (c.spelling.ensures ∙ sym (plain_name names c.args.text.now c.args.cell.form c.args.cell.a c.args.cell.b
    c.in-4.is))

pub returns-in-6 : goal.returns-in-6
returns-in-6 c =
    let names = c.args.book.now.names in
    let is =
    ap (λ (l : List ℕ). 36 ∷ l) c.spelling-in-6.ensures
    ∙ sym (plain_variable names c.args.text.now c.args.cell.form c.args.cell.a c.args.cell.b
    c.in-6.is) in
    lays_as (lays_then c.byte.ensures c.bytes-in-6.ensures) is

pub returns-in-9 : goal.returns-in-9
returns-in-9 c =
    let args = c.args in
    let cell = args.cell in
    let names = args.book.now.names in
    lays_as c.declared.ensures
    (sym (plain_declared names args.text.now cell.form cell.a cell.b c.in-9.is))

pub returns-in_default : goal.returns-in_default
returns-in_default c =
    lays_as c.byte-in_default.ensures
    (sym
    (plain_absent c.args.book.now.names c.args.text.now c.args.cell.form c.args.cell.a c.args.cell.b
    (λ h. omega (arith, h)) (λ h. omega (arith, h)) (λ h. omega (arith, h)) (λ h. omega (arith, h))))
