-- `printing::cell_at` meets its contract.
use Rattle.std.proofs.Common.{arith, inl, inr}
use Rattle.printing.proofs.CellLaws.{read_none, read_part}
use Rattle.printing.proofs.cell.cell_at.Goals as goal

pub returns-then-n-eq0 : goal.returns-then-n-eq0
returns-then-n-eq0 c = read_none c.args.cells.now c.args.n _ c.absent.ensures (inl c.if-n-eq0.true)

pub returns-in_default : goal.returns-in_default
returns-in_default c =
    let out = c.in_default.ensures.lookup.0 in
    read_none c.args.cells.now c.args.n _ c.absent-in_default.ensures (inr (omega (arith, out)))

pub returns : goal.returns
returns c =
    let within = c.in-Some.ensures.lookup.0 in
    record {
      is = read_part c.args.cells.now c.in-Some.cell.now c.args.n (omega (arith, c.if-n-eq0.false)) within.1 within.2;
      placed = λ _. omega (arith, c.if-n-eq0.false);
    }
