-- `printing::Part::number` meets its contract.
use Rattle.std.proofs.Common.{sym}
use Rattle.printing.proofs.LayingLaws.{lays_then, lays_as}
use Rattle.printing.proofs.NumberLaws.{decimal_digit, decimal_digits}
use Rattle.printing.proofs.laying.Part.+number.Goals as goal
use Rattle.printing.proofs.laying.Part.+number.Goals.{then-n-ge10, else-n-ge10}

pub returns : goal.returns
returns t c =
    let last = c.byte.ensures in
    elim c.if-n-ge10.branch [
      | then-n-ge10 w ↦
          lays_as (lays_then w.number.ensures (rw w.self-is at last)) (sym (decimal_digits c.args.n w.if-n-ge10.true))
      | else-n-ge10 w ↦ lays_as (rw w.self-is at last) (sym (decimal_digit c.args.n w.if-n-ge10.false))
    ]
