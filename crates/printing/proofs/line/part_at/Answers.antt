-- `printing::part_at` meets its contract.
use Rattle.std.proofs.Common.{rules, sym}
use Rattle.printing.proofs.LayingLaws.{window, window_at}
use Rattle.printing.proofs.line.part_at.Goals as goal

pub returns : goal.returns
returns c =
    let same = sym c.line.ensures.same in
    window_at (window _ _ _ c.line.ensures.laid) (search (rules, same))
