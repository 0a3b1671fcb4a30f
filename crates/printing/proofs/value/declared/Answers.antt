-- `printing::declared` meets its contract.
use Rattle.printing.proofs.LayingLaws.{lays_then}
use Rattle.printing.proofs.value.declared.Goals as goal

pub returns : goal.returns
returns c =
    lays_then c.byte.ensures (lays_then c.number.ensures (lays_then c.byte-2.ensures c.number-2.ensures))
