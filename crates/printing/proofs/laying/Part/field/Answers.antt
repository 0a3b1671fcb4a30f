-- `printing::Part::field` meets its contract.
use Rattle.printing.proofs.LayingLaws.{lays_then}
use Rattle.printing.proofs.laying.Part.field.Goals as goal

pub returns : goal.returns
returns c = lays_then c.bytes.ensures c.number.ensures
