-- `printing::Part::bytes` meets its contract.
use Rattle.std.proofs.Common.{refl}
use Rattle.printing.proofs.laying.Part.bytes.Goals as goal

pub returns : goal.returns
returns c = record { same = refl; laid = c.lay-skip.ensures }
