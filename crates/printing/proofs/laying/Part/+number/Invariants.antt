-- `printing::Part::number` meets its contract. The measure is the number, of which a tenth is left for the call.
use Rattle.printing.proofs.laying.Part.+number.Given as goal

abbrev pub decreases-number : goal.decreases-number
decreases-number l = l.n
