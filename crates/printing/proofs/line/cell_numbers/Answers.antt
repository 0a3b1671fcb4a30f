-- `printing::cell_numbers` meets its contract.
use Rattle.std.proofs.lemmas.List.{take_min}
use Rattle.printing.proofs.line.cell_numbers.Goals as goal

pub returns : goal.returns
returns c = rw c.min.ensures (take_min 12288 c.args.cells.now)
