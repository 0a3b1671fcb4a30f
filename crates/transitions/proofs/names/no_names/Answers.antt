-- `transitions::no_names` meets its contract.
use Rattle.transitions.proofs.names.no_names.Goals as goal

pub returns : goal.returns
returns c = rw c.closing_code.ensures
