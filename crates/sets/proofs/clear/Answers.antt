-- `sets::clear` meets its contract.
use Rattle.sets.specs.SetLaws.{cleared}
use Rattle.sets.proofs.clear.Goals as goal

pub returns : goal.returns
returns c = cleared _ _ c.requires
