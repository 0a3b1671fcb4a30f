-- `sets::keep` meets its contract.
use Rattle.sets.specs.SetLaws.{keep_yes}
use Rattle.sets.proofs.keep.Goals as goal

pub returns-then-keeps_level : goal.returns-then-keeps_level
returns-then-keeps_level c = keep_yes _ _ _ _ _ _ _ c.keeps_level.ensures c.if-keeps_level.true c.append.ensures
