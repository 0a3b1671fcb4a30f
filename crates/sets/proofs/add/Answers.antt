-- `sets::add` meets its contract: a parse that the set has, and another.
use Rattle.sets.specs.SetLaws.{add_new}
use Rattle.sets.proofs.add.Goals as goal

pub returns-else-has : goal.returns-else-has
returns-else-has c = add_new _ _ _ _ _ _ c.has.ensures c.if-has.false c.append.ensures
