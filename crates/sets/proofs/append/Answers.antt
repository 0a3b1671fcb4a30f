-- `sets::append` meets its contract.
use Rattle.std.proofs.Common.{refl}
use Rattle.sets.specs.SetLaws.{append_as}
use Rattle.sets.proofs.append.Goals as goal

pub returns-then-parses-lt-MOST_PARSES : goal.returns-then-parses-lt-MOST_PARSES
returns-then-parses-lt-MOST_PARSES c =
    append_as _ _ _ _ c.requires c.if-parses-lt-MOST_PARSES.true c.size-parses.ensures _ _ c.put_parse.ensures refl
