-- `transitions::spend` meets its contract.
use Rattle.std.proofs.Common.{refl}
use Rattle.transitions.specs.OutcomeLaws.{unit_spent, no_unit_lem}
use Rattle.transitions.proofs.outcomes.spend.Goals as goal

pub returns-then-state-eq0 : goal.returns-then-state-eq0
returns-then-state-eq0 c = no_unit_lem _ _ c.if-state-eq0.true refl

pub returns : goal.returns
returns c = unit_spent _ _ _ c.if-state-eq0.false refl refl
