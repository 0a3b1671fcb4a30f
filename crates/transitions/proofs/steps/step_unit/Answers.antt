-- `transitions::step_unit` meets its contract.
use Rattle.std.proofs.Common.{refl}
use Rattle.transitions.specs.StepsLaws.{free_many, free_list, paid_unit}
use Rattle.transitions.proofs.steps.step_unit.Goals as goal

pub returns-then-kind-eq-MANY : goal.returns-then-kind-eq-MANY
returns-then-kind-eq-MANY c =
    free_many c.args.step c.args.state.now _ _ c.step_number-kind.ensures c.if-kind-eq-MANY.true refl

pub returns-then-kind-eq-COMMA_LIST : goal.returns-then-kind-eq-COMMA_LIST
returns-then-kind-eq-COMMA_LIST c =
    free_list c.args.step c.args.state.now _ _ c.step_number-kind.ensures c.if-kind-eq-COMMA_LIST.true refl

pub returns : goal.returns
returns c =
    paid_unit c.args.step c.args.state.now _ _ c.step_number-kind.ensures c.if-kind-eq-MANY.false
    c.if-kind-eq-COMMA_LIST.false c.spend.ensures
