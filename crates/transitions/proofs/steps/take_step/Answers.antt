-- `transitions::take_step` meets its contract.
use Rattle.std.proofs.Common.{refl, ap, arith, ◌∙◌}
use Rattle.std.proofs.lemmas.Result.{err_from_is_err_and}
use Rattle.transitions.specs.OutcomeLaws.{number_there}
use Rattle.semantics.specs.Errors.{step_error}
use Rattle.run_model.specs.Rows.{scope_in}
use Rattle.transitions.specs.TakenLaws.{taken_fits, token_fits, list_fits, unopened_fits}
use Rattle.transitions.specs.StepsLaws.{at_step, step_limit, step_fails, step_reads, step_descends, step_chooses}
use Rattle.transitions.specs.StepsLaws.{step_lists, step_unopens, step_omits}
use Rattle.transitions.proofs.steps.take_step.Goals as goal

pub returns-in_err-step_unit : goal.returns-in_err-step_unit
returns-in_err-step_unit c =
    let p = err_from_is_err_and c.from_residual.result c.from_residual.ensures.1 in
    rw (p.1, p.2)
    (at_step _ _ _ _ c.args.rows.now c.args.here.call c.args.here.variant c.args.state.now _ c.args.here.place
    c.args.here.items _ _ c.step-step.ensures
    (step_limit _ _ _ c.args.rows.now c.args.here.call c.args.here.variant c.args.state.now c.args.here.place
    c.args.here.items _ _ (rw c.in_err-step_unit.was at c.step_unit.ensures) _ _ (number_there _) refl refl))

pub overflow_cast-next : goal.overflow_cast-next
overflow_cast-next c =
    let fits = taken_fits _ _ _ c.requires.1 _ (omega arith) _ c.step_at.result c.step_at.ensures in
    omega (arith, (token_fits _ fits _ c.in-Some.is _ _ c.in-Token.is).0)

pub take_token-requires : goal.take_token-requires
take_token-requires c =
    let fits = taken_fits _ _ _ c.requires.1 _ (omega arith) _ c.step_at.result c.step_at.ensures in
    (token_fits _ fits _ c.in-Some.is _ _ c.in-Token.is).1

pub overflow_cast-place : goal.overflow_cast-place
overflow_cast-place c =
    let fits = taken_fits _ _ _ c.requires.1 _ (omega arith) _ c.step_at.result c.step_at.ensures in
    omega (arith, list_fits _ fits _ c.in-Some.is _ _ _ _ _ c.in-List.is)

pub overflow_cast-place-in-Unopened : goal.overflow_cast-place-in-Unopened
overflow_cast-place-in-Unopened c =
    let fits = taken_fits _ _ _ c.requires.1 _ (omega arith) _ c.step_at.result c.step_at.ensures in
    omega (arith, unopened_fits _ fits _ c.in-Some.is _ c.in-Unopened.is)

pub unopened-requires : goal.unopened-requires
unopened-requires c = c.requires.1

pub returns-in_default : goal.returns-in_default
returns-in_default c =
    let scope = scope_in c.args.text.now c.args.rows.now c.args.here.call in
    at_step _ _ _ _ c.args.rows.now c.args.here.call c.args.here.variant c.args.state.now _ c.args.here.place
    c.args.here.items _ _ c.step-step.ensures
    (step_fails _ _ _ c.args.rows.now c.args.here.call c.args.here.variant c.args.state.now c.args.here.place
    c.args.here.items _ _ (rw c.in_ok-step_unit.was at c.step_unit.ensures) refl _ c.step_at.ensures _ _ _ _
    c.in_default.is
    (c.step_error.ensures ∙ ap (λ x. step_error c.args.book.now c.args.text.now scope c.step-step.result x)
    c.skipped-at.ensures) refl refl refl)

pub returns-in_err-take_token-in-Token : goal.returns-in_err-take_token-in-Token
returns-in_err-take_token-in-Token c =
    let p = err_from_is_err_and c.from_residual-in_err-take_token-in-Token.result
    c.from_residual-in_err-take_token-in-Token.ensures.1 in
    rw (p.1, p.2)
    (at_step _ _ _ _ c.args.rows.now c.args.here.call c.args.here.variant c.args.state.now _ c.args.here.place
    c.args.here.items _ _ c.step-step.ensures
    (step_reads _ _ _ c.args.rows.now c.args.here.call c.args.here.variant c.args.state.now c.args.here.place
    c.args.here.items _ _ (rw c.in_ok-step_unit.was at c.step_unit.ensures) refl _ c.step_at.ensures _ c.in-Some.is _
    _ _ _ c.in-Token.is
    (rw c.in_err-take_token-in-Token.was at c.take_token.ensures)))

pub returns-in_ok-take_token-in-Token : goal.returns-in_ok-take_token-in-Token
returns-in_ok-take_token-in-Token c =
    at_step _ _ _ _ c.args.rows.now c.args.here.call c.args.here.variant c.args.state.now _ c.args.here.place
    c.args.here.items _ _ c.step-step.ensures
    (step_reads _ _ _ c.args.rows.now c.args.here.call c.args.here.variant c.args.state.now c.args.here.place
    c.args.here.items _ _ (rw c.in_ok-step_unit.was at c.step_unit.ensures) refl _ c.step_at.ensures _ c.in-Some.is _
    _ _ _ c.in-Token.is
    (rw c.in_ok-take_token-in-Token.was at c.take_token.ensures))

pub returns-in-Child : goal.returns-in-Child
returns-in-Child c =
    rw c.then_child.ensures (at_step _ _ _ _ c.args.rows.now c.args.here.call c.args.here.variant c.args.state.now _
    c.args.here.place
    c.args.here.items _ _ c.step-step.ensures
    (step_descends _ _ _ c.args.rows.now c.args.here.call c.args.here.variant c.args.state.now c.args.here.place
    c.args.here.items _ _ (rw c.in_ok-step_unit.was at c.step_unit.ensures) refl _ c.step_at.ensures _ c.in-Some.is _
    _ c.in-Child.is refl))

pub returns-in-Optional : goal.returns-in-Optional
returns-in-Optional c =
    rw c.then_child-in-Optional.ensures (at_step _ _ _ _ c.args.rows.now c.args.here.call c.args.here.variant
    c.args.state.now _ c.args.here.place
    c.args.here.items _ _ c.step-step.ensures
    (step_chooses _ _ _ c.args.rows.now c.args.here.call c.args.here.variant c.args.state.now c.args.here.place
    c.args.here.items _ _ (rw c.in_ok-step_unit.was at c.step_unit.ensures) refl _ c.step_at.ensures _ c.in-Some.is _
    _ c.in-Optional.is refl))

pub returns-in_err-begin_list-in-List : goal.returns-in_err-begin_list-in-List
returns-in_err-begin_list-in-List c =
    let p = err_from_is_err_and c.from_residual-in_err-begin_list-in-List.result
    c.from_residual-in_err-begin_list-in-List.ensures.1 in
    rw (p.1, p.2)
    (at_step _ _ _ _ c.args.rows.now c.args.here.call c.args.here.variant c.args.state.now _ c.args.here.place
    c.args.here.items _ _ c.step-step.ensures
    (step_lists _ _ _ c.args.rows.now c.args.here.call c.args.here.variant c.args.state.now c.args.here.place
    c.args.here.items _ _ (rw c.in_ok-step_unit.was at c.step_unit.ensures) refl _ c.step_at.ensures _ c.in-Some.is _
    _ _ _ _ _ _ c.in-List.is
    (rw c.in_err-begin_list-in-List.was at (c.begin_list.ensures c.args.book.now))))

pub returns-in_ok-begin_list-in-List : goal.returns-in_ok-begin_list-in-List
returns-in_ok-begin_list-in-List c =
    at_step _ _ _ _ c.args.rows.now c.args.here.call c.args.here.variant c.args.state.now _ c.args.here.place
    c.args.here.items _ _ c.step-step.ensures
    (step_lists _ _ _ c.args.rows.now c.args.here.call c.args.here.variant c.args.state.now c.args.here.place
    c.args.here.items _ _ (rw c.in_ok-step_unit.was at c.step_unit.ensures) refl _ c.step_at.ensures _ c.in-Some.is _
    _ _ _ _ _ _ c.in-List.is
    (rw c.in_ok-begin_list-in-List.was at (c.begin_list.ensures c.args.book.now)))

pub returns-in_err-unopened-in-Unopened : goal.returns-in_err-unopened-in-Unopened
returns-in_err-unopened-in-Unopened c =
    let p = err_from_is_err_and c.from_residual-in_err-unopened-in-Unopened.result
    c.from_residual-in_err-unopened-in-Unopened.ensures.1 in
    rw (p.1, p.2)
    (at_step _ _ _ _ c.args.rows.now c.args.here.call c.args.here.variant c.args.state.now _ c.args.here.place
    c.args.here.items _ _ c.step-step.ensures
    (step_unopens _ _ _ c.args.rows.now c.args.here.call c.args.here.variant c.args.state.now c.args.here.place
    c.args.here.items _ _ (rw c.in_ok-step_unit.was at c.step_unit.ensures) refl _ c.step_at.ensures _ c.in-Some.is _
    _ _ c.in-Unopened.is
    (rw c.in_err-unopened-in-Unopened.was at c.unopened.ensures)))

pub returns-in_ok-unopened-in-Unopened : goal.returns-in_ok-unopened-in-Unopened
returns-in_ok-unopened-in-Unopened c =
    rw c.then_steps.ensures (at_step _ _ _ _ c.args.rows.now c.args.here.call c.args.here.variant c.args.state.now _
    c.args.here.place
    c.args.here.items _ _ c.step-step.ensures
    (step_unopens _ _ _ c.args.rows.now c.args.here.call c.args.here.variant c.args.state.now c.args.here.place
    c.args.here.items _ _ (rw c.in_ok-step_unit.was at c.step_unit.ensures) refl _ c.step_at.ensures _ c.in-Some.is _
    _ _ c.in-Unopened.is
    (rw c.in_ok-unopened-in-Unopened.was at c.unopened.ensures)))

pub returns-in_err-body_alone-in-Body : goal.returns-in_err-body_alone-in-Body
returns-in_err-body_alone-in-Body c =
    let p = err_from_is_err_and c.from_residual-in_err-body_alone-in-Body.result
    c.from_residual-in_err-body_alone-in-Body.ensures.1 in
    rw (p.1, p.2)
    (at_step _ _ _ _ c.args.rows.now c.args.here.call c.args.here.variant c.args.state.now _ c.args.here.place
    c.args.here.items _ _ c.step-step.ensures
    (step_omits _ _ _ c.args.rows.now c.args.here.call c.args.here.variant c.args.state.now c.args.here.place
    c.args.here.items _ _ (rw c.in_ok-step_unit.was at c.step_unit.ensures) refl _ c.step_at.ensures _ c.in-Some.is _
    _ _ c.in-Body.is
    (rw c.in_err-body_alone-in-Body.was at c.body_alone.ensures)))

pub returns-in_ok-body_alone-in-Body : goal.returns-in_ok-body_alone-in-Body
returns-in_ok-body_alone-in-Body c =
    at_step _ _ _ _ c.args.rows.now c.args.here.call c.args.here.variant c.args.state.now _ c.args.here.place
    c.args.here.items _ _ c.step-step.ensures
    (step_omits _ _ _ c.args.rows.now c.args.here.call c.args.here.variant c.args.state.now c.args.here.place
    c.args.here.items _ _ (rw c.in_ok-step_unit.was at c.step_unit.ensures) refl _ c.step_at.ensures _ c.in-Some.is _
    _ _ c.in-Body.is
    (rw c.in_ok-body_alone-in-Body.was at c.body_alone.ensures))
