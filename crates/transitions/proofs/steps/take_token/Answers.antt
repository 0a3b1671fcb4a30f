-- `transitions::take_token` meets its contract.
use Rattle.std.proofs.Common.{refl}
use Rattle.std.proofs.lemmas.Result.{err_from_is_err_and}
use Rattle.tokens.specs.Maps.{item_of}
use Rattle.transitions.specs.OutcomeLaws.{number_there}
use Rattle.transitions.specs.LimitLaws.{staged_anywhere}
use Rattle.transitions.specs.Steps.{then_steps}
use Rattle.transitions.specs.StepsLaws.{token_taken}
use Rattle.transitions.proofs.steps.take_token.Goals as goal

pub returns-in_err-items : goal.returns-in_err-items
returns-in_err-items c =
    let p = err_from_is_err_and c.from_residual.result c.from_residual.ensures.1 in
    rw (p.1, p.2)
    (staged_anywhere _ _ _ _ _ _ (then_steps _) _ _ refl (number_there _)
    (token_taken c.args.book.now c.args.text.now c.args.store.now _ c.args.here.variant c.args.here.items
    (item_of c.args.item) c.args.next c.args.state.now _ _
    (rw c.in_err-items.was at c.with_token.ensures) refl))

pub returns : goal.returns
returns c =
    token_taken c.args.book.now c.args.text.now c.args.store.now _ c.args.here.variant c.args.here.items
    (item_of c.args.item) c.args.next c.args.state.now _ _
    (rw c.in_ok-items.was at c.with_token.ensures) refl
