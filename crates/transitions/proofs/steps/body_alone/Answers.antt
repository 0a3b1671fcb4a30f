-- `transitions::body_alone` meets its contract.
use Rattle.std.proofs.Common.{refl}
use Rattle.std.proofs.lemmas.Result.{err_from_is_err_and}
use Rattle.transitions.specs.OutcomeLaws.{number_there}
use Rattle.transitions.specs.LimitLaws.{staged_anywhere}
use Rattle.transitions.specs.StepsLaws.{body_stands}
use Rattle.transitions.proofs.steps.body_alone.Goals as goal

pub returns-in_err-items : goal.returns-in_err-items
returns-in_err-items c =
    let p = err_from_is_err_and c.from_residual.result c.from_residual.ensures.1 in
    rw (p.1, p.2)
    (staged_anywhere _ _ _ _ _ _ _ _ _ refl (number_there _)
    (body_stands c.args.book.now c.args.text.now c.args.store.now _ c.args.here.variant
    c.args.here.place c.args.here.items c.args.state.now _ c.args.body (rw c.in_err-items.was at c.absent.ensures)))

pub returns : goal.returns
returns c =
    body_stands c.args.book.now c.args.text.now c.args.store.now _ c.args.here.variant
    c.args.here.place c.args.here.items c.args.state.now _ c.args.body (rw c.in_ok-items.was at c.absent.ensures)
