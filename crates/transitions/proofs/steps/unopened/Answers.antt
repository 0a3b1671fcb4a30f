-- `transitions::unopened` meets its contract.
use Rattle.std.proofs.Common.{refl}
use Rattle.std.proofs.lemmas.Result.{err_from_is_err_and}
use Rattle.semantics.specs.Cells.{Cell}
use Rattle.transitions.specs.OutcomeLaws.{number_there}
use Rattle.transitions.specs.StepsLaws.{unopened_limit, unopened_stops}
use Rattle.transitions.proofs.steps.unopened.Goals as goal

pub returns-in_err-values : goal.returns-in_err-values
returns-in_err-values c =
    let p = err_from_is_err_and c.from_residual.result c.from_residual.ensures.1 in
    rw (p.1, p.2)
    (unopened_limit c.args.book.now c.args.text.now c.args.store.now _ c.args.here.variant c.args.state.now _
    (rw c.in_err-values.was at (c.make.ensures Cell.empty c.empty.ensures)) c.args.place c.args.here.items _
    (number_there _) refl)

pub stop-requires : goal.stop-requires
stop-requires c = c.requires

pub returns : goal.returns
returns c =
    unopened_stops c.args.book.now c.args.text.now c.args.store.now _ c.args.here.variant c.args.state.now _
    (rw c.in_ok-values.was at (c.make.ensures Cell.empty c.empty.ensures)) c.args.place c.args.here.items _ _
    refl c.stop.ensures
