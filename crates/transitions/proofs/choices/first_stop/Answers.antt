-- `transitions::first_stop` meets its contract.
use Rattle.std.proofs.Common.{refl}
use Rattle.std.proofs.lemmas.Result.{err_from_is_err_and}
use Rattle.transitions.specs.OutcomeLaws.{number_there}
use Rattle.transitions.specs.NextLaws.{side_limit, side_stops}
use Rattle.transitions.proofs.choices.first_stop.Goals as goal

pub returns-in_err-spend : goal.returns-in_err-spend
returns-in_err-spend c =
    let p = err_from_is_err_and c.from_residual.result c.from_residual.ensures.1 in
    rw (p.1, p.2)
    (side_limit c.args.book.now c.args.text.now c.args.store.now c.args.here.variant c.args.here.place
    c.args.here.items c.args.list c.args.state.now _ (rw c.in_err-spend.was at c.spend.ensures) _ (number_there _) refl)

pub stop-requires : goal.stop-requires
stop-requires c = c.requires

pub returns : goal.returns
returns c =
    side_stops c.args.book.now c.args.text.now c.args.store.now c.args.here.variant c.args.here.place
    c.args.here.items c.args.list c.args.state.now _ (rw c.in_ok-spend.was at c.spend.ensures) _ _ refl c.stop.ensures
