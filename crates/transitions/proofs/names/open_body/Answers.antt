-- `transitions::open_body` meets its contract.
use Rattle.std.proofs.Common.{refl}
use Rattle.std.proofs.lemmas.Result.{err_from_is_err_and}
use Rattle.transitions.specs.LimitLaws.{ended_stops, goes_done}
use Rattle.transitions.specs.NamesLaws.{open_ended, open_room, open_full}
use Rattle.transitions.proofs.names.open_body.Goals as goal

pub returns-in_err-r : goal.returns-in_err-r
returns-in_err-r c =
    let p = err_from_is_err_and c.from_residual.result c.from_residual.ensures.1 in
    rw (p.1, p.2)
    (open_ended c.args.book.now c.args.text.now c.args.store.now _
    c.args.rows.now c.args.here c.args.names c.args.state.now _ (rw c.in_err-r.was at c.stop.ensures) (ended_stops _ _))

pub returns-then-not-has_room : goal.returns-then-not-has_room
returns-then-not-has_room c =
    open_full c.args.book.now c.args.text.now c.args.store.now _
    c.args.rows.now c.args.here c.args.names c.args.state.now _ (rw c.in_ok-r.was at c.stop.ensures)
    (goes_done _) _ (c.has_room.ensures c.args.text.now) _ _ c.if-not-has_room.true refl refl

pub returns : goal.returns
returns c =
    open_room c.args.book.now c.args.text.now c.args.store.now _
    c.args.rows.now c.args.here c.args.names c.args.state.now _ (rw c.in_ok-r.was at c.stop.ensures)
    (goes_done _) _ (c.has_room.ensures c.args.text.now) c.if-not-has_room.false
