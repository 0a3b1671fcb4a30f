-- `transitions::first_side` meets its contract.
use Rattle.std.proofs.lemmas.Result.{err_from_is_err_and}
use Rattle.transitions.specs.NextLaws.{side_absent, first_next}
use Rattle.transitions.proofs.choices.first_side.Goals as goal

pub first_stop-requires : goal.first_stop-requires
first_stop-requires c = c.requires

pub returns-in_err-items-in-Steps-clause-does : goal.returns-in_err-items-in-Steps-clause-does
returns-in_err-items-in-Steps-clause-does c =
    let p = err_from_is_err_and c.from_residual.result c.from_residual.ensures.1 in
    rw (p.1, p.2)
    (first_next c.args.book.now c.args.text.now c.args.store.now _ c.args.here.variant c.args.here.place
    c.args.here.items c.args.next _ c.args.state.now _ c.in-Steps.is
    (side_absent c.args.book.now c.args.text.now c.args.store.now _ c.args.here.variant c.args.here.place
    c.args.here.items c.args.state.now _ (rw c.in_err-items-in-Steps.was at c.absent.ensures)))

pub returns-in_ok-items-in-Steps-clause-does : goal.returns-in_ok-items-in-Steps-clause-does
returns-in_ok-items-in-Steps-clause-does c =
    first_next c.args.book.now c.args.text.now c.args.store.now _ c.args.here.variant c.args.here.place
    c.args.here.items c.args.next _ c.args.state.now _ c.in-Steps.is
    (side_absent c.args.book.now c.args.text.now c.args.store.now _ c.args.here.variant c.args.here.place
    c.args.here.items c.args.state.now _ (rw c.in_ok-items-in-Steps.was at c.absent.ensures))

pub returns-in_err-r-in-Elements-clause-does : goal.returns-in_err-r-in-Elements-clause-does
returns-in_err-r-in-Elements-clause-does c =
    let p = err_from_is_err_and c.from_residual-in_err-r-in-Elements.result
    c.from_residual-in_err-r-in-Elements.ensures.1 in
    rw (p.1, p.2)
    (first_next c.args.book.now c.args.text.now c.args.store.now _ c.args.here.variant c.args.here.place
    c.args.here.items c.args.next _ c.args.state.now _ c.in-Elements.is
    (rw c.in_err-r-in-Elements.was at c.first_stop.ensures))

pub returns-in_ok-r-in-Elements-clause-does : goal.returns-in_ok-r-in-Elements-clause-does
returns-in_ok-r-in-Elements-clause-does c =
    rw c.then_steps.ensures (first_next c.args.book.now c.args.text.now c.args.store.now _ c.args.here.variant
    c.args.here.place
    c.args.here.items c.args.next _ c.args.state.now _ c.in-Elements.is
    (rw c.in_ok-r-in-Elements.was at c.first_stop.ensures))
