-- `transitions::stop` meets its contract.
use Rattle.std.proofs.Common.{refl, ap, arith, sym, ◌∙◌}
use Rattle.std.proofs.lemmas.Result.{err_from_is_err_and}
use Rattle.semantics.specs.Errors.{error}
use Rattle.semantics.specs.Run.{closing_code}
use Rattle.semantics.specs.Cells.{Cell}
use Rattle.transitions.specs.OutcomeLaws.{number_there}
use Rattle.transitions.specs.LimitLaws.{gone_anywhere}
use Rattle.transitions.specs.TakenLaws.{closed_fits}
use Rattle.transitions.specs.StopLaws.{stop_limit, stop_unclosed, stop_closed}
use Rattle.transitions.proofs.steps.stop.Goals as goal

pub returns-in_err-cell : goal.returns-in_err-cell
returns-in_err-cell c =
    let p = err_from_is_err_and c.from_residual.result c.from_residual.ensures.1 in
    rw (p.1, p.2)
    (stop_limit c.args.book.now c.args.text.now c.args.store.now _
    c.args.here.variant c.args.values c.args.closing c.args.place c.args.here.items c.args.state.now _
    (rw c.in_err-cell.was at (c.make.ensures (Cell.list c.args.values) c.list.ensures)) _ (number_there _) refl)

pub returns-in_default : goal.returns-in_default
returns-in_default c =
    stop_unclosed c.args.book.now c.args.text.now c.args.store.now _
    c.args.here.variant c.args.values c.args.closing c.args.place c.args.here.items c.args.state.now _
    (rw c.in_ok-cell.was at (c.make.ensures (Cell.list c.args.values) c.list.ensures))
    refl _ c.closed.ensures _ _ _ c.in_default.is
    (c.closing_error.ensures ∙ ap (λ x. error x 1 (closing_code c.args.closing)) c.skipped-unclosed.ensures) refl refl

pub returns-in_err-items : goal.returns-in_err-items
returns-in_err-items c =
    let p = err_from_is_err_and c.from_residual-in_err-items.result c.from_residual-in_err-items.ensures.1 in
    rw (p.1, p.2)
    (gone_anywhere _ _ _ _ _ _ _ refl (number_there _)
    (stop_closed c.args.book.now c.args.text.now c.args.store.now _
    c.args.here.variant c.args.values c.args.closing c.args.place c.args.here.items c.args.state.now _
    (rw c.in_ok-cell.was at (c.make.ensures (Cell.list c.args.values) c.list.ensures))
    refl _ c.closed.ensures _ _ _ _ c.in-Some.is (rw c.in_err-items.was at c.with_cell.ensures) refl))

pub overflow_cast-result : goal.overflow_cast-result
overflow_cast-result c =
    let closes = sym c.closed.ensures ∙ c.in-Some.is in
    omega (arith, closed_fits c.args.text.now c.args.closing c.args.place _ c.requires.short (omega arith) closes)

pub returns : goal.returns
returns c =
    stop_closed c.args.book.now c.args.text.now c.args.store.now _
    c.args.here.variant c.args.values c.args.closing c.args.place c.args.here.items c.args.state.now _
    (rw c.in_ok-cell.was at (c.make.ensures (Cell.list c.args.values) c.list.ensures))
    refl _ c.closed.ensures _ _ _ _ c.in-Some.is (rw c.in_ok-items.was at c.with_cell.ensures) refl
