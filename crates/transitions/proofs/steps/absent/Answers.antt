-- `transitions::absent` meets its contract.
use Rattle.std.proofs.Common.{refl}
use Rattle.std.proofs.lemmas.Result.{err_from_is_err_and}
use Rattle.semantics.specs.Cells.{Cell}
use Rattle.transitions.specs.OutcomeLaws.{number_there}
use Rattle.transitions.specs.LimitLaws.{gone_at}
use Rattle.transitions.specs.StopLaws.{absent_limit, absent_goes}
use Rattle.transitions.proofs.steps.absent.Goals as goal

pub returns-in_err-cell : goal.returns-in_err-cell
returns-in_err-cell c =
    let p = err_from_is_err_and c.from_residual.result c.from_residual.ensures.1 in
    rw (p.1, p.2)
    (absent_limit c.args.book.now c.args.text.now c.args.store.now _ c.args.here.variant c.args.here.place
    c.args.here.items c.args.state.now _
    (rw c.in_err-cell.was at (c.make.ensures Cell.absent c.absent.ensures)) _ (number_there _) refl)

pub returns : goal.returns
returns c =
    gone_at _ _ _ _ c.with_cell.result c.args.here.place _ _
    (absent_goes c.args.book.now c.args.text.now c.args.store.now _ c.args.here.variant c.args.here.place
    c.args.here.items c.args.state.now _ (rw c.in_ok-cell.was at (c.make.ensures Cell.absent c.absent.ensures)) _ _ _
    refl c.with_cell.ensures refl)
