-- `transitions::with_token` meets its contract.
use Rattle.std.proofs.Common.{refl}
use Rattle.std.proofs.lemmas.Result.{err_from_is_err_and}
use Rattle.transitions.specs.OutcomeLaws.{number_there, token_nothing, token_limit, token_made}
use Rattle.transitions.proofs.items.with_token.Goals as goal

pub returns-in_default : goal.returns-in_default
returns-in_default c =
    token_nothing c.args.book.now c.args.text.now c.args.j c.args.items c.args.item c.args.state.now c.args.store.now _
    c.in_default.is refl

pub item_numbers-requires : goal.item_numbers-requires
item_numbers-requires c = rw c.in-Some.is at c.requires

pub returns-in_err-cell : goal.returns-in_err-cell
returns-in_err-cell c =
    let p = err_from_is_err_and c.from_residual.result c.from_residual.ensures.1 in
    rw (p.1, p.2)
    (token_limit c.args.book.now c.args.text.now c.args.j c.args.items c.args.item c.args.state.now c.args.store.now _ _
    _ _ c.in-Some.is (rw c.in_err-cell.was at c.make.ensures) c.item_numbers.ensures (number_there _))

pub returns : goal.returns
returns c =
    token_made c.args.book.now c.args.text.now c.args.j c.args.items c.args.item c.args.state.now c.args.store.now _ _ _
    _ c.in-Some.is (rw c.in_ok-cell.was at c.make.ensures) c.item_numbers.ensures _ _ refl c.with_cell.ensures
