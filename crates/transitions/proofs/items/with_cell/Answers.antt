-- `transitions::with_cell` meets its contract.
use Rattle.std.proofs.Common.{refl}
use Rattle.transitions.specs.OutcomeLaws.{with_passing, with_made}
use Rattle.transitions.proofs.items.with_cell.Goals as goal

pub returns-then-is_passing : goal.returns-then-is_passing
returns-then-is_passing c =
    with_passing c.args.book.now c.args.text.now c.args.j _ c.is_passing.ensures c.args.state.now _ c.args.store.now
    c.args.items
    c.args.item c.if-is_passing.true refl

pub returns-else-is_passing : goal.returns-else-is_passing
returns-else-is_passing c =
    with_made c.args.book.now c.args.text.now c.args.j _ c.is_passing.ensures c.args.state.now _ c.args.store.now _
    c.args.items
    c.args.item _ c.if-is_passing.false c.make.ensures c.chain.ensures
