-- `transitions::value` meets its contract.
use Rattle.std.proofs.Common.{refl}
use Rattle.transitions.specs.OutcomeLaws.{value_passing, value_made}
use Rattle.transitions.proofs.items.value.Goals as goal

pub returns-then-is_passing : goal.returns-then-is_passing
returns-then-is_passing c =
    value_passing c.args.book.now c.args.text.now c.args.j _ c.is_passing.ensures c.args.state.now _ c.args.store.now
    c.args.items
    c.if-is_passing.true refl

pub returns-else-is_passing : goal.returns-else-is_passing
returns-else-is_passing c =
    value_made c.args.book.now c.args.text.now c.args.j _ c.is_passing.ensures c.args.state.now _ c.args.store.now _
    c.args.items
    _ c.if-is_passing.false c.make.ensures c.variant.ensures
