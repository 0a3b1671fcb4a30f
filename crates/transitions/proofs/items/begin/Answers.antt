-- `transitions::begin` meets its contract.
use Rattle.std.proofs.Common.{refl}
use Rattle.transitions.specs.OutcomeLaws.{begin_passing, begin_made}
use Rattle.transitions.proofs.items.begin.Goals as goal

pub returns-then-is_passing : goal.returns-then-is_passing
returns-then-is_passing c =
    begin_passing c.args.book.now c.args.text.now c.args.j _ c.is_passing.ensures c.args.state.now _ c.args.store.now
    c.if-is_passing.true refl

pub returns-else-is_passing : goal.returns-else-is_passing
returns-else-is_passing c =
    begin_made c.args.book.now c.args.text.now c.args.j _ c.is_passing.ensures c.args.state.now _ c.args.store.now _ _
    c.if-is_passing.false c.make.ensures c.empty.ensures
