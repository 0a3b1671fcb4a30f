-- `transitions::claimed` meets its contract.
use Rattle.std.proofs.Common.{rules, ◌∙◌}
use Rattle.transitions.specs.EnteringLaws.{claimed_named, claimed_nothing}
use Rattle.transitions.proofs.entering.claimed.Goals as goal

pub returns-then-is_some : goal.returns-then-is_some
returns-then-is_some c =
    claimed_named c.args.book.now c.args.text.now c.args.rows.now c.args.row c.args.binder c.args.at _
    c.variable_at.ensures _ c.is_some.ensures _ c.if-is_some.true c.claims_use.ensures

-- by `search`, so that a body that says `else { false }` is proved too
pub returns-else-is_some : goal.returns-else-is_some
returns-else-is_some c =
    search rules
    ∙ claimed_nothing c.args.book.now c.args.text.now c.args.rows.now c.args.row c.args.binder c.args.at _
    c.variable_at.ensures _ c.is_some.ensures c.if-is_some.false
