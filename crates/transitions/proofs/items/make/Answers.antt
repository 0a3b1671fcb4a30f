-- `transitions::make` meets its contract.
use Rattle.std.proofs.Common.{refl}
use Rattle.transitions.specs.OutcomeLaws.{makes_at, makes_full}
use Rattle.transitions.proofs.items.make.Goals as goal

pub returns-in_default : goal.returns-in_default
returns-in_default c =
    makes_full c.args.text.now c.args.store.now _ c.args.state.now c.args.c _ _ c.make.ensures c.in_default.is refl

pub returns : goal.returns
returns c =
    makes_at c.args.text.now c.args.store.now _ c.args.state.now c.args.c _ _ _ c.make.ensures c.in-Some.is
    refl
