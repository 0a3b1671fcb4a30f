-- `transitions::settled_as` meets its contract.
use Rattle.std.proofs.Common.{refl}
use Rattle.transitions.specs.EndingLaws.{ended_failed, ended_over, ended_full, ended_again}
use Rattle.transitions.proofs.runs.settled_as.Goals as goal

pub returns-in-Failed : goal.returns-in-Failed
returns-in-Failed c = λ s.
    ended_failed c.args.rows.now c.args.row c.args.failure s _ _ c.args.how _ _ _
    c.in-Failed.is c.start_of.ensures c.nonterminal_of.ensures c.failed_call-failed.ensures refl refl

pub returns-in-Over : goal.returns-in-Over
returns-in-Over c = λ s.
    ended_over c.args.rows.now c.args.row c.args.failure s _ _ c.args.how c.in-Over.is refl refl

pub returns-in-Full : goal.returns-in-Full
returns-in-Full c = λ s.
    ended_full c.args.rows.now c.args.row c.args.failure s _ _ c.args.how c.in-Full.is refl refl

pub returns-in-Again : goal.returns-in-Again
returns-in-Again c = λ s.
    ended_again c.args.rows.now c.args.row c.args.failure s _ _ c.args.how c.in-Again.is refl refl
