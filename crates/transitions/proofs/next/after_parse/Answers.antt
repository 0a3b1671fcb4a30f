-- `transitions::after_parse` meets its contract.
use Rattle.std.proofs.Common.{refl, sym, ◌∙◌}
use Rattle.std.proofs.lemmas.Result.{err_from_is_err_and}
use Rattle.transitions.specs.OutcomeLaws.{failure_done, failure_given, number_there}
use Rattle.transitions.specs.Results.{done_with, outcome_of}
use Rattle.transitions.specs.NextLaws.{joined_limit, joined_first, joined_both}
use Rattle.transitions.proofs.next.after_parse.Goals as goal

pub returns-in_err-failure-clause-does : goal.returns-in_err-failure-clause-does
returns-in_err-failure-clause-does c =
    let p = err_from_is_err_and c.from_residual.result c.from_residual.ensures.1 in
    rw (p.1, p.2, c.in_err-failure.was) (λ s t. joined_limit _ _ _ (number_there _))

pub returns-then-i-eq0-clause-does : goal.returns-then-i-eq0-clause-does
returns-then-i-eq0-clause-does c =
    rw c.in_ok-failure.was
    (λ s t.
    joined_first c.args.i (outcome_of c.args.before s) (done_with c.in_ok-failure.failure t) refl c.if-i-eq0.true)

pub returns-clause-does : goal.returns-clause-does
returns-clause-does c =
    rw c.in_ok-failure.was
    (λ s t.
    joined_both c.args.i (outcome_of c.args.before s) (done_with c.in_ok-failure.failure t) _ c.unwrap_or.result
    c.in_ok-failure.failure c.either.result refl c.if-i-eq0.false
    (c.unwrap_or.ensures ∙ failure_given c.args.before s)
    (sym (failure_done c.in_ok-failure.failure t)) c.either.ensures refl)
