-- `transitions::after_variant` meets its contract.
use Rattle.std.proofs.Common.{refl, sym, ◌∙◌}
use Rattle.std.proofs.lemmas.Result.{err_from_is_err_and}
use Rattle.transitions.specs.OutcomeLaws.{failure_done, failure_given, number_there}
use Rattle.transitions.specs.Results.{done_with, outcome_of}
use Rattle.transitions.specs.EndingLaws.{variant_limit, variant_done}
use Rattle.transitions.proofs.variants.after_variant.Goals as goal

pub returns-in_err-failure-clause-does : goal.returns-in_err-failure-clause-does
returns-in_err-failure-clause-does c =
    let p = err_from_is_err_and c.from_residual.result c.from_residual.ensures.1 in
    rw (p.1, p.2, c.in_err-failure.was)
    (λ s t. variant_limit _ _ _ (outcome_of c.args.before s) _ _ (number_there _) refl)

pub returns-clause-does : goal.returns-clause-does
returns-clause-does c =
    rw c.in_ok-failure.was
    (λ s t.
    variant_done c.args.book.now c.args.j c.args.start (outcome_of c.args.before s)
    (done_with c.in_ok-failure.failure t) _ _
    c.unwrap_or.result c.in_ok-failure.failure c.counted.result c.join_with.result refl
    (c.unwrap_or.ensures ∙ failure_given c.args.before s)
    (sym (failure_done c.in_ok-failure.failure t)) c.variant-variant.ensures
    c.counted.ensures c.join_with.ensures refl)
