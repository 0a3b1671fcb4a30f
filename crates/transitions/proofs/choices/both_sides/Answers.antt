-- `transitions::both_sides` meets its contract.
use Rattle.std.proofs.Common.{refl, sym, ◌∙◌}
use Rattle.std.proofs.lemmas.Result.{err_from_is_err_and}
use Rattle.transitions.specs.OutcomeLaws.{failure_done, failure_given, number_there}
use Rattle.transitions.specs.Results.{done_with, outcome_of}
use Rattle.transitions.specs.NextLaws.{both_chosen, both_limit}
use Rattle.transitions.proofs.choices.both_sides.Goals as goal

pub returns-in_err-failure-clause-does : goal.returns-in_err-failure-clause-does
returns-in_err-failure-clause-does c =
    let p = err_from_is_err_and c.from_residual.result c.from_residual.ensures.1 in
    rw (p.1, p.2, c.in_err-failure.was)
    (λ s t. both_limit _ _ _ _ (outcome_of c.args.first s) _ (number_there _))

pub returns-clause-does : goal.returns-clause-does
returns-clause-does c =
    rw c.in_ok-failure.was
    (λ s t.
    both_chosen c.args.text.now c.args.rows.now c.args.here.call c.args.here.place
    _ _ (outcome_of c.args.first s) (done_with c.in_ok-failure.failure t) _
    c.unwrap_or.result c.in_ok-failure.failure c.chosen.result refl
    c.nonterminal_of.ensures c.skipped-at.ensures (c.unwrap_or.ensures ∙ failure_given c.args.first s)
    (sym (failure_done c.in_ok-failure.failure t)) c.chosen.ensures refl)
