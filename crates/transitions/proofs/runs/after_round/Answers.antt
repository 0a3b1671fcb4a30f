-- `transitions::after_round` meets its contract.
use Rattle.std.proofs.Common.{refl, sym}
use Rattle.std.proofs.lemmas.Result.{err_from_is_err_and}
use Rattle.calls.specs.Lent.{table_in}
use Rattle.transitions.specs.OutcomeLaws.{failure_done, number_there}
use Rattle.transitions.specs.Results.{done_with}
use Rattle.transitions.specs.EndingLaws.{round_limit, round_settled}
use Rattle.transitions.proofs.runs.after_round.Goals as goal

pub returns-in_err-failure : goal.returns-in_err-failure
returns-in_err-failure c =
    record {
      ends = let p = err_from_is_err_and c.from_residual.result c.from_residual.ensures.1 in
          rw (p.1, p.2, c.in_err-failure.was) (λ s. round_limit _ _ _ _ (number_there _) refl);
      slice = refl;
      limit = let p = err_from_is_err_and c.from_residual.result c.from_residual.ensures.1 in
          rw (p.1, p.2, c.in_err-failure.was) refl;
    }

pub returns : goal.returns
returns c =
    record {
      ends = rw c.in_ok-failure.was
          (λ s.
          round_settled (table_in c.args.rows.now) c.args.row (done_with c.in_ok-failure.failure s) _ _ _ refl
          c.settle-how.ensures.0
          c.in_ok-failure.failure (sym (failure_done c.in_ok-failure.failure s)) (rw c.shared.ensures at
          c.settled_as.ensures s));
      slice = c.settle-how.ensures.1;
      limit = rw c.in_ok-failure.was tt;
    }
