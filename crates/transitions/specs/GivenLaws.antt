-- Laws on outcomes and cells as the code gives them, in the terms of the model.
--
-- Contents:
-- - outcomes of the code: given_done, ran_with
-- - cells in the model: makes_met, makes_ok
use Rattle.std.specs.Prelude.{◌≡◌, refl, List, ℕ}
use Rattle.std.proofs.Common.{sym, ap, subst, ◌∙◌}
use Rattle.semantics.specs.Cells.{Cell}
use Rattle.semantics.specs.Run as run
use Rattle.semantics.specs.Run.{Result, met, ok}
use Rattle.run_model.specs.Rows.{Row}
use Rattle.run_model.specs.Model.{RowState, row_state, Outcome, outcome, row_made, makes, unmarked}
use Rattle.errors.specs.Maps.{failure_of}
use Rattle.errors.specs.Maps.{Failure}
use Rattle.transitions.specs.Results.{done_with}
use Rattle.transitions.specs.Results as outcomes
use Rattle.transitions.specs.declared.outcomes.State.{State}
use Rattle.transitions.specs.Outcomes.{cells_of, Held, given, Ran}
use Rattle.transitions.specs.OutcomeLaws.{failure_done, given_ok}
use Rattle.transitions.specs.ResumeLaws.{bind_met, bind_ok}

-- ---- Outcomes of the code
pub given_done : (o : outcomes.Outcome) (f : Failure) (s : State) (cells : List Cell) (T : List Row) →
    o ≡ done_with f s → given o cells T ≡ ok (outcome (failure_of f) (row_state s.units cells T))
given_done o f s cells T e =
    ap (λ o. given o cells T) e
    ∙ given_ok (done_with f s) cells T refl
    ∙ ap (λ (f : Failure). ok (outcome (failure_of f) (row_state s.units cells T))) (failure_done f s)

-- what was done, where the cells are those of a state
pub ran_with : (text store : List ℕ) (T : List Row) (o : outcomes.Outcome) (s : State) (z : Result Outcome) →
    o.state.cells ≡ s.cells →
    given o (cells_of store s.cells) T ≡ z → Held text store s.cells → Ran text store T o z
ran_with text store T o s z e h held =
    record { is = ap (λ c. given o (cells_of store c) T) e ∙ h; held = subst (λ c. Held text store c) (sym e) held }

-- ---- Cells in the model
pub makes_met : (f : run.State → Result run.Made) (s : RowState) (a b : ℕ) →
    f (unmarked s) ≡ met a b → makes f s ≡ met a b
unfolding makes
makes_met f s a b e = bind_met _ e

pub makes_ok : (f : run.State → Result run.Made) (s : RowState) (m : run.Made) → f (unmarked s) ≡ ok m →
    makes f s ≡ ok (row_made m.cell (row_state m.state.units m.state.cells s.rows))
unfolding makes
makes_ok f s m e = bind_ok _ e
