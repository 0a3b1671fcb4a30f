-- A path that a limit has ended goes nowhere, so that its place and its items may be any.
--
-- Contents: gone_anywhere, staged_anywhere, staged_in_anywhere, gone_at
use Rattle.std.specs.Prelude.{◌≡◌, refl, true, false, List, ℕ, Result, Ok, Err, IfOk, Some, None, is_some}
use Rattle.std.proofs.Math.Path.{sym}
use Rattle.std.proofs.Common.{◌∙◌}
use Rattle.book.specs.Book.{Book}
use Rattle.run_model.specs.Rows.{Row}
use Rattle.errors.specs.Maps.{Failure}
use Rattle.transitions.specs.Results.{Reached, Stage, cell_of, reached_at, ended_of, without_failure, done_with}
use Rattle.transitions.specs.Results.{stage_of, limit_number}
use Rattle.transitions.specs.declared.stages.Doing.{Doing}
use Rattle.transitions.specs.declared.stages.Stage as code
use Rattle.transitions.specs.Outcomes.{goes_on}
use Rattle.transitions.specs.declared.outcomes.Ended.{Ended}
use Rattle.transitions.specs.declared.outcomes.Limit.{Limit}
use Rattle.transitions.specs.OutcomeLaws.{number_there, limit_stops}
use Rattle.transitions.specs.declared.outcomes.State.{State}
use Rattle.transitions.specs.Steps.{reached_with, ModelPart, GoPart, GoneFrom, StagedFrom, StagedIn}
use Rattle.transitions.specs.ResumeLaws.{goes_met, resumes_met}

pub gone_anywhere : (text before after : List ℕ) (s : State) (g r : Reached) (z : GoPart) →
    r.outcome ≡ g.outcome → (g.outcome.limit ≡ 0 → ⊥) → GoneFrom text before s after g z →
    GoneFrom text before s after r z
gone_anywhere text before after s g r z e l w h =
    let v = w h in
    record {
      is = λ go T.
          rw e (goes_met (λ t. go r.place r.items t) g.outcome _ T l
          ∙ sym (goes_met (λ t. go g.place g.items t) g.outcome _ T l) ∙ v.is go T);
      held = rw e v.held;
    }

module _ (book : Book) (text before after : List ℕ) (s : State) where
  pub staged_anywhere : (j : ℕ) (g r : Stage) (z : ModelPart) → r.outcome ≡ g.outcome →
      (g.outcome.limit ≡ 0 → ⊥) → StagedFrom book text before s after j g z → StagedFrom book text before s after j r z
  staged_anywhere j g r z e l w h =
      let v = w h in
      record {
        is = λ inner n c rest T.
            rw e (resumes_met book text inner n c j rest r.doing r.place r.items g.outcome _ T l
            ∙ sym (resumes_met book text inner n c j rest g.doing g.place g.items g.outcome _ T l)
            ∙ v.is inner n c rest T);
        held = rw e v.held;
      }

  pub staged_in_anywhere : (T : List Row) (c j : ℕ) (g r : Stage) (z : ModelPart) → r.outcome ≡ g.outcome →
      (g.outcome.limit ≡ 0 → ⊥) → StagedIn book text before s after T c j g z →
      StagedIn book text before s after T c j r z
  staged_in_anywhere T c j g r z e l w h =
      let v = w h in
      record {
        is = λ inner n rest.
            rw e (resumes_met book text inner n c j rest r.doing r.place r.items g.outcome _ T l
            ∙ sym (resumes_met book text inner n c j rest g.doing g.place g.items g.outcome _ T l)
            ∙ v.is inner n rest);
        held = rw e v.held;
      }

-- so the items that were made, or the limit, at a place
pub gone_at : (text before after : List ℕ) (s : State) (r : Result ℕ Limit) (place : ℕ) (t : State) (z : GoPart) →
    GoneFrom text before s after (reached_with (cell_of r t) place) z →
    GoneFrom text before s after (reached_at r place t) z
gone_at text before after s (Ok items) place t z w = w
gone_at text before after s (Err limit) place t z w =
    gone_anywhere text before after s (reached_with (cell_of (Err limit) t) place) (reached_at (Err limit) place t) z
    refl (number_there limit) w

-- ---- Whether a path goes on
pub ended_stops : (e : Ended) (s : State) → goes_on (ended_of e s) ≡ false
unfolding goes_on
ended_stops (Ended.AtLimit limit) s = sym (limit_stops (ended_of (Ended.AtLimit limit) s) (number_there limit))
ended_stops (Ended.Failed e) s = refl

pub goes_done : (s : State) → goes_on (without_failure 0 s) ≡ true
unfolding goes_on
goes_done s = refl

pub limit_stops_path : (limit : Limit) (s : State) → goes_on (without_failure (limit_number limit) s) ≡ false
limit_stops_path limit s = ended_stops (Ended.AtLimit limit) s

pub failure_stops : (f : Failure) (s : State) → is_some f ≡ true → goes_on (done_with f s) ≡ false
unfolding goes_on
failure_stops None s e = sym e
failure_stops (Some e) s h = refl

pub nothing_goes : (f : Failure) (s : State) → is_some f ≡ false → goes_on (done_with f s) ≡ true
unfolding goes_on
nothing_goes None s e = refl
nothing_goes (Some e) s h = sym h

-- a first side goes on with the steps that are left
pub side_steps : (r : Result code.Stage Ended) (s : State) → IfOk r (λ g. g.doing ≡ Doing.Steps) →
    (stage_of r s).doing ≡ Doing.Steps
side_steps (Ok g) s h = h
side_steps (Err e) s h = refl
