-- Laws of how a path through a variant goes on after a part of it: not at all at a limit or with a failure, else with
-- what it does next.
--
-- Contents:
-- - states: state_in
-- - results: bind_met, bind_ok, unit_met, unit_ok
-- - cells in the model: makes_ok, makes_met
-- - whether a path goes on: goes_without_limit, goes_without_failure, goes_on, limit_ends, ended
-- - how a path goes on: goes_met, goes_further, goes_failed, goes_nowhere, goes_there, made_goes, resumes_met,
--   resumes_on, resumes_failed, made-resumes, gone_reached, gone_child
use Rattle.std.specs.Prelude.{◌≡◌, refl, Bool, true, ◌&&◌, List, ℕ, eqb}
use Rattle.std.proofs.Math.Path.{sym, ap}
use Rattle.std.proofs.Common.{◌∙◌, arith}
use Rattle.std.proofs.Math.Bool.{false}
use Rattle.std.specs.Prelude.{Option, None, Some}
use borrow.Author.Tests.{eqb-true, eqb-false}
use Rattle.characters.specs.Cases.{by_test}
use Rattle.book.specs.Book.{Book}
use Rattle.semantics.specs.Steps.{Todo}
use Rattle.semantics.specs.Errors.{Error}
use Rattle.semantics.specs.Cells.{Cell}
use Rattle.semantics.specs.Run as run
use Rattle.semantics.specs.Run.{Result, met, ok, ◌>>=◌}
use Rattle.run_model.specs.Rows.{Row}
use Rattle.run_model.specs.Model as model
use Rattle.run_model.specs.Model.{RowState, row_state, outcome, RowRunner, RowMade, row_made, makes, steps_rows}
use Rattle.errors.specs.Maps.{error_of, failure_of}
use Rattle.errors.specs.declared.Error as code
use Rattle.errors.specs.Maps.{Failure}
use Rattle.transitions.specs.Results.{CellOutcome, Outcome, Reached, Stage, done_with, without_failure}
use Rattle.transitions.specs.declared.outcomes.State.{State}
use Rattle.transitions.specs.declared.stages.Doing.{Doing}
use Rattle.transitions.specs.declared.stages.Next.{Next}
use Rattle.transitions.specs.Outcomes.{cells_of, bare, given, goes_on, failure_at}
use Rattle.transitions.specs.Outcomes.{MadeIn}
use Rattle.transitions.specs.OutcomeLaws.{given_ok, given_met, cell_ok, cell_met}
use Rattle.transitions.specs.Steps.{then_child, goes_with, descends_rows, does_rows, resumes, StagedFrom}
use Rattle.transitions.specs.Steps.{ReachedFrom, GoPart, GoneFrom}

-- ---- States
-- the state of the model after the code's
abbrev pub state_in : State → List ℕ → List Row → RowState
state_in s store T = row_state s.units (cells_of store s.cells) T

-- ---- Results
pub bind_met : {A B : Type 0} {x : Result A} {number units : ℕ} (K : A → Result B) → x ≡ met number units →
    (x >>= K) ≡ met number units
unfolding ◌>>=◌
bind_met K e = ap (λ y. y >>= K) e

pub bind_ok : {A B : Type 0} {x : Result A} {a : A} (K : A → Result B) → x ≡ ok a → (x >>= K) ≡ K a
unfolding ◌>>=◌
bind_ok K e = ap (λ y. y >>= K) e

-- what was bound to an outcome without a failure
pub unit_met : (x : Result RowState) (number units : ℕ) →
    met number units ≡ (x >>= (λ t. ok (outcome None t))) → x ≡ met number units
unfolding ◌>>=◌
unit_met (met a b) number units e = cc
unit_met (ok t) number units e = let z : ◌≡◌ {A = ℕ} 0 1 = cc in absurd (omega arith)

pub unit_ok : (x : Result RowState) (f : Option Error) (s : RowState) →
    ok (outcome f s) ≡ (x >>= (λ t. ok (outcome None t))) → x ≡ ok s
unfolding ◌>>=◌
unit_ok (met a b) f s e = let z : ◌≡◌ {A = ℕ} 0 1 = cc in absurd (omega arith)
unit_ok (ok t) f s e = let q : outcome f s ≡ outcome None t = cc in ap ok (sym (ap (λ (o : model.Outcome). o.state) q))

-- ---- Cells in the model
module _ (text store : List ℕ) (m : CellOutcome) (f : run.State → Result run.Made) (units : ℕ) (cells : List Cell)
    (w : MadeIn text store m (f (bare units cells))) (T : List Row) where
  pub makes_ok : m.limit ≡ 0 → makes f (row_state units cells T) ≡ ok (row_made m.cell (state_in m.state store T))
  unfolding makes ◌>>=◌
  makes_ok l = rw (sym w.is ∙ cell_ok m (cells_of store m.state.cells) l, makes, ◌>>=◌)

  pub makes_met : (m.limit ≡ 0 → ⊥) → makes f (row_state units cells T) ≡ met m.limit m.state.units
  unfolding makes ◌>>=◌
  makes_met l = rw (sym w.is ∙ cell_met m (cells_of store m.state.cells) l, makes, ◌>>=◌)

-- ---- Whether a path goes on
and_left : (a b : Bool) → (a && b) ≡ true → a ≡ true
and_left true b e = refl
and_left false b e = e

and_right : (a b : Bool) → (a && b) ≡ true → b ≡ true
and_right true b e = e
and_right false true e = refl
and_right false false e = e

module _ (o : Outcome) (e : goes_on o ≡ true) where
  pub goes_without_limit : o.limit ≡ 0
  unfolding goes_on
  goes_without_limit = eqb-true o.limit 0 (and_left (eqb o.limit 0) (eqb o.failed 0) e)

  pub goes_without_failure : failure_of (failure_at o) ≡ None
  unfolding goes_on
  goes_without_failure = rw (and_right (eqb o.limit 0) (eqb o.failed 0) e)

module _ (o : Outcome) (cells : List Cell) (T : List Row) where
  pub goes_on_lem : goes_on o ≡ true → given o cells T ≡ ok (outcome None (row_state o.state.units cells T))
  goes_on_lem e = given_ok o cells T (goes_without_limit o e) ∙ rw (goes_without_failure o e)

  -- a limit ends all that would follow
  pub limit_ends : (K : model.Outcome → Result model.Outcome) → (o.limit ≡ 0 → ⊥) →
      given o cells T ≡ (given o cells T >>= K)
  unfolding ◌>>=◌
  limit_ends K h = rw (given_met o cells T h)

  -- what a failure ends
  pub ended : (K : model.Outcome → Result model.Outcome) →
      ((e : Error) (s : RowState) → K (outcome (Some e) s) ≡ ok (outcome (Some e) s)) →
      goes_on o ≡ false → given o cells T ≡ (given o cells T >>= K)
  unfolding goes_on ◌>>=◌
  ended K k h =
      by_test (eqb o.limit 0)
      (λ t.
      let f : failure_at o ≡ Some o.error = rw (and-false (eqb o.failed 0) (rw t at h)) in
      rw (given_ok o cells T (eqb-true o.limit 0 t)
      ∙ ap (λ (x : Failure). ok (outcome (failure_of x) (row_state o.state.units cells T))) f) (sym (k _ _)))
      (λ t. limit_ends K (eqb-false o.limit 0 t))
    where
      and-false : (b : Bool) → (true && b) ≡ false → b ≡ false
      and-false b e = e

-- ---- How a path goes on
module _ (go : RowState → Result model.Outcome) where
  pub goes_met : (o : Outcome) (cells : List Cell) (T : List Row) → (o.limit ≡ 0 → ⊥) →
      goes_with go (given o cells T) ≡ met o.limit o.state.units
  unfolding goes_with ◌>>=◌
  goes_met o cells T l = ap (goes_with go) (given_met o cells T l)

  pub goes_further : (limit : ℕ) (s : State) (cells : List Cell) (T : List Row) → limit ≡ 0 →
      goes_with go (given (without_failure limit s) cells T) ≡ go (row_state s.units cells T)
  unfolding goes_with ◌>>=◌
  goes_further limit s cells T l = ap (goes_with go) (given_ok (without_failure limit s) cells T l)

  pub goes_failed : (e : code.Error) (s : State) (cells : List Cell) (T : List Row) →
      goes_with go (given (done_with (Some e) s) cells T)
      ≡ ok (outcome (Some (error_of e)) (row_state s.units cells T))
  unfolding goes_with ◌>>=◌
  goes_failed e s cells T = ap (goes_with go) (given_ok (done_with (Some e) s) cells T refl)

  -- a path that has ended stays ended, and one that hasn't goes on
  pub goes_nowhere : (o : Outcome) (cells : List Cell) (T : List Row) → goes_on o ≡ false →
      goes_with go (given o cells T) ≡ given o cells T
  unfolding goes_with
  goes_nowhere o cells T h = sym (ended o cells T _ (λ e s. refl) h)

  pub goes_there : (o : Outcome) (cells : List Cell) (T : List Row) → goes_on o ≡ true →
      goes_with go (given o cells T) ≡ go (row_state o.state.units cells T)
  unfolding goes_with ◌>>=◌
  goes_there o cells T h = ap (goes_with go) (goes_on_lem o cells T h)

  -- a cell was made or a limit met, and the path goes on with the cell
  pub made_goes : (text store : List ℕ) (m : CellOutcome) (f : run.State → Result run.Made) (units : ℕ)
      (cells : List Cell) → MadeIn text store m (f (bare units cells)) → (T : List Row)
      (K : RowMade → Result model.Outcome) →
      K (row_made m.cell (state_in m.state store T)) ≡ go (state_in m.state store T) →
      goes_with go (given (without_failure m.limit m.state) (cells_of store m.state.cells) T)
      ≡ (makes f (row_state units cells T) >>= K)
  made_goes text store m f units cells w T K k =
      by_test (eqb m.limit 0)
      (λ t. let l = eqb-true m.limit 0 t in
      goes_further m.limit m.state (cells_of store m.state.cells) T l ∙ sym k
      ∙ sym (bind_ok K (makes_ok text store m f units cells w T l)))
      (λ t. let l = eqb-false m.limit 0 t in
      goes_met (without_failure m.limit m.state) (cells_of store m.state.cells) T l
      ∙ sym (bind_met K (makes_met text store m f units cells w T l)))

-- the same of what is done next in a variant
module _ (book : Book) (text : List ℕ) (inner : Option RowRunner) (n c j : ℕ) (rest : List (Todo ℕ))
    (doing : Doing) (at items : ℕ) where
  abbrev go : RowState → Result model.Outcome
  go s = does_rows book text inner n c j rest doing at items s

  pub resumes_met : (o : Outcome) (cells : List Cell) (T : List Row) → (o.limit ≡ 0 → ⊥) →
      resumes book text inner n c j rest doing at items (given o cells T) ≡ met o.limit o.state.units
  unfolding resumes
  resumes_met o cells T l = goes_met go o cells T l

  pub resumes_on : (limit : ℕ) (s : State) (cells : List Cell) (T : List Row) → limit ≡ 0 →
      resumes book text inner n c j rest doing at items (given (without_failure limit s) cells T)
      ≡ does_rows book text inner n c j rest doing at items (row_state s.units cells T)
  unfolding resumes
  resumes_on limit s cells T l = goes_further go limit s cells T l

  pub resumes_failed : (e : code.Error) (s : State) (cells : List Cell) (T : List Row) →
      resumes book text inner n c j rest doing at items (given (done_with (Some e) s) cells T)
      ≡ ok (outcome (Some (error_of e)) (row_state s.units cells T))
  unfolding resumes
  resumes_failed e s cells T = goes_failed go e s cells T

  pub made_resumes :
      (store : List ℕ) (m : CellOutcome) (f : run.State → Result run.Made) (units : ℕ) (cells : List Cell) →
      MadeIn text store m (f (bare units cells)) → (T : List Row) (K : RowMade → Result model.Outcome) →
      K (row_made m.cell (state_in m.state store T))
      ≡ does_rows book text inner n c j rest doing at items (state_in m.state store T) →
      resumes book text inner n c j rest doing at items
      (given (without_failure m.limit m.state) (cells_of store m.state.cells) T)
      ≡ (makes f (row_state units cells T) >>= K)
  unfolding resumes
  made_resumes store m f units cells w T K k = made_goes go text store m f units cells w T K k

-- a part that goes on whatever comes next, where the steps left come next, or a child
module _ (book : Book) (text before after : List ℕ) (j : ℕ) (s : State) (r : Reached) (z : GoPart)
    (w : GoneFrom text before s after r z) where
  pub gone_reached : ReachedFrom book text before s after j r
      (λ inner n c rest s. z (steps_rows book text inner n c j rest) s)
  unfolding resumes does_rows
  gone_reached h =
      let u = w h in
      record { is = λ inner n c rest T. u.is (steps_rows book text inner n c j rest) T; held = u.held }

  pub gone_child : (M : ℕ) (g : Stage) → g ≡ then_child r M → StagedFrom book text before s after j g
      (λ inner n c rest s. z (λ x items s. descends_rows book text inner n c j rest None Next.Steps M x items s) s)
  unfolding resumes does_rows
  gone_child M g e h =
      let u = w h in
      rw e (record {
        is = λ inner n c rest T.
            u.is (λ x items s. descends_rows book text inner n c j rest None Next.Steps M x items s) T;
        held = u.held;
      })
