-- Laws of lists that begin and of steps: one for each way through their functions of steps.rt.
--
-- Contents:
-- - a step's unit: free_many, free_list, paid_unit
-- - a list begins, or has no opening: list_begun, unopened_limit, unopened_stops
-- - a token was read: token_taken
-- - a step: body_stands, step_limit, step_fails, step_reads, step_descends, step_chooses, step_lists, step_unopens,
--   step_omits, at_step
use Rattle.std.specs.Prelude.{◌≡◌, refl, Bool, List, ◌∷◌, ℕ, leb}
use Rattle.std.proofs.Math.Path.{sym, ap}
use Rattle.std.proofs.Common.{◌∙◌, arith, leb-true}
use Rattle.std.proofs.Math.Bool.{true, false}
use Rattle.std.specs.Prelude.{Option, None, Some}
use Rattle.characters.specs.Cases.{by_test}
use Rattle.characters.specs.Classes.{between}
use Rattle.characters.specs.Skipping.{skip_from}
use Rattle.book.specs.Book.{Book, step_number}
use Rattle.book.specs.declared.records.Step.{Step}
use Rattle.semantics.specs.Tokens as tokens
use Rattle.semantics.specs.Steps as steps
use Rattle.semantics.specs.Steps.{Todo, taking, step_at}
use Rattle.semantics.specs.Errors.{step_error}
use Rattle.semantics.specs.Cells.{Cell}
use Rattle.semantics.specs.Run as run
use Rattle.semantics.specs.Run.{met, ok, ◌>>=◌}
use Rattle.run_model.specs.Rows.{Row, scope_in}
use Rattle.run_model.specs.Model.{RowState, row_state, outcome, RowRunner}
use Rattle.run_model.specs.Model.{choice_rows, listing_rows, open_rows, body_rows, step_unit_rows, steps_rows}
use Rattle.errors.specs.Maps.{error_of, failure_of}
use Rattle.tokens.specs.Maps.{item_of, taken_of}
use Rattle.errors.specs.declared.Error as code
use Rattle.tokens.specs.declared.steps.Item.{Item}
use Rattle.tokens.specs.declared.steps.Taken.{Taken}
use Rattle.transitions.specs.Results.{CellOutcome, Outcome, Reached, Stage, done_with, without_failure}
use Rattle.transitions.specs.declared.outcomes.State.{State}
use Rattle.transitions.specs.declared.stages.Doing.{Doing}
use Rattle.transitions.specs.declared.stages.List as lists
use Rattle.transitions.specs.declared.stages.Next.{Next}
use Rattle.transitions.specs.Outcomes.{cells_of, Held, given, Spent, MadeBy}
use Rattle.transitions.specs.Outcomes.{failure_at}
use Rattle.transitions.specs.OutcomeLaws.{given_ok, given_met}
use Rattle.transitions.specs.Steps.{next_rows, descends_rows, chooses_rows, does_rows, names_rows, lists_rows}
use Rattle.transitions.specs.Steps.{omits_rows, body_alone_rows, unopened_rows, token_rows}
use Rattle.transitions.specs.Steps.{ModelPart, StagedFrom, StagedIn, ReachedFrom, GoneFrom, StepSpent}
use Rattle.transitions.specs.Steps.{ended_by, reached_with, then_steps, then_child, then_does}
use Rattle.transitions.specs.ResumeLaws.{state_in, bind_met, bind_ok, unit_met, unit_ok, makes_ok, makes_met}
use Rattle.transitions.specs.ResumeLaws.{resumes_met, resumes_on}
use Rattle.transitions.specs.ResumeLaws.{resumes_failed, made_resumes, gone_reached, gone_child}
use Rattle.transitions.specs.StopLaws.{stops_part, omits_part}

-- ---- A step's unit
module _ (step : Step) (s : State) (r : Outcome) (kind : ℕ) (ek : kind ≡ step_number step) where
  free_unit : between 10 11 kind ≡ true → r ≡ done_with None s → StepSpent r step s
  unfolding step_unit_rows given ◌>>=◌
  free_unit b e =
      record {
        is = λ book text inner n cells T. rw (e, rw ek at b, step_unit_rows, ◌>>=◌);
        cells = ap (λ (o : Outcome). o.state.cells) e;
      }

  pub free_many : kind ≡ 10 → r ≡ done_with None s → StepSpent r step s
  free_many h e = free_unit (rw h) e

  pub free_list : kind ≡ 11 → r ≡ done_with None s → StepSpent r step s
  free_list h e = free_unit (rw h) e

  other_kind : (kind ≡ 10 → ⊥) → (kind ≡ 11 → ⊥) → between 10 11 kind ≡ false
  other_kind h k =
      by_test (between 10 11 kind)
      (λ t. by_test (leb 10 kind)
      (λ a. by_test (leb kind 11) (λ b. absurd (omega (arith, leb-true 10 kind a, leb-true kind 11 b, h, k))) (λ b.
      rw (a, b)))
      (λ a. rw a))
      (λ t. t)

  pub paid_unit : (kind ≡ 10 → ⊥) → (kind ≡ 11 → ⊥) → Spent r s → StepSpent r step s
  unfolding step_unit_rows ◌>>=◌
  paid_unit h k p =
      record {
        is = λ book text inner n cells T. p.is cells T ∙ rw (rw ek at (other_kind h k), step_unit_rows);
        cells = p.cells;
      }

module _ (r : Outcome) (step : Step) (s : State) (p : StepSpent r step s) (book : Book) (text : List ℕ)
    (inner : Option RowRunner) (n : ℕ) (cells : List Cell) (T : List Row) where
  unit_stops : (r.limit ≡ 0 → ⊥) →
      step_unit_rows book text inner n step (row_state s.units cells T) ≡ met r.limit r.state.units
  unit_stops l =
      unit_met (step_unit_rows book text inner n step (row_state s.units cells T)) r.limit r.state.units
      (sym (given_met r cells T l) ∙ p.is book text inner n cells T)

  unit_goes : r.limit ≡ 0 →
      step_unit_rows book text inner n step (row_state s.units cells T) ≡ ok (row_state r.state.units cells T)
  unit_goes l =
      unit_ok (step_unit_rows book text inner n step (row_state s.units cells T)) (failure_of (failure_at r))
      (row_state r.state.units cells T) (sym (given_ok r cells T l) ∙ p.is book text inner n cells T)

-- ---- A list begins, or has no opening
abbrev list_of : Bool → Bool → ℕ → Option ℕ → ℕ → lists.List
list_of comma names M closing values =
    record { comma = comma; names = names; nonterminal = M; values = values; closing = closing }

module _ (book : Book) (text before after : List ℕ) (j : ℕ) (s : State) (m : CellOutcome)
    (w : MadeBy text before after s m (run.make text Cell.empty)) (place items : ℕ) where
  pub list_begun : (comma names : Bool) (M : ℕ) (closing : Option ℕ) (o : Outcome) →
      o ≡ without_failure m.limit m.state →
      StagedFrom book text before s after j
      (record {
        outcome = o;
        place = place;
        items = items;
        doing = Doing.Elements (list_of comma names M closing m.cell);
      })
      (λ inner n c rest s. lists_rows book text inner n c j rest comma names M closing place items s)
  unfolding lists_rows listing_rows does_rows chooses_rows
  list_begun comma true M closing o e h =
      let v = w h in
      rw e (record {
        is = λ inner n c rest T.
            made_resumes book text inner n c j rest (Doing.Elements (list_of comma true M closing m.cell)) place
            items after m (run.make text Cell.empty) s.units (cells_of before s.cells) v T
            (λ b. names_rows book text inner n c j rest b.cell closing M place items b.state) refl;
        held = v.held;
      })
  list_begun comma false M closing o e h =
      let v = w h in
      rw e (record {
        is = λ inner n c rest T.
            made_resumes book text inner n c j rest (Doing.Elements (list_of comma false M closing m.cell)) place
            items after m (run.make text Cell.empty) s.units (cells_of before s.cells) v T
            (λ b. choice_rows book text inner n c j comma M b.cell closing rest
            (steps_rows book text inner n c j rest) place items b.state) refl;
        held = v.held;
      })

  pub unopened_limit : (g : Reached) → (m.limit ≡ 0 → ⊥) → g ≡ reached_with m 0 →
      ReachedFrom book text before s after j g
      (λ inner n c rest s. unopened_rows book text inner n c j rest place items s)
  unfolding unopened_rows
  unopened_limit g l e h =
      let v = w h in
      rw e (record {
        is = λ inner n c rest T.
            resumes_met book text inner n c j rest Doing.Steps 0 m.cell (without_failure m.limit m.state)
            (cells_of after m.state.cells) T l
            ∙ sym (bind_met _
            (makes_met text after m (run.make text Cell.empty) s.units (cells_of before s.cells) v T l));
        held = v.held;
      })

  pub unopened_stops : (last : List ℕ) (g : Reached) → m.limit ≡ 0 →
      GoneFrom text after m.state last g (stops_part book text j m.cell None place items) →
      ReachedFrom book text before s last j g
      (λ inner n c rest s. unopened_rows book text inner n c j rest place items s)
  unfolding unopened_rows
  unopened_stops last g l k h =
      let v = w h in
      let u = gone_reached book text after last j m.state g _ k v.held in
      record {
        is = λ inner n c rest T.
            u.is inner n c rest T ∙ sym (bind_ok _
            (makes_ok text after m (run.make text Cell.empty) s.units (cells_of before s.cells) v T l));
        held = u.held;
      }

-- ---- A token was read
pub token_taken : (book : Book) (text before after : List ℕ) (j items : ℕ) (o : Option tokens.Item) (next : ℕ)
    (s : State) (m : CellOutcome) (g : Reached) →
    MadeBy text before after s m (run.with_token book text j items o) → g ≡ reached_with m next →
    ReachedFrom book text before s after j g (λ inner n c rest s. token_rows book text inner n c j rest o next items s)
unfolding token_rows does_rows
token_taken book text before after j items o next s m g w e h =
    let v = w h in
    rw e (record {
      is = λ inner n c rest T.
          made_resumes book text inner n c j rest Doing.Steps next m.cell after m (run.with_token book text j items o)
          s.units (cells_of before s.cells) v T
          (λ b. steps_rows book text inner n c j rest next b.cell b.state) refl;
      held = v.held;
    })

-- ---- A step
abbrev step_part : Book → List ℕ → ℕ → Step → ℕ → ℕ → ModelPart
step_part book text j step x items inner n c rest s = steps_rows book text inner n c j (taking step ∷ rest) x items s

-- what the step took, in the model, on a state whose unit is spent
module _ (book : Book) (text : List ℕ) (inner : Option RowRunner) (n c j : ℕ) (rest : List (Todo ℕ)) (step : Step)
    (x items : ℕ) (s t : RowState) (u : step_unit_rows book text inner n step s ≡ ok t) where
  abbrev takes : steps.Taken
  takes = step_at book text (scope_in text t.rows c) step x

  step_nothing : takes ≡ steps.Taken.nothing →
      step_part book text j step x items inner n c rest s
      ≡ ok (outcome (Some (step_error book text (scope_in text t.rows c) step (skip_from text x))) t)
  unfolding steps_rows ◌>>=◌
  step_nothing e = rw (u, steps_rows, ◌>>=◌) (rw e)

  step_token : (next : ℕ) (o : Option tokens.Item) → takes ≡ steps.read next o →
      step_part book text j step x items inner n c rest s ≡ token_rows book text inner n c j rest o next items t
  unfolding steps_rows token_rows ◌>>=◌
  step_token next o e = rw (u, steps_rows, ◌>>=◌) (rw e)

  step_child : (M : ℕ) → takes ≡ steps.Taken.child M →
      step_part book text j step x items inner n c rest s ≡ does_rows book text inner n c j rest (Doing.Child M) x
      items t
  unfolding steps_rows does_rows descends_rows next_rows ◌>>=◌
  step_child M e = rw (u, steps_rows, ◌>>=◌) (rw e)

  step_optional : (M : ℕ) → takes ≡ steps.Taken.optional M →
      step_part book text j step x items inner n c rest s
      ≡ does_rows book text inner n c j rest (Doing.Optional M) x items t
  unfolding steps_rows does_rows chooses_rows ◌>>=◌
  step_optional M e = rw (u, steps_rows, ◌>>=◌) (rw e)

  step_list : (comma names : Bool) (M : ℕ) (closing : Option ℕ) (y : ℕ) →
      takes ≡ taken_of (Some (Taken.List comma names M closing y)) → step_part book text j step x items inner n c rest s
      ≡ lists_rows book text inner n c j rest comma names M closing y items t
  unfolding steps_rows lists_rows names_rows ◌>>=◌
  step_list comma true M closing y e = rw (u, steps_rows, ◌>>=◌) (rw e)
  step_list comma false M closing y e = rw (u, steps_rows, ◌>>=◌) (rw e)

  step_unopened : (y : ℕ) → takes ≡ steps.Taken.unopened y →
      step_part book text j step x items inner n c rest s ≡ unopened_rows book text inner n c j rest y items t
  unfolding steps_rows unopened_rows ◌>>=◌
  step_unopened y e = rw (u, steps_rows, ◌>>=◌) (rw e)

  step_body : (M : ℕ) → takes ≡ steps.Taken.body M →
      step_part book text j step x items inner n c rest s ≡ body_alone_rows book text inner n c j rest M x items t
  unfolding steps_rows body_alone_rows ◌>>=◌
  step_body M e = rw (u, steps_rows, ◌>>=◌) (rw e)

-- a body behind no opening is a child like any other, behind an absent item
omits_body : (book : Book) (text : List ℕ) (inner : Option RowRunner) (n c j : ℕ) (rest : List (Todo ℕ)) (M x items : ℕ)
    (s : RowState) →
    omits_rows book text j (λ x items s. descends_rows book text inner n c j rest None Next.Steps M x items s) x items s
    ≡ body_alone_rows book text inner n c j rest M x items s
unfolding omits_rows body_alone_rows body_rows open_rows descends_rows next_rows ◌>>=◌
omits_body book text inner n c j rest M x items s = refl

pub body_stands : (book : Book) (text before after : List ℕ) (j x items : ℕ) (s : State) (r : Reached) (M : ℕ) →
    GoneFrom text before s after r (omits_part book text j x items) →
    StagedFrom book text before s after j (then_child r M)
    (λ inner n c rest s. body_alone_rows book text inner n c j rest M x items s)
body_stands book text before after j x items s r M w h =
    let u = gone_child book text before after j s r (omits_part book text j x items) w M (then_child r M) refl h in
    record {
      is = λ inner n c rest T.
          u.is inner n c rest T
          ∙ omits_body book text inner n c j rest M x items (row_state s.units (cells_of before s.cells) T);
      held = u.held;
    }

module _ (book : Book) (text store : List ℕ) (T : List Row) (c j : ℕ) (s : State) (x items : ℕ) (step : Step)
    (spent : Outcome) (p : StepSpent spent step s) where
  same_cells : cells_of store spent.state.cells ≡ cells_of store s.cells
  same_cells = ap (λ k. cells_of store k) p.cells

  spent_held : Held text store s.cells → Held text store spent.state.cells
  spent_held h = rw p.cells h

  pub step_limit : (r : Reached) (g : Stage) → (spent.limit ≡ 0 → ⊥) → r ≡ ended_by spent → g ≡ then_steps r →
      StagedIn book text store s store T c j g (step_part book text j step x items)
  unfolding steps_rows
  step_limit r g l er eg h =
      rw (eg, er) (record {
        is = λ inner n rest.
            resumes_met book text inner n c j rest Doing.Steps 0 0 spent (cells_of store spent.state.cells) T l
            ∙ sym (bind_met _ (unit_stops spent step s p book text inner n (cells_of store s.cells) T l));
        held = spent_held h;
      })

  module _ (l : spent.limit ≡ 0) (o : Option Taken)
      (eo : taken_of o ≡ step_at book text (scope_in text T c) step x) where
    -- the state of the model after the unit
    spends : (inner : Option RowRunner) (n : ℕ) →
        step_unit_rows book text inner n step (row_state s.units (cells_of store s.cells) T)
        ≡ ok (state_in spent.state store T)
    spends inner n =
        unit_goes spent step s p book text inner n (cells_of store s.cells) T l
        ∙ ap (λ k. ok (row_state spent.state.units k T)) (sym same_cells)

    pub step_fails : (e : code.Error) (q : Outcome) (r : Reached) (g : Stage) → o ≡ None →
        error_of e ≡ step_error book text (scope_in text T c) step (skip_from text x) →
        q ≡ done_with (Some e) spent.state → r ≡ ended_by q → g ≡ then_steps r → StagedIn book text store s
        store T c j g (step_part book text j step x items)
    step_fails e q r g k d eq er eg h =
        rw (eg, er, eq) (record {
          is = λ inner n rest.
              resumes_failed book text inner n c j rest Doing.Steps 0 0 e spent.state
              (cells_of store spent.state.cells) T
              ∙ ap (λ z. ok (outcome (Some z) (state_in spent.state store T))) d
              ∙ sym (step_nothing book text inner n c j rest step x items
              (row_state s.units (cells_of store s.cells) T) (state_in spent.state store T)
              (spends inner n) (sym eo ∙ ap taken_of k));
          held = spent_held h;
        })

    -- what the step took, where it took something
    module _ (t : Taken) (is : o ≡ Some t) where
      took : (u : Taken) → t ≡ u → step_at book text (scope_in text T c) step x ≡ taken_of (Some u)
      took u k = sym eo ∙ ap taken_of (is ∙ ap Some k)

      pub step_reads : (after : List ℕ) (next : ℕ) (item : Option Item) (g : Stage) → t ≡ Taken.Token next item →
          StagedFrom book text store spent.state after j g
          (λ inner n c rest s. token_rows book text inner n c j rest (item_of item) next items s) →
          StagedIn book text store s after T c j g (step_part book text j step x items)
      step_reads after next item g k w h =
          let u = w (spent_held h) in
          record {
            is = λ inner n rest.
                u.is inner n c rest T
                ∙ sym (step_token book text inner n c j rest step x items
                (row_state s.units (cells_of store s.cells) T) (state_in spent.state store T)
                (spends inner n) next (item_of item) (took _ k));
            held = u.held;
          }

      pub step_descends : (M : ℕ) (g : Stage) → t ≡ Taken.Child M → g ≡ then_does x items (Doing.Child M) spent.state →
          StagedIn book text store s store T c j g (step_part book text j step x items)
      step_descends M g k eg h =
          rw eg (record {
            is = λ inner n rest.
                resumes_on book text inner n c j rest (Doing.Child M) x items 0 spent.state
                (cells_of store spent.state.cells) T refl
                ∙ sym (step_child book text inner n c j rest step x items (row_state s.units (cells_of store s.cells)
                T) (state_in spent.state store T) (spends inner n) M (took _ k));
            held = spent_held h;
          })

      pub step_chooses : (M : ℕ) (g : Stage) → t ≡ Taken.Optional M →
          g ≡ then_does x items (Doing.Optional M) spent.state →
          StagedIn book text store s store T c j g (step_part book text j step x items)
      step_chooses M g k eg h =
          rw eg (record {
            is = λ inner n rest.
                resumes_on book text inner n c j rest (Doing.Optional M) x items 0 spent.state
                (cells_of store spent.state.cells) T refl
                ∙ sym (step_optional book text inner n c j rest step x items
                (row_state s.units (cells_of store s.cells) T) (state_in spent.state store T)
                (spends inner n) M (took _ k));
            held = spent_held h;
          })

      pub step_lists : (after : List ℕ) (comma names : Bool) (M : ℕ) (closing : Option ℕ) (y : ℕ) (g : Stage) →
          t ≡ Taken.List comma names M closing y → StagedFrom book text store spent.state after j g
          (λ inner n c rest s. lists_rows book text inner n c j rest comma names M closing y items s) →
          StagedIn book text store s after T c j g (step_part book text j step x items)
      step_lists after comma names M closing y g k w h =
          let u = w (spent_held h) in
          record {
            is = λ inner n rest.
                u.is inner n c rest T
                ∙ sym (step_list book text inner n c j rest step x items
                (row_state s.units (cells_of store s.cells) T) (state_in spent.state store T)
                (spends inner n) comma names M closing y (took _ k));
            held = u.held;
          }

      pub step_unopens : (after : List ℕ) (y : ℕ) (g : Stage) → t ≡ Taken.Unopened y →
          StagedFrom book text store spent.state after j g
          (λ inner n c rest s. unopened_rows book text inner n c j rest y items s) →
          StagedIn book text store s after T c j g (step_part book text j step x items)
      step_unopens after y g k w h =
          let u = w (spent_held h) in
          record {
            is = λ inner n rest.
                u.is inner n c rest T
                ∙ sym (step_unopened book text inner n c j rest step x items
                (row_state s.units (cells_of store s.cells) T) (state_in spent.state store T)
                (spends inner n) y (took _ k));
            held = u.held;
          }

      -- kind 14 without its opening
      pub step_omits : (after : List ℕ) (M : ℕ) (g : Stage) → t ≡ Taken.Body M →
          StagedFrom book text store spent.state after j g
          (λ inner n c rest s. body_alone_rows book text inner n c j rest M x items s) →
          StagedIn book text store s after T c j g (step_part book text j step x items)
      step_omits after M g k w h =
          let u = w (spent_held h) in
          record {
            is = λ inner n rest.
                u.is inner n c rest T
                ∙ sym (step_body book text inner n c j rest step x items
                (row_state s.units (cells_of store s.cells) T) (state_in spent.state store T)
                (spends inner n) M (took _ k));
            held = u.held;
          }

-- the step that the code has read
pub at_step :
    (book : Book) (text before after : List ℕ) (T : List Row) (c j : ℕ) (s : State) (g : Stage) (x items : ℕ)
    (step other : Step) → step ≡ other →
    StagedIn book text before s after T c j g (step_part book text j step x items) →
    StagedIn book text before s after T c j g (step_part book text j other x items)
at_step book text before after T c j s g x items step other e w = rw (← e) w
