-- Laws for the path through a variant: choices, what it does next, its steps. One for each return, over the code's own
-- values.
--
-- Contents:
-- - choices: choice_stopped, choice_both
-- - what a path does next
-- - steps: rank_few, rank_child, rank_optional, rank_elements, path_ended, path_child, path_optional, path_elements,
--   path_names, path_end, path_step
use Rattle.std.specs.Prelude.{◌≡◌, refl, true, false, List, ◌∷◌, ℕ, zero, suc, ◌+◌, ◌-◌, ◌≤◌, length}
use Rattle.std.proofs.Math.Path.{sym, ap, subst}
use Rattle.std.proofs.Common.{◌∙◌, arith, sub-one, drop-cons}
use Rattle.std.proofs.Math.Bool.{cond}
use Rattle.std.specs.Prelude.{Option, None}
use Rattle.characters.specs.Skipping.{skip_from}
use Rattle.book.specs.Book.{Book, nth_step}
use Rattle.book.specs.declared.records.Step.{Step}
use Rattle.semantics.specs.Steps.{Todo, taking}
use Rattle.semantics.specs.Cells.{Cell}
use Rattle.semantics.specs.Run.{Result, ok, ◌>>=◌, make, with_cell, closing_code}
use Rattle.run_model.specs.Rows.{Row, names_above}
use Rattle.run_model.specs.Model as model
use Rattle.run_model.specs.Model.{RowState, row_state, outcome, RowRunner, makes, spend_rows, stops_rows}
use Rattle.run_model.specs.Model.{complete_rows, steps_rows, enter_child_rows, followed_rows, or_child, or_absent_rows}
use Rattle.run_model.specs.Model.{choice_rows, chosen_rows, name_choice_rows}
use Rattle.errors.specs.Maps.{failure_of}
use Rattle.transitions.specs.Results.{Outcome, Reached, Stage}
use Rattle.transitions.specs.declared.outcomes.State.{State}
use Rattle.transitions.specs.declared.stages.Doing.{Doing}
use Rattle.transitions.specs.declared.stages.List as list
use Rattle.transitions.specs.declared.stages.Names.{Names}
use Rattle.transitions.specs.declared.stages.Next.{Next}
use Rattle.transitions.specs.Outcomes.{cells_of, Held, given, goes_on, Ran, Runs, failure_at}
use Rattle.transitions.specs.Steps.{todo_from, next_rows, omits_rows, descends_rows, chooses_rows, names_rows}
use Rattle.transitions.specs.Steps.{does_rows}
use Rattle.transitions.specs.Steps.{resumes, first_side_rows, StagedIn, ReachedFrom, Chosen}
use Rattle.transitions.specs.Names.{names_at, no_names}
use Rattle.parser.specs.Cycle.{both_sides_rows, rank_of}
use Rattle.transitions.specs.ResumeLaws.{limit_ends, goes_nowhere, goes_there}
use Rattle.parser.specs.ResultLaws.{Going, bind_assoc, bind_assoc_in, goes_to}

-- ---- Choices
sides_optional : (book : Book) (text : List ℕ) (inner : Option RowRunner) (n c j : ℕ) (rest : List (Todo ℕ))
    (M x items : ℕ) (s : RowState) →
    both_sides_rows book text inner n c j rest Next.Steps M x items s
    ≡ chooses_rows book text inner n c j rest Next.Steps M x items s
unfolding both_sides_rows chooses_rows first_side_rows omits_rows next_rows or_absent_rows
sides_optional book text inner n c j rest M x items s =
    bind_assoc_in (makes (make text Cell.absent) s)
    (λ absent. makes (with_cell book text j items absent.cell) absent.state)
    (λ m. steps_rows book text inner n c j rest x m.cell m.state)
    (λ a. or_child book text inner n c M (next_rows book text c j rest Next.Steps items) x a)

sides_elements : (book : Book) (text : List ℕ) (inner : Option RowRunner) (n c j : ℕ) (rest : List (Todo ℕ))
    (l : list.List) (x items : ℕ) (s : RowState) →
    both_sides_rows book text inner n c j rest (Next.Elements l) l.nonterminal x items s ≡
    chooses_rows book text inner n c j rest (Next.Elements l) l.nonterminal x items s
unfolding both_sides_rows chooses_rows first_side_rows next_rows choice_rows
sides_elements book text inner n c j rest l x items s =
    bind_assoc (spend_rows s)
    (λ t. stops_rows book text j l.values (l.closing) (steps_rows book text inner n c j rest) x items t)
    (λ a. or_child book text inner n c l.nonterminal (next_rows book text c j rest (Next.Elements l) items) x a)

module _ (book : Book) (text : List ℕ) (inner : Option RowRunner) (n c j : ℕ) (rest : List (Todo ℕ)) (next : Next)
    (M x items : ℕ) (s : State) (st0 st1 st2 : List ℕ) (T U : List Row) (f : Reached) (a : Outcome)
    (F : ReachedFrom book text st0 s st1 j f
    (λ inner n c rest s. first_side_rows book text inner n c j rest next x items s))
    (G : Runs text st1 f.outcome.state.cells st2 U a (λ cells.
    resumes book text inner n c j rest Doing.Steps f.place f.items (given f.outcome cells T))) where
  first_side_lem : Held text st0 s.cells →
      (given a (cells_of st2 a.state.cells) U
      >>= (λ y. or_child book text inner n c M (next_rows book text c j rest next items) x y))
      ≡ both_sides_rows book text inner n c j rest next M x items (row_state s.units (cells_of st0 s.cells) T)
  unfolding both_sides_rows
  first_side_lem held =
      let d = F held in
      ap (λ (z : Result model.Outcome).
      z >>= (λ y. or_child book text inner n c M (next_rows book text c j rest next items) x y))
      ((G d.held).is ∙ d.is inner n c rest T)

  pub choice_stopped : (a.limit ≡ 0 → ⊥) →
      Runs text st0 s.cells st2 U a
      (λ cells. both_sides_rows book text inner n c j rest next M x items (row_state s.units cells T))
  choice_stopped h held =
      record {
        is = limit_ends a (cells_of st2 a.state.cells) U _ h ∙ first_side_lem held;
        held = (G (F held).held).held;
      }

  module _ (h : a.limit ≡ 0) (st3 : List ℕ) (U1 : List Row) (b r : Outcome)
      (D : Runs text st2 a.state.cells st3 U1 b
      (λ cells. descends_rows book text inner n c j rest None next M x items (row_state a.state.units cells U)))
      (C : Chosen text U1 c x a b r) where
    pub choice_both : Runs text st0 s.cells st3 U1 r
        (λ cells. both_sides_rows book text inner n c j rest next M x items (row_state s.units cells T))
    unfolding descends_rows or_child
    choice_both held =
        let g = G (F held).held in
        let d = D g.held in
        let y : model.Outcome =
        outcome (failure_of (failure_at a)) (row_state a.state.units (cells_of st2 a.state.cells) U) in
        record {
          is =
              ap (λ k. given r (cells_of st3 k) U1) C.cells
              ∙ C.is book inner n (cells_of st3 b.state.cells)
              ∙ ap (λ (z : Result model.Outcome).
              z >>= (λ o. ok (chosen_rows book text inner n c (skip_from text x) (failure_of (failure_at a)) o))) d.is
              ∙ bind_assoc (enter_child_rows book text inner n None c M x
              (row_state a.state.units (cells_of st2 a.state.cells) U))
              (λ o. followed_rows book text inner n (next_rows book text c j rest next items) o)
              (λ o. ok (chosen_rows book text inner n c (skip_from text x) (failure_of (failure_at a)) o))
              ∙ sym (goes_to a (cells_of st2 a.state.cells) U
              (λ y. or_child book text inner n c M (next_rows book text c j rest next items) x y) h)
              ∙ first_side_lem held;
          held = subst (λ k. Held text st3 k) (sym C.cells) d.held;
        }

-- ---- What a path does next
module _ (book : Book) (text : List ℕ) (inner : Option RowRunner) (n c j : ℕ) (rest : List (Todo ℕ)) (doing : Doing)
    (at items : ℕ) (o : Outcome) (st0 : List ℕ) (T : List Row) where
  pub resume_ended : goes_on o ≡ false →
      Runs text st0 o.state.cells st0 T o
      (λ cells. resumes book text inner n c j rest doing at items (given o cells T))
  unfolding resumes
  resume_ended h held =
      record { is = sym (goes_nowhere _ o (cells_of st0 o.state.cells) T h); held = held }

  resume_does : (st1 : List ℕ) (U : List Row) (r : Outcome) → goes_on o ≡ true →
      Runs text st0 o.state.cells st1 U r
      (λ cells. does_rows book text inner n c j rest doing at items (row_state o.state.units cells T)) →
      Runs text st0 o.state.cells st1 U r
      (λ cells. resumes book text inner n c j rest doing at items (given o cells T))
  unfolding resumes
  resume_does st1 U r h k held =
      let q = k held in
      record { is = q.is ∙ sym (goes_there _ o (cells_of st0 o.state.cells) T h); held = q.held }

-- each of them
module _ (book : Book) (text : List ℕ) (inner : Option RowRunner) (n c j : ℕ) (rest : List (Todo ℕ)) (doing : Doing)
    (at items : ℕ) (o : Outcome)
    (st0 : List ℕ) (T : List Row) (st1 : List ℕ) (U : List Row) (r : Outcome) (h : goes_on o ≡ true) where
  by_part : (z : RowState → Result model.Outcome) →
      ((s : RowState) → z s ≡ does_rows book text inner n c j rest doing at items s) →
      Runs text st0 o.state.cells st1 U r (λ cells. z (row_state o.state.units cells T)) →
      Runs text st0 o.state.cells st1 U r
      (λ cells. resumes book text inner n c j rest doing at items (given o cells T))
  by_part z e k =
      resume_does book text inner n c j rest doing at items o st0 T st1 U r h (λ held.
      let q = k held in
      record { is = q.is ∙ e (row_state o.state.units (cells_of st0 o.state.cells) T); held = q.held })

  resume_steps : doing ≡ Doing.Steps →
      Runs text st0 o.state.cells st1 U r
      (λ cells. steps_rows book text inner n c j rest at items (row_state o.state.units cells T)) →
      Runs text st0 o.state.cells st1 U r
      (λ cells. resumes book text inner n c j rest doing at items (given o cells T))
  unfolding does_rows
  resume_steps e k = by_part (λ s. steps_rows book text inner n c j rest at items s) (λ s. rw e) k

  resume_child : (M : ℕ) → doing ≡ Doing.Child M →
      Runs text st0 o.state.cells st1 U r
      (λ cells.
      descends_rows book text inner n c j rest None Next.Steps M at items (row_state o.state.units cells T)) →
      Runs text st0 o.state.cells st1 U r
      (λ cells. resumes book text inner n c j rest doing at items (given o cells T))
  unfolding does_rows
  resume_child M e k = by_part (λ s. descends_rows book text inner n c j rest None Next.Steps M at items s) (λ s. rw e)
      k

  resume_optional : (M : ℕ) → doing ≡ Doing.Optional M →
      Runs text st0 o.state.cells st1 U r
      (λ cells. both_sides_rows book text inner n c j rest Next.Steps M at items (row_state o.state.units cells T)) →
      Runs text st0 o.state.cells st1 U r
      (λ cells. resumes book text inner n c j rest doing at items (given o cells T))
  unfolding does_rows
  resume_optional M e k =
      by_part (λ s. both_sides_rows book text inner n c j rest Next.Steps M at items s)
      (λ s. rw e (sides_optional book text inner n c j rest M at items s)) k

  resume_elements : (l : list.List) → doing ≡ Doing.Elements l → l.names ≡ false →
      Runs text st0 o.state.cells st1 U r (λ cells.
      both_sides_rows book text inner n c j rest (Next.Elements l) l.nonterminal at items
      (row_state o.state.units cells T)) →
      Runs text st0 o.state.cells st1 U r
      (λ cells. resumes book text inner n c j rest doing at items (given o cells T))
  unfolding does_rows
  resume_elements l e other k =
      by_part (λ s. both_sides_rows book text inner n c j rest (Next.Elements l) l.nonterminal at items s)
      (λ s. sides_elements book text inner n c j rest l at items s
      ∙ sym (ap (λ b. cond b (names_rows book text inner n c j rest l.values l.closing l.nonterminal at items s)
      (chooses_rows book text inner n c j rest (Next.Elements l) l.nonterminal at items s)) other)
      ∙ ap (λ d. does_rows book text inner n c j rest d at items s) (sym e)) k

  -- no name is read yet
  resume_names : (l : list.List) → doing ≡ Doing.Elements l → l.names ≡ true →
      Runs text st0 o.state.cells st1 U r (λ cells.
      name_choice_rows book text inner n c j (names_at text T n 0) l.values (closing_code (l.closing))
      l.nonterminal rest at items (row_state o.state.units cells T)) →
      Runs text st0 o.state.cells st1 U r
      (λ cells. resumes book text inner n c j rest doing at items (given o cells T))
  unfolding does_rows names_rows names_above
  resume_names l e are k =
      by_part (λ s. names_rows book text inner n c j rest l.values l.closing l.nonterminal at items s)
      (λ s. sym (ap (λ b. cond b
      (names_rows book text inner n c j rest l.values l.closing l.nonterminal at items s)
      (chooses_rows book text inner n c j rest (Next.Elements l) l.nonterminal at items s)) are)
      ∙ ap (λ d. does_rows book text inner n c j rest d at items s) (sym e)) k

-- ---- Steps
-- one of the steps that are left
todo_step : (book : Book) (step left : ℕ) → (left ≡ 0 → ⊥) → step + left ≤ length book.steps →
    todo_from book step left ≡ taking (nth_step book.steps step) ∷ todo_from book (step + 1) (left - 1)
todo_step book step zero h l = absurd (h refl)
todo_step book step (suc left) h l =
    let e : step + 1 ≡ suc step = omega arith in
    rw (drop-cons book.steps step (Step.Character 0) (omega (arith, l)), e, sub-one)

pub rank_few : (doing : Doing) → rank_of doing ≤ 4
rank_few Doing.Steps = omega arith
rank_few (Doing.Child M) = omega arith
rank_few (Doing.Optional M) = omega arith
rank_few (Doing.Elements l) = omega arith

pub rank_child : (doing : Doing) (M : ℕ) → doing ≡ Doing.Child M → rank_of doing ≡ 4
rank_child doing M e = rw e

pub rank_optional : (doing : Doing) (M : ℕ) → doing ≡ Doing.Optional M → rank_of doing ≡ 4
rank_optional doing M e = rw e

pub rank_elements : (doing : Doing) (l : list.List) → doing ≡ Doing.Elements l → rank_of doing ≡ 4
rank_elements doing l e = rw e

-- the path has come so far: what is left of it from here is what was left of it at first
module _ (book : Book) (text : List ℕ) (inner : Option RowRunner) (n c j step left : ℕ) (doing : Doing) (at items : ℕ)
    (o : Outcome) (st0 : List ℕ) (c0 : ℕ) (z : Result model.Outcome) (st : List ℕ) (T : List Row)
    (inv : Held text st0 c0 → Going text st o.state.cells
    (resumes book text inner n c j (todo_from book step left) doing at items (given o (cells_of st o.state.cells) T))
    z) where
  then_whole : (st1 : List ℕ) (U : List Row) (r : Outcome) →
      Runs text st o.state.cells st1 U r
      (λ cells. resumes book text inner n c j (todo_from book step left) doing at items (given o cells T)) →
      Held text st0 c0 → Ran text st1 U r z
  then_whole st1 U r k held =
      let g = inv held in
      let q = k g.held in
      record { is = q.is ∙ g.is; held = q.held }

  pub path_ended : goes_on o ≡ false → Held text st0 c0 → Ran text st T o z
  path_ended h =
      then_whole st T o (resume_ended book text inner n c j (todo_from book step left) doing at items o st T h)

  module _ (h : goes_on o ≡ true) where
    pub path_child : (st1 : List ℕ) (U : List Row) (r : Outcome) (M : ℕ) → doing ≡ Doing.Child M →
        Runs text st o.state.cells st1 U r (λ cells.
        descends_rows book text inner n c j (todo_from book step left) None Next.Steps M at items
        (row_state o.state.units cells T)) → Held text st0 c0 → Ran text st1 U r z
    path_child st1 U r M e k =
        then_whole st1 U r
        (resume_child book text inner n c j (todo_from book step left) doing at items o st T st1 U r h M e k)

    pub path_optional : (st1 : List ℕ) (U : List Row) (r : Outcome) (M : ℕ) → doing ≡ Doing.Optional M →
        Runs text st o.state.cells st1 U r (λ cells.
        both_sides_rows book text inner n c j (todo_from book step left) Next.Steps M at items
        (row_state o.state.units cells T)) → Held text st0 c0 → Ran text st1 U r z
    path_optional st1 U r M e k =
        then_whole st1 U r
        (resume_optional book text inner n c j (todo_from book step left) doing at items o st T st1 U r h M e k)

    pub path_elements : (st1 : List ℕ) (U : List Row) (r : Outcome) (l : list.List) → doing ≡ Doing.Elements l →
        l.names ≡ false → Runs text st o.state.cells st1 U r (λ cells.
        both_sides_rows book text inner n c j (todo_from book step left) (Next.Elements l) l.nonterminal at items
        (row_state o.state.units cells T)) → Held text st0 c0 → Ran text st1 U r z
    path_elements st1 U r l e other k =
        then_whole st1 U r
        (resume_elements book text inner n c j (todo_from book step left) doing at items o st T st1 U r h l e other k)

    pub path_names : (st1 : List ℕ) (U : List Row) (r : Outcome) (l : list.List) (names : Names) →
        doing ≡ Doing.Elements l → l.names ≡ true → names ≡ no_names l →
        Runs text st o.state.cells st1 U r (λ cells.
        name_choice_rows book text inner n c j (names_at text T n names.count) names.kinds names.closing
        names.body (todo_from book step left) at items (row_state o.state.units cells T)) →
        Held text st0 c0 → Ran text st1 U r z
    path_names st1 U r l names e are en k =
        then_whole st1 U r
        (resume_names book text inner n c j (todo_from book step left) doing at items o st T st1 U r h l e are
        (rw en at k))

    module _ (e : doing ≡ Doing.Steps) where
      pub path_end : (st1 : List ℕ) (U : List Row) (r : Outcome) → left ≡ 0 →
          Runs text st o.state.cells st1 U r
          (λ cells. complete_rows book text c j at items (row_state o.state.units cells T)) →
          Held text st0 c0 → Ran text st1 U r z
      unfolding steps_rows
      path_end st1 U r l k =
          then_whole st1 U r
          (resume_steps book text inner n c j (todo_from book step left) doing at items o st T st1 U r h e (λ held.
          let q = k held in
          record { is = q.is ∙ rw l; held = q.held }))

      resumes_steps : (cells : List Cell) →
          resumes book text inner n c j (todo_from book step left) doing at items (given o cells T) ≡
          steps_rows book text inner n c j (todo_from book step left) at items (row_state o.state.units cells T)
      unfolding resumes does_rows
      resumes_steps cells = goes_there _ o cells T h ∙ rw e

      pub path_step : (st1 : List ℕ) (g : Stage) → (left ≡ 0 → ⊥) → step + left ≤ length book.steps →
          StagedIn book text st o.state st1 T c j g (λ inner n c rest s.
          steps_rows book text inner n c j (taking (nth_step book.steps step) ∷ rest) at items s) →
          Held text st0 c0 → Going text st1 g.outcome.state.cells
          (resumes book text inner n c j (todo_from book (step + 1) (left - 1)) g.doing g.place g.items
          (given g.outcome (cells_of st1 g.outcome.state.cells) T)) z
      path_step st1 g l k S held =
          let v = inv held in
          let d = S v.held in
          record {
            is =
                d.is inner n (todo_from book (step + 1) (left - 1))
                ∙ ap (λ (todo : List (Todo ℕ)). steps_rows book text inner n c j todo at items
                (row_state o.state.units (cells_of st o.state.cells) T)) (sym (todo_step book step left l k))
                ∙ sym (resumes_steps (cells_of st o.state.cells))
                ∙ v.is;
            held = d.held;
          }
