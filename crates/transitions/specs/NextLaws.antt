-- Laws of what follows a parse and of choices: one for each way through their functions of steps.rt and choices.rt.
--
-- Contents:
-- - what follows a parse: plain_next_lem, list_next_lem, element_limit, element_on, element_last, joined_limit,
--   joined_first,
--   joined_both
-- - choices: spend_stops, spend_goes, side_absent, side_limit, side_stops, first_next, both_limit, both_chosen
use Rattle.std.specs.Prelude.{◌≡◌, false, List, ℕ, zero, suc}
use Rattle.std.proofs.Math.Path.{refl, sym, ap}
use Rattle.std.proofs.Common.{◌∙◌}
use Rattle.std.specs.Prelude.{Option, None}
use Rattle.characters.specs.Skipping.{skip_from}
use Rattle.book.specs.Book.{Book}
use Rattle.semantics.specs.Values.{Parse}
use Rattle.semantics.specs.Steps.{Todo, goes, halts, after_element}
use Rattle.semantics.specs.Errors.{Error, chosen_failure}
use Rattle.semantics.specs.Cells.{Cell}
use Rattle.semantics.specs.Run as run
use Rattle.semantics.specs.Run.{met, ok, ◌>>=◌, either}
use Rattle.run_model.specs.Rows.{Row, row_of}
use Rattle.run_model.specs.Model.{RowState, row_state, outcome, RowRunner, RowMade, row_made, makes, spend_rows}
use Rattle.run_model.specs.Model.{together}
use Rattle.run_model.specs.Model.{plain_next_rows, list_next_rows, stops_rows, choice_rows, steps_rows}
use Rattle.errors.specs.Maps.{failure_of}
use Rattle.tokens.specs.Maps.{after_of}
use Rattle.errors.specs.Maps.{Failure}
use Rattle.tokens.specs.declared.steps.After.{After}
use Rattle.transitions.specs.Results.{CellOutcome, Outcome, Reached, Stage, done_with, without_failure}
use Rattle.transitions.specs.declared.outcomes.State.{State}
use Rattle.transitions.specs.declared.stages.Doing.{Doing}
use Rattle.transitions.specs.declared.stages.List as lists
use Rattle.transitions.specs.declared.stages.Next.{Next}
use Rattle.transitions.specs.Outcomes.{cells_of, Spent, MadeBy, failure_at}
use Rattle.transitions.specs.OutcomeLaws.{given_ok, given_met, failure_done}
use Rattle.transitions.specs.Steps.{next_rows, chooses_rows, does_rows, first_side_rows, ModelPart, StagedFrom}
use Rattle.transitions.specs.Steps.{ReachedFrom, GoneFrom, Chosen}
use Rattle.transitions.specs.Steps.{ParseEnded}
use Rattle.transitions.specs.Steps.{ended_by, reached_with, then_steps}
use Rattle.transitions.specs.ResumeLaws.{state_in, bind_met, bind_ok, unit_met, unit_ok, makes_ok, makes_met}
use Rattle.transitions.specs.ResumeLaws.{resumes_met, resumes_on, made_resumes, gone_reached}
use Rattle.transitions.specs.StopLaws.{stops_part, omits_part}

-- ---- What follows a parse
abbrev next_part : Book → List ℕ → ℕ → Next → ℕ → Parse ℕ → ModelPart
next_part book text j next items q inner n c rest s =
    next_rows book text c j rest next items q s (steps_rows book text inner n)

pub plain_next_lem : (book : Book) (text before after : List ℕ) (j items : ℕ) (next : Next) (q : Parse ℕ) (s : State)
    (m : CellOutcome) (r : Reached) (g : Stage) → next ≡ Next.Steps →
    MadeBy text before after s m (run.with_cell book text j items q.value) → r ≡ reached_with m q.rest →
    g ≡ then_steps r → StagedFrom book text before s after j g (next_part book text j next items q)
unfolding next_rows plain_next_rows does_rows
plain_next_lem book text before after j items next q s m r g en w er eg h =
    let v = w h in
    rw (eg, er, en) (record {
      is = λ inner n c rest T.
          made_resumes book text inner n c j rest Doing.Steps q.rest m.cell after m
          (run.with_cell book text j items q.value) s.units (cells_of before s.cells) v T
          (λ b. steps_rows book text inner n c j rest q.rest b.cell b.state) refl;
      held = v.held;
    })

pub list_next_lem : (book : Book) (text before after : List ℕ) (j items : ℕ) (next : Next) (l : lists.List)
    (q : Parse ℕ)
    (s : State) (g : Stage) → next ≡ Next.Elements l →
    StagedFrom book text before s after j g (next_part book text j (Next.Elements l) items q) →
    StagedFrom book text before s after j g (next_part book text j next items q)
list_next_lem book text before after j items next l q s g en w = rw en w

-- a list whose chain has another element
abbrev longer : lists.List → ℕ → lists.List
longer l values =
    record {
      comma = l.comma;
      names = false;
      nonterminal = l.nonterminal;
      values = values;
      closing = l.closing;
    }

-- an element was added, in the model
module _ (book : Book) (text : List ℕ) (inner : Option RowRunner) (n c j : ℕ) (rest : List (Todo ℕ)) (l : lists.List)
    (items : ℕ) (q : Parse ℕ) (s : RowState) (m : RowMade)
    (e : makes (run.make text (Cell.chain l.values q.value)) s ≡ ok m) where
  element_goes : (y : ℕ) → after_element text l.comma q.rest ≡ goes y →
      next_part book text j (Next.Elements l) items q inner n c rest s
      ≡ choice_rows book text inner n c j l.comma l.nonterminal m.cell (l.closing) rest
      (steps_rows book text inner n c j rest) y items m.state
  unfolding next_rows list_next_rows steps_rows ◌>>=◌
  element_goes y d = rw (e, list_next_rows, ◌>>=◌) (rw d)

  element_halts : (y : ℕ) → after_element text l.comma q.rest ≡ halts y →
      next_part book text j (Next.Elements l) items q inner n c rest s
      ≡ stops_rows book text j m.cell (l.closing)
      (steps_rows book text inner n c j rest) y items m.state
  unfolding next_rows list_next_rows steps_rows ◌>>=◌
  element_halts y d = rw (e, list_next_rows, ◌>>=◌) (rw d)

module _ (book : Book) (text before middle : List ℕ) (j items : ℕ) (l : lists.List) (q : Parse ℕ) (s : State)
    (m : CellOutcome) (w : MadeBy text before middle s m (run.make text (Cell.chain l.values q.value))) where
  pub element_limit : (r : Reached) (g : Stage) → (m.limit ≡ 0 → ⊥) → r ≡ reached_with m 0 → g ≡ then_steps r →
      StagedFrom book text before s middle j g (next_part book text j (Next.Elements l) items q)
  unfolding next_rows list_next_rows
  element_limit r g b er eg h =
      let v = w h in
      rw (eg, er) (record {
        is = λ inner n c rest T.
            resumes_met book text inner n c j rest Doing.Steps 0 m.cell (without_failure m.limit m.state)
            (cells_of middle m.state.cells) T b
            ∙ sym (bind_met _ (makes_met text middle m (run.make text (Cell.chain l.values q.value)) s.units
            (cells_of before s.cells) v T b));
        held = v.held;
      })

  module _ (b : m.limit ≡ 0) (a : After) (ea : after_of a ≡ after_element text l.comma q.rest) where
    pub element_on : (y : ℕ) (o : Outcome) → a ≡ After.Goes y → o ≡ done_with None m.state →
        StagedFrom book text before s middle j
        (record {
          outcome = o;
          place = y;
          items = items;
          doing = Doing.Elements (longer l m.cell);
        })
        (next_part book text j (Next.Elements l) items q)
    unfolding does_rows chooses_rows
    element_on y o k eo h =
        let v = w h in
        rw eo (record {
          is = λ inner n c rest T.
              resumes_on book text inner n c j rest (Doing.Elements (longer l m.cell)) y items 0 m.state
              (cells_of middle m.state.cells) T refl
              ∙ sym (element_goes book text inner n c j rest l items q
              (row_state s.units (cells_of before s.cells) T) (row_made m.cell (state_in m.state middle T))
              (makes_ok text middle m (run.make text (Cell.chain l.values q.value)) s.units
              (cells_of before s.cells) v T b) y (sym ea ∙ ap after_of k));
          held = v.held;
        })

    pub element_last : (after : List ℕ) (y : ℕ) (r : Reached) (g : Stage) → a ≡ After.Halts y →
        GoneFrom text middle m.state after r (stops_part book text j m.cell l.closing y items) →
        g ≡ then_steps r → StagedFrom book text before s after j g (next_part book text j (Next.Elements l) items q)
    element_last after y r g k z eg h =
        let v = w h in
        let u = gone_reached book text middle after j m.state r _ z v.held in
        rw eg (record {
          is = λ inner n c rest T.
              u.is inner n c rest T
              ∙ sym (element_halts book text inner n c j rest l items q
              (row_state s.units (cells_of before s.cells) T) (row_made m.cell (state_in m.state middle T))
              (makes_ok text middle m (run.make text (Cell.chain l.values q.value)) s.units
              (cells_of before s.cells) v T b) y (sym ea ∙ ap after_of k));
          held = u.held;
        })

-- the failures of what follows the parses
pub joined_limit : (i : ℕ) (before o : Outcome) → (o.limit ≡ 0 → ⊥) → ParseEnded i before o o
joined_limit i before o l =
    record {
      is = λ cells T. given_met o cells T l ∙ sym (bind_met _ (given_met o cells T l));
      cells = refl;
    }

pub joined_first : (i : ℕ) (before o : Outcome) → o.limit ≡ 0 → i ≡ 0 → ParseEnded i before o o
unfolding together
joined_first i before o l e =
    rw e (record {
      is = λ cells T. given_ok o cells T l ∙ sym (bind_ok _ (given_ok o cells T l));
      cells = refl;
    })

together_either : (i : ℕ) (a b : Option Error) → (i ≡ 0 → ⊥) → together i a b ≡ either a b
unfolding together
together_either zero a b h = absurd (h refl)
together_either (suc i) a b h = refl

pub joined_both : (i : ℕ) (before o r : Outcome) (a b f : Failure) → o.limit ≡ 0 → (i ≡ 0 → ⊥) → a ≡ failure_at before →
    b ≡ failure_at o → failure_of f ≡ either (failure_of a) (failure_of b) → r ≡ done_with f o.state →
    ParseEnded i before o r
joined_both i before o r a b f l h ea eb e q =
    rw q (record {
      is = λ cells T.
          given_ok (done_with f o.state) cells T refl
          ∙ ap (λ z. ok (outcome z (row_state o.state.units cells T))) (ap failure_of (failure_done f o.state)
          ∙ (rw (ea, eb) at e) ∙ sym (together_either i (failure_of (failure_at before)) (failure_of (failure_at o)) h))
          ∙ sym (bind_ok _ (given_ok o cells T l));
      cells = refl;
    })

-- ---- Choices
abbrev side_part : Book → List ℕ → ℕ → Next → ℕ → ℕ → ModelPart
side_part book text j next at items inner n c rest s = first_side_rows book text inner n c j rest next at items s

pub side_absent : (book : Book) (text before after : List ℕ) (j at items : ℕ) (s : State) (g : Reached) →
    GoneFrom text before s after g (omits_part book text j at items) →
    ReachedFrom book text before s after j g (side_part book text j Next.Steps at items)
unfolding first_side_rows
side_absent book text before after j at items s g w = gone_reached book text before after j s g _ w

module _ (s : State) (spent : Outcome) (p : Spent spent s) (cells : List Cell) (T : List Row) where
  pub spend_stops : (spent.limit ≡ 0 → ⊥) →
      spend_rows (row_state s.units cells T) ≡ met spent.limit spent.state.units
  spend_stops l =
      unit_met (spend_rows (row_state s.units cells T)) spent.limit spent.state.units
      (sym (given_met spent cells T l) ∙ p.is cells T)

  pub spend_goes : spent.limit ≡ 0 →
      spend_rows (row_state s.units cells T) ≡ ok (row_state spent.state.units cells T)
  spend_goes l =
      unit_ok (spend_rows (row_state s.units cells T)) (failure_of (failure_at spent))
      (row_state spent.state.units cells T) (sym (given_ok spent cells T l) ∙ p.is cells T)

module _ (book : Book) (text before : List ℕ) (j at items : ℕ) (l : lists.List) (s : State) (spent : Outcome)
    (p : Spent spent s) where
  pub side_limit : (g : Reached) → (spent.limit ≡ 0 → ⊥) → g ≡ ended_by spent →
      ReachedFrom book text before s before j g (side_part book text j (Next.Elements l) at items)
  unfolding first_side_rows
  side_limit g b e h =
      rw e (record {
        is = λ inner n c rest T.
            resumes_met book text inner n c j rest Doing.Steps 0 0 spent (cells_of before spent.state.cells) T b
            ∙ sym (bind_met _ (spend_stops s spent p (cells_of before s.cells) T b));
        held = rw p.cells h;
      })

  pub side_stops : (after : List ℕ) (g : Reached) → spent.limit ≡ 0 →
      GoneFrom text before spent.state after g (stops_part book text j l.values l.closing at items) →
      ReachedFrom book text before s after j g (side_part book text j (Next.Elements l) at items)
  unfolding first_side_rows
  side_stops after g b k h =
      let u = gone_reached book text before after j spent.state g _ k (rw p.cells h) in
      record {
        is = λ inner n c rest T.
            u.is inner n c rest T
            ∙ ap (λ k. stops_rows book text j l.values (l.closing) (steps_rows book text inner n c j rest)
            at items (row_state spent.state.units k T)) (ap (λ k. cells_of before k) p.cells)
            ∙ sym (bind_ok _ (spend_goes s spent p (cells_of before s.cells) T b));
        held = u.held;
      }

pub first_next :
    (book : Book) (text before after : List ℕ) (j at items : ℕ) (next other : Next) (s : State) (g : Reached) →
    next ≡ other → ReachedFrom book text before s after j g (side_part book text j other at items) →
    ReachedFrom book text before s after j g (side_part book text j next at items)
first_next book text before after j at items next other s g e w = rw e w

-- both sides
pub both_limit : (text : List ℕ) (T : List Row) (c at : ℕ) (a b : Outcome) →
    (b.limit ≡ 0 → ⊥) → Chosen text T c at a b b
both_limit text T c at a b l =
    record {
      is = λ book inner n cells. given_met b cells T l ∙ sym (bind_met _ (given_met b cells T l));
      cells = refl;
    }

pub both_chosen : (text : List ℕ) (T : List Row) (c at N x : ℕ) (a b r : Outcome) (first second f : Failure) →
    b.limit ≡ 0 → N ≡ (row_of T c).nonterminal → x ≡ skip_from text at → first ≡ failure_at a → second ≡ failure_at b →
    failure_of f ≡ chosen_failure x N (failure_of first) (failure_of second) →
    r ≡ done_with f b.state → Chosen text T c at a b r
both_chosen text T c at N x a b r first second f l eN ex ea eb e q =
    rw q (record {
      is = λ book inner n cells.
          given_ok (done_with f b.state) cells T refl
          ∙ ap (λ z. ok (outcome z (row_state b.state.units cells T)))
          (ap failure_of (failure_done f b.state) ∙ (rw (ex, eN) at (rw (ea, eb) at e)))
          ∙ sym (bind_ok _ (given_ok b cells T l));
      cells = refl;
    })
