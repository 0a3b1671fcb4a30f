-- What a path through a variant does next, by the model of the crate run_model, and what the code's parts promise of
-- it. Scaffolding: no definition of document 01.
--
-- A part that calls nothing gives how it ended, a place, the items so far and what the path does next. Its promise is
-- that whatever does that next (`resumes`) gives what the model gives for the whole.
use Rattle.std.specs.Prelude.{◌≡◌, Bool, true, false, cond, List, [], map, ℕ, take, drop}
use Rattle.std.specs.Prelude.{Option, None, Some}
use Rattle.characters.specs.Skipping.{skip_from}
use Rattle.book.specs.Book.{Book, Entry}
use Rattle.book.specs.declared.records.Step.{Step}
use Rattle.semantics.specs.Tokens.{Item}
use Rattle.semantics.specs.Steps.{Todo, taking}
use Rattle.semantics.specs.Cells.{Cell}
use Rattle.semantics.specs.Run.{Result, ok, ◌>>=◌, make, with_cell, with_token, closing_code}
use Rattle.run_model.specs.Rows.{Row}
use Rattle.run_model.specs.Model.{RowState, row_state, Outcome, outcome, RowRunner, RowGo, RowNext, makes, spend_rows}
use Rattle.run_model.specs.Model.{together, plain_next_rows, list_next_rows, stops_rows, enter_child_rows}
use Rattle.run_model.specs.Model.{followed_rows}
use Rattle.run_model.specs.Model.{chosen_rows, or_absent_rows, choice_rows, listing_rows, body_rows, name_choice_rows}
use Rattle.run_model.specs.Model.{step_unit_rows, steps_rows}
use Rattle.errors.specs.Maps.{failure_of}
use Rattle.transitions.specs.Results.{CellOutcome, Reached, Stage, without_failure}
use Rattle.transitions.specs.Results as code
use Rattle.transitions.specs.declared.outcomes.State.{State}
use Rattle.transitions.specs.declared.stages.Doing.{Doing}
use Rattle.transitions.specs.declared.stages.Next.{Next}
use Rattle.transitions.specs.Outcomes.{cells_of, Held, given, failure_at}

-- so many steps of a book from one on
abbrev pub todo_from : Book → ℕ → ℕ → List (Todo ℕ)
todo_from book step left = map taking (take left (drop step book.steps))

-- ---- What the code's small functions give
-- a limit or a failure ends the path
abbrev pub ended_by : code.Outcome → Reached
ended_by o = record { outcome = o; place = 0; items = 0 }

-- at a place, with the items that were made; or at a limit
abbrev pub reached_with : CellOutcome → ℕ → Reached
reached_with m place = record { outcome = without_failure m.limit m.state; place = place; items = m.cell }

-- the steps that are left come next
abbrev pub then_steps : Reached → Stage
then_steps r = record { outcome = r.outcome; place = r.place; items = r.items; doing = Doing.Steps }

-- a child comes next, from where a part came to
abbrev pub then_child : Reached → ℕ → Stage
then_child r M = record { outcome = r.outcome; place = r.place; items = r.items; doing = Doing.Child M }

-- something else comes next, from a place and with the items so far
abbrev pub then_does : ℕ → ℕ → Doing → State → Stage
then_does place items doing s = record { outcome = without_failure 0 s; place = place; items = items; doing = doing }

-- ---- What follows a parse
unfoldable pub next_rows : Book → List ℕ → ℕ → ℕ → List (Todo ℕ) → Next → ℕ → RowNext
next_rows book text c j rest Next.Steps items = plain_next_rows book text c j rest items
next_rows book text c j rest (Next.Elements l) items =
    list_next_rows book text c j l.comma l.nonterminal l.values (l.closing) rest items

-- what is done next, if neither a limit nor a failure ended the path
unfoldable pub goes_with : (RowState → Result Outcome) → Result Outcome → Result Outcome
goes_with go z = z >>= (λ o. elim o.failure [ Some e ↦ ok (outcome (Some e) o.state) | None ↦ go o.state ])

-- an item is absent: its cell, then its chain cell
unfoldable pub omits_rows : Book → List ℕ → ℕ → RowGo → RowGo
omits_rows book text j go x items s =
    makes (make text Cell.absent) s >>= (λ absent.
    makes (with_cell book text j items absent.cell) absent.state >>= (λ m. go x m.cell m.state))

-- ---- With n levels of nesting left, in variant j of the call of row c, what is done next before the rest
module _ (book : Book) (text : List ℕ) (inner : Option RowRunner) (n c j : ℕ) (rest : List (Todo ℕ)) where
  -- a child of nonterminal M at a place, behind an opening or behind none, and what follows its parses
  unfoldable pub descends_rows : Option (List Entry) → Next → ℕ → ℕ → ℕ → RowState → Result Outcome
  descends_rows opening next M x items s =
      enter_child_rows book text inner n opening c M x s >>= (λ o.
      followed_rows book text inner n (next_rows book text c j rest next items) o)

  -- an optional child, or the elements of a list
  unfoldable pub chooses_rows : Next → ℕ → ℕ → ℕ → RowState → Result Outcome
  chooses_rows Next.Steps M x items s =
      or_absent_rows book text inner n c j M rest (steps_rows book text inner n c j rest) x items s
  chooses_rows (Next.Elements l) M x items s =
      choice_rows book text inner n c j l.comma M l.values (l.closing) rest
      (steps_rows book text inner n c j rest) x items s

  -- the names of an opening, none of which is read yet
  unfoldable pub names_rows : ℕ → Option ℕ → ℕ → ℕ → ℕ → RowState → Result Outcome
  names_rows kinds closing M x items s =
      name_choice_rows book text inner n c j [] kinds (closing_code closing) M rest x items s

  unfoldable pub does_rows : Doing → ℕ → ℕ → RowState → Result Outcome
  does_rows Doing.Steps x items s = steps_rows book text inner n c j rest x items s
  does_rows (Doing.Child M) x items s = descends_rows None Next.Steps M x items s
  does_rows (Doing.Optional M) x items s = chooses_rows Next.Steps M x items s
  does_rows (Doing.Elements l) x items s =
      cond l.names (names_rows l.values l.closing l.nonterminal x items s)
      (chooses_rows (Next.Elements l) l.nonterminal x items s)

  unfoldable pub resumes : Doing → ℕ → ℕ → Result Outcome → Result Outcome
  resumes doing x items z = goes_with (λ s. does_rows doing x items s) z

  -- the first side of a choice: an optional child is absent, or a list stops
  unfoldable pub first_side_rows : Next → ℕ → ℕ → RowState → Result Outcome
  first_side_rows Next.Steps x items s = omits_rows book text j (steps_rows book text inner n c j rest) x items s
  first_side_rows (Next.Elements l) x items s =
      spend_rows s >>= (λ t.
      stops_rows book text j l.values (l.closing) (steps_rows book text inner n c j rest) x items t)

  -- kind 13 without its opening: the empty list
  unfoldable pub unopened_rows : ℕ → ℕ → RowState → Result Outcome
  unopened_rows x items s =
      makes (make text Cell.empty) s >>= (λ e.
      stops_rows book text j e.cell None (steps_rows book text inner n c j rest) x items e.state)

  -- a list begins, or one of names does
  unfoldable pub lists_rows : Bool → Bool → ℕ → Option ℕ → ℕ → ℕ → RowState → Result Outcome
  lists_rows comma true M closing x items s =
      makes (make text Cell.empty) s >>= (λ e. names_rows e.cell closing M x items e.state)
  lists_rows comma false M closing x items s =
      listing_rows book text inner n c j comma M closing rest (steps_rows book text inner n c j rest) x
      items
      s

  -- kind 14 without its opening: an absent item, then the body
  unfoldable pub body_alone_rows : ℕ → ℕ → ℕ → RowState → Result Outcome
  body_alone_rows M x items s =
      makes (make text Cell.absent) s >>= (λ a. body_rows book text inner n None c j M a.cell rest x items a.state)

  -- a token that ends at a place
  unfoldable pub token_rows : Option Item → ℕ → ℕ → RowState → Result Outcome
  token_rows item next items s =
      makes (with_token book text j items item) s >>= (λ m.
      steps_rows book text inner n c j rest next m.cell m.state)

-- ---- What a part that calls nothing promises
-- a part of the model, whatever runs what is left
abbrev pub ModelPart : Type 0
ModelPart = Option RowRunner → ℕ → ℕ → List (Todo ℕ) → RowState → Result Outcome

pub record Staged (book : Book) (text store : List ℕ) (j : ℕ) (o : code.Outcome) (doing : Doing) (x items units : ℕ)
    (cells : List Cell) (z : ModelPart) : Type 0 where
  pub is : (inner : Option RowRunner) (n c : ℕ) (rest : List (Todo ℕ)) (T : List Row) →
      resumes book text inner n c j rest doing x items (given o (cells_of store o.state.cells) T) ≡
      z inner n c rest (row_state units cells T)
  pub held : Held text store o.state.cells

abbrev pub StagedFrom : Book → List ℕ → List ℕ → State → List ℕ → ℕ → Stage → ModelPart → Type 0
StagedFrom book text before s after j g z =
    Held text before s.cells →
    Staged book text after j g.outcome g.doing g.place g.items s.units (cells_of before s.cells) z

-- a part that looks at the table, in which the path's call has row c
pub record StagedAt (book : Book) (text store : List ℕ) (T : List Row) (c j : ℕ) (o : code.Outcome) (doing : Doing)
    (x items units : ℕ) (cells : List Cell) (z : ModelPart) : Type 0 where
  pub is : (inner : Option RowRunner) (n : ℕ) (rest : List (Todo ℕ)) →
      resumes book text inner n c j rest doing x items (given o (cells_of store o.state.cells) T) ≡
      z inner n c rest (row_state units cells T)
  pub held : Held text store o.state.cells

abbrev pub StagedIn : Book → List ℕ → List ℕ → State → List ℕ → List Row → ℕ → ℕ → Stage → ModelPart → Type 0
StagedIn book text before s after T c j g z =
    Held text before s.cells →
    StagedAt book text after T c j g.outcome g.doing g.place g.items s.units
    (cells_of before s.cells) z

abbrev pub ReachedFrom : Book → List ℕ → List ℕ → State → List ℕ → ℕ → Reached → ModelPart → Type 0
ReachedFrom book text before s after j g z =
    Held text before s.cells →
    Staged book text after j g.outcome Doing.Steps g.place g.items s.units (cells_of before s.cells) z

-- a part that goes on at a place and with the items so far, whatever goes on there
abbrev pub GoPart : Type 0
GoPart = RowGo → RowState → Result Outcome

pub record Gone (text store : List ℕ) (o : code.Outcome) (x items units : ℕ) (cells : List Cell) (z : GoPart) :
    Type 0 where
  pub is : (go : RowGo) (T : List Row) →
      goes_with (λ s. go x items s) (given o (cells_of store o.state.cells) T) ≡ z go (row_state units cells T)
  pub held : Held text store o.state.cells

abbrev pub GoneFrom : List ℕ → List ℕ → State → List ℕ → Reached → GoPart → Type 0
GoneFrom text before s after g z =
    Held text before s.cells →
    Gone text after g.outcome g.place g.items s.units (cells_of before s.cells) z

-- a step's unit was spent, if it has one
pub record StepSpent (r : code.Outcome) (step : Step) (s : State) : Type 0 where
  pub is : (book : Book) (text : List ℕ) (inner : Option RowRunner) (n : ℕ) (cells : List Cell) (T : List Row) →
      given r cells T ≡
      (step_unit_rows book text inner n step (row_state s.units cells T) >>= (λ t. ok (outcome None t)))
  pub cells : r.state.cells ≡ s.cells

-- both sides of a choice at a place
pub record Chosen (text : List ℕ) (T : List Row) (c x : ℕ) (a b r : code.Outcome) : Type 0 where
  pub is : (book : Book) (inner : Option RowRunner) (n : ℕ) (cells : List Cell) →
      given r cells T ≡ (given b cells T >>= (λ y.
      ok (chosen_rows book text inner n c (skip_from text x) (failure_of (failure_at a)) y)))
  pub cells : r.state.cells ≡ b.state.cells

-- what follows the i-th parse, after those before it
pub record ParseEnded (i : ℕ) (before o r : code.Outcome) : Type 0 where
  pub is : (cells : List Cell) (T : List Row) →
      given r cells T ≡ (given o cells T >>= (λ y. ok (outcome (together i (failure_of (failure_at before))
      y.failure) y.state)))
  pub cells : r.state.cells ≡ o.state.cells
