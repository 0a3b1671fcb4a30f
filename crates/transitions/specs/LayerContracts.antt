-- What the contracts of this crate and of parser say of what a function is lent: the book, the text, the store of cells
-- and the table of rows. Each unfolds to a definition of Outcomes or Steps. Scaffolding: no definition of document 01.
--
-- What is asked: Short, Fitting, Ready. What is promised: MakesCell of a cell, Does of a part of the run, Continues of
-- one that goes on from an outcome, BeginsUse and Opens of a use, Begins of a variant, Stages, StagesIn, StagesAll,
-- Reaches and GoesOn of a part that calls nothing, OpensBody and DeclaresName of the names of an opening. Then the
-- parts of the model, from where a path is.
use Rattle.std.specs.Prelude.{Bool, List, ◌∷◌, ℕ, ◌≤◌, length}
use Rattle.std.specs.Prelude.{Option}
use Rattle.characters.specs.Slices.{Slice}
use Rattle.book.specs.Book.{Book, nth_step}
use Rattle.semantics.specs.Numbers.{most_nesting, longest_text}
use Rattle.semantics.specs.Values.{Parse}
use Rattle.semantics.specs.Tokens.{Item}
use Rattle.semantics.specs.Steps.{taking}
use Rattle.semantics.specs.Run as run
use Rattle.semantics.specs.Run.{Result}
use Rattle.run_model.specs.Rows.{Row}
use Rattle.run_model.specs.Model.{RowState, row_state, Outcome, run_identifier_rows, complete_rows}
use Rattle.run_model.specs.Model.{stops_rows, steps_rows}
use Rattle.transitions.specs.Results.{CellOutcome, Entered, Named, Reached, Stage}
use Rattle.transitions.specs.Results as code
use Rattle.transitions.specs.declared.outcomes.State.{State}
use Rattle.transitions.specs.declared.stages.Names.{Names}
use Rattle.transitions.specs.declared.stages.Progress.{Progress}
use Rattle.transitions.specs.declared.stages.Next.{Next}
use Rattle.transitions.specs.Outcomes.{Runs, MadeBy, given}
use Rattle.transitions.specs.Fit.{Fit}
use Rattle.transitions.specs.Entering as entering
use Rattle.transitions.specs.Steps as steps
use Rattle.transitions.specs.Steps.{ModelPart, GoPart, next_rows, first_side_rows, lists_rows, omits_rows}
use Rattle.transitions.specs.Steps.{body_alone_rows, unopened_rows, token_rows}
use Rattle.transitions.specs.Names as opening

-- ---- What is asked
-- "above 4,096 bytes" is a refusal, so that a text's places fit into 32 bits
abbrev pub Short : Slice → Type 0
Short text = length text ≤ longest_text

-- the numbers of the book and of the text fit into 32 bits
abbrev pub Fitting : Book → Slice → Type 0
Fitting book text = Fit book text

-- and the row is one of the table
abbrev pub Ready : Book → Slice → ℕ → Type 0
Ready book text row = (row ≤ most_nesting) × Fitting book text

-- ---- What is promised
-- a part of the model, by the book and the text: from a state, or from what came before it
abbrev pub FromState : Type 0
FromState = Book → List ℕ → RowState → Result Outcome

abbrev pub FromResult : Type 0
FromResult = Book → List ℕ → Result Outcome → Result Outcome

-- a cell is made
abbrev pub MakesCell : Slice → Slice → Slice → State → CellOutcome → (run.State → Result run.Made) → Type 0
MakesCell text store store' s m part = MadeBy text store store' s m part

-- a part of the run, from a state
abbrev pub Does : Book → Slice → Slice → Slice → List Row → List Row → State → code.Outcome → FromState → Type 0
Does book text store store' rows rows' s r part =
    Runs text store s.cells store' rows' r (λ cells. part book text (row_state s.units cells rows))

-- a part of the run, after an outcome
abbrev pub Continues :
    Book → Slice → Slice → Slice → List Row → List Row → code.Outcome → code.Outcome → FromResult → Type 0
Continues book text store store' rows rows' before r part =
    Runs text store before.state.cells store' rows' r (λ cells. part book text (given before cells rows))

-- a use of a nonterminal, up to its runs; and after the unit and the governor
abbrev pub BeginsUse :
    Book → Slice → Slice → Slice → List Row → List Row → ℕ → ℕ → ℕ → ℕ → State → Entered → Type 0
BeginsUse book text store store' rows rows' row binder N u s e =
    entering.BeginsUse book text store store' rows rows' row binder N u s e

abbrev pub Opens :
    Book → Slice → Slice → Slice → List Row → List Row → ℕ → ℕ → ℕ → ℕ → ℕ → State → Entered → Type 0
Opens book text store store' rows rows' row binder N u minimum s e =
    entering.Opens book text store store' rows rows' row binder N u minimum s e

-- a variant of a row's call begins
abbrev pub Begins : Book → Slice → Slice → Slice → List Row → List Row → ℕ → ℕ → State → Reached → Type 0
Begins book text store store' rows rows' row j s r = entering.Begins book text store store' rows rows' row j s r

-- a part that calls nothing, and what the path does next
abbrev pub Stages : Book → Slice → Slice → Slice → Progress → State → Stage → (Book → List ℕ → ModelPart) → Type 0
Stages book text store store' here s g part =
    steps.StagedFrom book text store s store' here.variant g (part book text)

-- the same of a step, which sees the names in the scope of its call
abbrev pub StagesIn : Book → Slice → Slice → Slice → List Row → Progress → State → Stage →
    (Book → List ℕ → ModelPart) → Type 0
StagesIn book text store store' rows here s g part =
    steps.StagedIn book text store s store' rows here.call here.variant g (part book text)

-- the same of a part that reads no book
abbrev pub StagesAll : Slice → Slice → Slice → Progress → State → Stage → (Book → List ℕ → ModelPart) → Type 0
StagesAll text store store' here s g part = (book : Book) → Stages book text store store' here s g part

-- the same where the steps left come next
abbrev pub Reaches : Book → Slice → Slice → Slice → Progress → State → Reached → (Book → List ℕ → ModelPart) → Type 0
Reaches book text store store' here s g part =
    steps.ReachedFrom book text store s store' here.variant g (part book text)

-- the same whatever comes next
abbrev pub GoesOn : Book → Slice → Slice → Slice → Progress → State → Reached → (Book → List ℕ → GoPart) → Type 0
GoesOn book text store store' here s g part = steps.GoneFrom text store s store' g (part book text)

-- the names of an opening stop, and the body's scope opens
abbrev pub OpensBody : Book → Slice → Slice → Slice → List Row → Progress → Names → State → Reached → Type 0
OpensBody book text store store' rows here names s r = opening.OpensFrom book text store store' rows here names s r

-- a name is declared, and row n keeps it
abbrev pub DeclaresName : Book → Slice → Slice → Slice → List Row → List Row → ℕ → Progress → Names → State → Named →
    Type 0
DeclaresName book text store store' rows rows' n here names s r =
    opening.DeclaresFrom book text store store' rows rows' n here names s r

-- ---- Parts of the model
-- a use of mark 2, in row n and with a binder
abbrev pub identifies : ℕ → ℕ → ℕ → ℕ → FromState
identifies n binder N u book text s = run_identifier_rows book text n binder N u s

-- ---- From where a path is
-- the variant's end
abbrev pub completes : Progress → FromState
completes here book text s = complete_rows book text here.call here.variant here.place here.items s

-- the next step
abbrev pub takes : Progress → Book → List ℕ → ModelPart
takes here book text inner n c rest s =
    steps_rows book text inner n c here.variant (taking (nth_step book.steps here.step) ∷ rest) here.place
    here.items s

-- a token was read
abbrev pub reads : Option Item → ℕ → Progress → Book → List ℕ → ModelPart
reads item next here book text inner n c rest s =
    token_rows book text inner n c here.variant rest item next here.items s

-- a list begins at a place
abbrev pub lists : Bool → Bool → ℕ → Option ℕ → ℕ → Progress → Book → List ℕ → ModelPart
lists comma names M closing place here book text inner n c rest s =
    lists_rows book text inner n c here.variant rest comma names M closing place here.items s

-- kind 14 without its opening
abbrev pub stands_alone : ℕ → Progress → Book → List ℕ → ModelPart
stands_alone M here book text inner n c rest s =
    body_alone_rows book text inner n c here.variant rest M here.place here.items s

-- kind 13 without its opening
abbrev pub unopens : ℕ → Progress → Book → List ℕ → ModelPart
unopens place here book text inner n c rest s =
    unopened_rows book text inner n c here.variant rest place here.items s

-- a list stops at a place
abbrev pub stops : ℕ → Option ℕ → ℕ → Progress → Book → List ℕ → GoPart
stops values closing place here book text go s =
    stops_rows book text here.variant values closing go place here.items s

-- an item is absent
abbrev pub omits : Progress → Book → List ℕ → GoPart
omits here book text go s = omits_rows book text here.variant go here.place here.items s

-- the first side of a choice
abbrev pub first_side : Next → Progress → Book → List ℕ → ModelPart
first_side next here book text inner n c rest s =
    first_side_rows book text inner n c here.variant rest next here.place here.items s

-- what follows a parse
abbrev pub follows : Next → Parse ℕ → Progress → Book → List ℕ → ModelPart
follows next q here book text inner n c rest s =
    next_rows book text c here.variant rest next here.items q s (steps_rows book text inner n)
