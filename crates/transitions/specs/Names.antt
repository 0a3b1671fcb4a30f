-- What the names of an opening do, by the model of the crate run_model, and what the code's parts promise of it.
-- Scaffolding: no definition of document 01.
--
-- The code hands on how many names were read. The names themselves are those of so many rows above the first free one.
use Rattle.std.specs.Prelude.{◌≡◌, Bool, true, false, List, [], ◌∷◌, ◌++◌, ℕ, ◌+◌, ◌-◌, length}
use Rattle.std.specs.Prelude.{Option, None, Some}
use Rattle.characters.specs.Skipping.{skip_from}
use Rattle.book.specs.Book.{Book, Entry}
use Rattle.semantics.specs.Tokens.{declaration_at}
use Rattle.semantics.specs.Steps.{After, goes, halts, after_element, Todo, naming, closing}
use Rattle.semantics.specs.Errors.{declaration_error}
use Rattle.semantics.specs.Cells.{Cell}
use Rattle.semantics.specs.Run.{Result, ok, ◌>>=◌, make, closing_code}
use Rattle.run_model.specs.Rows.{Row, names_above}
use Rattle.run_model.specs.Model.{RowState, row_state, Outcome, outcome, RowRunner, makes, with_declared, opens_rows}
use Rattle.transitions.specs.Results.{Named, Reached, done_with}
use Rattle.transitions.specs.Results as code
use Rattle.transitions.specs.declared.outcomes.State.{State}
use Rattle.transitions.specs.declared.stages.List as list
use Rattle.transitions.specs.declared.stages.Names.{Names}
use Rattle.transitions.specs.declared.stages.Next.{Next}
use Rattle.transitions.specs.declared.stages.Progress.{Progress}
use Rattle.transitions.specs.Outcomes.{cells_of, Held, given}
use Rattle.transitions.specs.Steps.{goes_with, descends_rows}

-- the names read so far, where row n is the first free one
abbrev pub names_at : List ℕ → List Row → ℕ → ℕ → List Entry
names_at text T n count = names_above text T count n

-- a list of names, none of which is read yet
abbrev pub no_names : list.List → Names
no_names l =
    record {
      body = l.nonterminal;
      kinds = l.values;
      count = 0;
      closing = closing_code (l.closing);
    }

-- ---- The body's scope opens
-- whatever the names are: only their number counts
pub record Opened (book : Book) (text store : List ℕ) (T : List Row) (here : Progress) (names : Names) (r : Reached)
    (before : RowState) : Type 0 where
  pub is : (inner : Option RowRunner) (n : ℕ) (rest : List (Todo ℕ)) (l : List Entry) → length l ≡ names.count →
      goes_with (λ s. descends_rows book text inner n here.call here.variant rest (Some l) Next.Steps names.body
      r.place r.items s) (given r.outcome (cells_of store r.outcome.state.cells) T)
      ≡ opens_rows book text inner n here.call here.variant l names.kinds names.closing names.body rest
      here.place here.items before
  pub held : Held text store r.outcome.state.cells

abbrev pub OpensFrom : Book → List ℕ → List ℕ → List ℕ → List Row → Progress → Names → State → Reached → Type 0
OpensFrom book text before after T here names s r =
    Held text before s.cells →
    Opened book text after T here names r (row_state s.units (cells_of before s.cells) T)

-- ---- A name is declared
abbrev pub not_named : code.Outcome → Named
not_named o = record { outcome = o; place = 0; kinds = 0; comma = false }

-- where a list of names is behind one
abbrev pub after_name : Bool → ℕ → After
after_name true y = goes y
after_name false y = halts y

pub record IsNamed (text : List ℕ) (end chain : ℕ) (s : State) (r : Named) : Type 0 where
  pub outcome : r.outcome ≡ done_with None s
  pub kinds : r.kinds ≡ chain
  pub after : after_name r.comma r.place ≡ after_element text true end

-- what is left to do there
abbrev pub behind_name : Bool → List Entry → ℕ → ℕ → ℕ → Todo ℕ
behind_name true names kinds close M = naming names kinds close M
behind_name false names kinds close M = closing names kinds close M

-- the part of `declares_rows` on a level that is there
unfoldable pub declaring_rows : Book → List ℕ → Option RowRunner → ℕ → ℕ → ℕ → List (Todo ℕ) → RowRunner → List Entry →
    ℕ → ℕ → ℕ → ℕ → ℕ → RowState → Result Outcome
declaring_rows book text inner n c j rest run names kinds close M x items s =
    elim (declaration_at book text (skip_from text x)) [
      | None ↦ ok (outcome (Some (declaration_error book text (skip_from text x))) s)
      | Some d ↦
          makes (make text (Cell.number 0 d.value.label)) s >>= (λ k.
          makes (make text (Cell.chain kinds k.cell)) k.state >>= (λ m.
          elim (after_element text true d.end) [
            | goes y ↦
                run c j (naming (names ++ (d.value ∷ [])) m.cell close M ∷ rest) y items
                (with_declared book text inner n (skip_from text x) d m.state)
            | halts y ↦
                run c j (closing (names ++ (d.value ∷ [])) m.cell close M ∷ rest) y items
                (with_declared book text inner n (skip_from text x) d m.state)
          ]))
    ]

-- row n keeps the name, and what is left behind it runs one level further in
pub record Declared (book : Book) (text store : List ℕ) (T U : List Row) (n : ℕ) (here : Progress) (names : Names)
    (r : Named) (before : RowState) : Type 0 where
  pub is : (inner : Option RowRunner) (rest : List (Todo ℕ)) (run : RowRunner) →
      goes_with (λ s. run here.call here.variant
      (behind_name r.comma (names_at text U (n - 1) (names.count + 1)) r.kinds names.closing names.body ∷
      rest) r.place here.items s) (given r.outcome (cells_of store r.outcome.state.cells) U)
      ≡ declaring_rows book text inner n here.call here.variant rest run (names_at text T n names.count)
      names.kinds names.closing names.body here.place here.items before
  pub held : Held text store r.outcome.state.cells

abbrev pub DeclaresFrom :
    Book → List ℕ → List ℕ → List ℕ → List Row → List Row → ℕ → Progress → Names → State → Named → Type 0
DeclaresFrom book text before after T U n here names s r =
    Held text before s.cells →
    Declared book text after T U n here names r (row_state s.units (cells_of before s.cells) T)
