-- The parts of the call, in the code's terms: what each asks and equals. The promise of the call itself stands in
-- Promise. Scaffolding: no definition of document 01.
use Rattle.std.specs.Prelude.{◌≡◌, Bool, cond, ◌||◌, List, [], ◌∷◌, ℕ, ◌≤◌, ltb, eqb, length}
use Rattle.characters.specs.Slices.{Slice}
use Rattle.book.specs.Book.{Book}
use Rattle.book.specs.Check.{check_book}
use Rattle.book.specs.Check as check
use Rattle.book.specs.Index.{index_size}
use Rattle.semantics.specs.Numbers.{cells_size, parses_size, most_units, most_nesting, most_cells, none_whole}
use Rattle.semantics.specs.Numbers.{different_values}
use Rattle.semantics.specs.Values.{Parse, whole}
use Rattle.semantics.specs.Run.{Result, Parsed}
use Rattle.semantics.specs.Run as definition
use Rattle.semantics.specs.Answer.{Answer, Answered, answer, written, parse_numbers}
use Rattle.run_model.proofs.Theorem.{seen}
use Rattle.cells.specs.Store.{store_size}
use Rattle.run_model.specs.Rows.{Row, row_of}
use Rattle.transitions.specs.Results.{Outcome}
use Rattle.transitions.specs.Outcomes.{cells_of, Held, given}
use Rattle.transitions.specs.Fit.{Fit}
use Rattle.run.specs.Promise.{answered}
use Rattle.run.specs.declared.reader.Answer as code
use Rattle.run.specs.declared.whole.Values.{Values}

-- ---- What is refused before the run
-- cells or parses under their size
abbrev pub short : List ℕ → List ℕ → Bool
short cells parses = ltb (length cells) cells_size || ltb (length parses) parses_size

-- "allowance 0 or above 1,000,000"
abbrev pub no_allowance : ℕ → Bool
no_allowance allowance = eqb allowance 0 || ltb most_units allowance

-- ---- Whole parses
-- one value more
unfoldable pub with_value : Values → ℕ → Values
with_value Values.Nothing v = Values.One v
with_value (Values.One first) v = cond (eqb first v) (Values.One first) Values.Different
with_value Values.Different v = Values.Different

-- values in order
unfoldable pub with_values : Values → List ℕ → Values
with_values values [] = values
with_values values (v ∷ vs) = with_values (with_value values v) vs

-- the value of a parse counts if it is whole
abbrev pub with_parse : List ℕ → Values → Parse ℕ → Values
with_parse text values p = cond (whole text p) (with_value values p.value) values

-- 31, 32 or a value
abbrev pub end_answer : Values → ℕ → ℕ → Answer
end_answer Values.Nothing work parses = answer none_whole 0 0 0 work parses 0
end_answer (Values.One v) work parses = answer 0 0 0 0 work parses v
end_answer Values.Different work parses = answer different_values 0 0 0 work parses 0

-- ---- The run
-- what a caller sees of the code's outcome: the parses stand in row 200, the cells in the store
unfoldable pub seen_of : Outcome → List ℕ → List Row → Result Parsed
seen_of o store rows = seen (given o (cells_of store o.state.cells) rows)

-- the code's outcome, with the store and the rows after it, is the definition's run
pub record RunsText (book : Book) (text : List ℕ) (units start : ℕ) (store : List ℕ) (rows : List Row) (o : Outcome) :
    Type 0 where
  pub is : seen_of o store rows ≡ definition.run book text units start
  pub held : Held text store o.state.cells

-- ---- The lists
-- the first `size` numbers of a lent list become these and zeros
abbrev pub Writes : Slice → Slice → ℕ → List ℕ → Type 0
Writes lent lent' size numbers = lent' ≡ written size numbers lent

-- they become the parses that the outermost row found
abbrev pub WritesParses : Slice → Slice → List Row → Type 0
WritesParses parses parses' rows = Writes parses parses' parses_size (parse_numbers (row_of rows most_nesting).set)

-- the answer and both lists at exit, from the lists at entry
abbrev pub Gives : Slice → Slice → Slice → Slice → code.Answer → (List ℕ → List ℕ → Answered) → Type 0
Gives cells cells' parses parses' r expected = answered r cells' parses' ≡ expected cells parses

-- ---- What the parts ask
abbrev pub LongLists : Slice → Slice → Type 0
LongLists cells parses = (cells_size ≤ length cells) × (parses_size ≤ length parses)

-- there are `count` cells
abbrev pub CanFill : Slice → Slice → Slice → ℕ → Type 0
CanFill cells parses store count =
    (cells_size ≤ length cells) × (parses_size ≤ length parses) × (store_size ≤ length store) × (count ≤ most_cells)

-- the run is over
abbrev pub CanEnd : Slice → Slice → Slice → Slice → Outcome → Type 0
CanEnd text cells parses store o =
    (cells_size ≤ length cells) × (parses_size ≤ length parses) × Held text store o.state.cells

-- the run can begin
abbrev pub CanStart : Book → Slice → Slice → Type 0
CanStart book text store = (store_size ≤ length store) × Fit book text

-- the book is accepted: it is that of some bytes
abbrev pub CanRead : Book → Slice → Slice → Slice → Type 0
CanRead book cells parses store =
    (cells_size ≤ length cells) × (parses_size ≤ length parses) × (store_size ≤ length store) ×
    ((bytes : List ℕ) × (check_book bytes ≡ check.Outcome.book book))

-- the working memory beside the rows has its sizes
abbrev pub HasRoom : Slice → Slice → Type 0
HasRoom index store = (index_size ≤ length index) × (store_size ≤ length store)
