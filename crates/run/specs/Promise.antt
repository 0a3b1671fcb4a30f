-- What a user of the call has to read: the promise of `read` and of `read_in`. It is stated over the definitions of
-- document 01 and of what document 02 changed in it, d and f (`answer_of` of semantics, specs/Answer.antt), and over
-- the derivations (`Exact` of specs/Exact.antt there), and over nothing of how the call works.
use Rattle.std.specs.Prelude.{◌≡◌, Bool, false, cond, ◌||◌, List, ℕ, ltb, length}
use Rattle.characters.specs.Slices.{Slice}
use Rattle.book.specs.Book.{Book}
use Rattle.book.specs.Check.{check_book}
use Rattle.book.specs.Check as check
use Rattle.book.specs.Index.{index_size}
use Rattle.book.specs.Numbers.{short_lists}
use Rattle.semantics.specs.Numbers.{not_accepted, is_limit}
use Rattle.semantics.specs.Answer.{Answer, Answered, answer, untouched, answer_of}
use Rattle.semantics.specs.Exact.{Exact}
use Rattle.cells.specs.Store.{store_size}
use Rattle.calls.specs.Table.{rows_size}
use Rattle.run.specs.declared.reader.Answer as code

-- ---- The answer
-- the code's answer, as document 01 has it
abbrev pub answer_in : code.Answer → Answer
answer_in a = answer a.refusal a.place a.kind a.argument a.work a.parses a.value

-- the same with both lists
abbrev pub answered : code.Answer → List ℕ → List ℕ → Answered
answered a cells parses = record { answer = answer_in a; cells = cells; parses = parses }

-- ---- The promise
-- Of book and text in bytes: an answer and both lists are the expected ones (demands 1 and 2); and demand 3 of that
-- very answer and those very lists: of every call whose book is accepted, that isn't refused before the run (1 to 11),
-- and that meets no limit (20 to 23, 41)
pub record Reads (bytes text : List ℕ) (start : ℕ) (expected a : Answered) : Type 0 where
  pub is : a ≡ expected
  pub exact : (book : Book) → check_book bytes ≡ check.Outcome.book book →
      not_accepted a.answer.refusal ≡ false → is_limit a.answer.refusal ≡ false → Exact book text start a

-- `read`: what is expected is what the documents say
abbrev pub Read : Slice → Slice → ℕ → ℕ → Slice → Slice → Slice → Slice → code.Answer → Type 0
Read book text start allowance cells cells' parses parses' r =
    Reads book text start
    (answer_of cells parses book text start allowance)
    (answered r cells' parses')

-- ---- With working memory that is lent
-- it is under its size: a book's index, the store of cells, the rows of calls
abbrev pub no_room : List ℕ → List ℕ → List ℕ → Bool
no_room index store rows =
    ltb (length index) index_size || (ltb (length store) store_size || ltb (length rows) rows_size)

-- too little of it is refused as too short lists are; else the call is the same
abbrev pub answer_with : List ℕ → List ℕ → List ℕ → List ℕ → List ℕ → List ℕ → List ℕ → ℕ → ℕ → Answered
answer_with index store rows cells parses bytes text start allowance =
    cond (no_room index store rows) (untouched cells parses short_lists 0)
    (answer_of cells parses bytes text start allowance)

-- `read_in`
abbrev pub ReadIn : Slice → Slice → ℕ → ℕ → Slice → Slice → Slice → Slice → Slice → Slice → Slice → code.Answer → Type 0
ReadIn book text start allowance cells cells' parses parses' index store rows r =
    Reads book text start
    (answer_with index store rows cells parses book
    text
    start allowance)
    (answered r cells' parses')
