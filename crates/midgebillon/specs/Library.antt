-- What the functions for other languages promise that read and print, in the terms of the call and of the line.
use Rattle.std.specs.Prelude.{◌≡◌, Bool, true, false, cond, ◌&&◌, ◌||◌, List, [], ◌++◌, ℕ, ◌*◌, ◌≤◌, ◌<◌, leb, eqb}
use Rattle.std.specs.Prelude.{length, get_or, set, drop, Ok, Err}
use Rattle.characters.specs.Slices.{Slice}
use Rattle.characters.specs.Classes.{between}
use Rattle.book.specs.Book.{Entry}
use Rattle.book.specs.Check.{check_book, Outcome}
use Rattle.book.specs.Index.{verdict, Verdict}
use Rattle.semantics.specs.Numbers.{cell_size, most_cells, no_parse, different_values, not_accepted, is_limit}
use Rattle.semantics.specs.Answer.{Answer, Answered, answer, answer_of}
use Rattle.run.specs.Promise.{Reads, answer_with}
use Rattle.run.specs.declared.reader.Answer as code
use Rattle.printing.specs.Printing.{line_bytes}

-- ---- The seven numbers
-- "refusal (0 if none), place, kind, argument, work, number of parses, value cell"
abbrev pub answer_size : ℕ
answer_size = 7

-- the answer that the first seven numbers of a list are
abbrev pub answer_at : List ℕ → Answer
answer_at l =
    answer (get_or l 0 0) (get_or l 1 0) (get_or l 2 0) (get_or l 3 0) (get_or l 4 0) (get_or l 5 0) (get_or l 6 0)

-- the list with an answer's numbers at its front
abbrev pub storing : code.Answer → List ℕ → List ℕ
storing a l =
    set (set (set (set (set (set (set l 0 a.refusal) 1 a.place) 2 a.kind) 3 a.argument) 4 a.work)
    5 a.parses) 6 a.value

-- ---- Reading
abbrev pub Stays : Slice → Slice → Type 0
Stays list list' = list' ≡ list

-- Fewer than seven places for the answer: nothing is touched. Else its first seven numbers with both lists are the
-- expected ones, as the call promises it, and the numbers behind stay
pub record AnswersInto (book text : Slice) (start : ℕ) (expected : Answered)
    (cells cells' parses parses' answer answer' : Slice) : Type 0 where
  pub few : length answer < answer_size → Stays cells cells' × Stays parses parses' × Stays answer answer'
  pub reads : answer_size ≤ length answer →
      Reads book text start expected
      (record { answer = answer_at answer'; cells = cells'; parses = parses' })
  pub behind : drop answer_size answer' ≡ drop answer_size answer

-- `midgebillon_read`: what is expected is what the documents say
abbrev pub ReadInto : Slice → Slice → ℕ → ℕ → Slice → Slice → Slice → Slice → Slice → Slice → Type 0
ReadInto book text start allowance cells cells' parses parses' answer answer' =
    AnswersInto book text start
    (answer_of cells parses book text start allowance) cells cells' parses parses' answer answer'

-- `midgebillon_read_in`: the same where the working memory has its sizes, else refusal 1. Where nothing is touched, the
-- working memory isn't, either; in any other call nothing is known of it at exit
pub record ReadIntoWith (book text : Slice) (start allowance : ℕ)
    (cells cells' parses parses' index index' store store' rows rows' answer answer' : Slice) : Type 0 where
  pub answers :
      AnswersInto book text start
      (answer_with index store rows cells parses book text start allowance)
      cells cells' parses parses' answer answer'
  pub few : length answer < answer_size → Stays index index' × Stays store store' × Stays rows rows'

-- ---- Numbers that are an answer
-- a refusal of the table of "The answer", or document 02's further limit
abbrev pub is_refusal : ℕ → Bool
is_refusal n = not_accepted n || (is_limit n || between no_parse different_values n)

-- "from cell 1", and "a 4,097th cell" is refused: a cell that a run can make and the list holds
abbrev pub has_cell : List ℕ → ℕ → Bool
has_cell cells n = between 1 most_cells n && leb (cell_size * n) (length cells)

abbrev pub is_accepted : Verdict → Bool
is_accepted (Ok u) = true
is_accepted (Err e) = false

-- A value's book is accepted, and its cell is there; a refusal is one of the table. More is not asked: whether the
-- numbers are the answer to this book and this text only another call can tell, and the line is defined for any others
abbrev pub is_answer : Verdict → List ℕ → Answer → Bool
is_answer v cells a = cond (eqb a.refusal 0) (is_accepted v && has_cell cells a.value) (is_refusal a.refusal)

-- ---- Printing
-- the names that spell variables: those of an accepted book. The line of a refusal has none
abbrev pub names_of : Outcome → List Entry
names_of (Outcome.book b) = b.names
names_of (Outcome.refusal number place) = []

-- the line, or nothing where the numbers are no answer. No line is empty (`some_line` of LibraryLaws)
abbrev pub line_for : List ℕ → List ℕ → List ℕ → List ℕ → List ℕ
line_for bytes text cells numbers =
    cond (leb answer_size (length numbers) && is_answer (verdict (check_book bytes)) cells (answer_at numbers))
    (line_bytes (names_of (check_book bytes)) text cells (answer_at numbers)) []

-- a line, or nothing where a list has no room for all of it
abbrev pub fitting : List ℕ → List ℕ → List ℕ
fitting line out = cond (leb (length line) (length out)) line []

-- what fits, in front of what the list held
pub record PrintsInto (line out out' : List ℕ) (size : ℕ) : Type 0 where
  pub size_is : size ≡ length (fitting line out)
  pub out_is : out' ≡ fitting line out ++ drop size out
