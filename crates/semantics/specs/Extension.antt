-- Document 02 n, "Adding a variant loses nothing": what an extension of a book is, and what is promised of it.
use Rattle.std.specs.Prelude.{◌≡◌, false, List, ◌++◌, ℕ, ◌+◌, ◌-◌, ◌*◌, length, get_or, take, drop, set}
use Rattle.book.specs.Book.{Entry, Book}
use Rattle.book.specs.Check.{total, check_book, Outcome}
use Rattle.book.specs.Numbers.{nonterminal_size, record_size}
use Rattle.semantics.specs.Numbers.{not_accepted, is_limit}
use Rattle.semantics.specs.Values.{Tree, Parse}
use Rattle.semantics.specs.Answer.{Answered, answer_of}
use Rattle.semantics.specs.Exact.{Lists}

-- ---- Places of a book. Document 01, "The book": "Five sections in order, each after a one-byte count"
-- sections 1 and 2: "reserved 0 or 1, length, bytes"; "kind 0 to 7, length, bytes"
abbrev pub entry_size : Entry → ℕ
entry_size w = 2 + length w.spelling

-- where the count of section 4 stands, and that of section 5
abbrev pub variant_count_at : Book → ℕ
variant_count_at book =
    1 + total entry_size book.words + (1 + total entry_size book.names)
    + (1 + nonterminal_size * length book.nonterminals)

abbrev pub step_count_at : Book → ℕ
step_count_at book = variant_count_at book + 1 + record_size * length book.variants

-- section 3 ends with the last nonterminal's number of variants
abbrev pub last_count_at : Book → ℕ
last_count_at book = variant_count_at book - 1

-- ---- "Book writers append a variant, with its steps, to the last nonterminal"
-- the bytes, with the one at a place so much more
abbrev pub raised : ℕ → ℕ → List ℕ → List ℕ
raised place more bytes = set bytes place (get_or bytes place 0 + more)

-- "steps 0 to 8": the last byte of a variant's record
abbrev pub own_step_count : List ℕ → ℕ
own_step_count variant = get_or variant (record_size - 1) 0

-- one variant more, of the last nonterminal and in section 4, and its steps more in section 5
abbrev pub recounted : Book → List ℕ → List ℕ → List ℕ
recounted book variant bytes =
    raised (last_count_at book) 1
    (raised (variant_count_at book) 1
    (raised (step_count_at book) (own_step_count variant) bytes))

-- the variant's record comes behind the last variant's, its steps' records behind the last step's
abbrev pub appended : Book → List ℕ → List ℕ → List ℕ → List ℕ
appended book variant steps bytes =
    let counted = recounted book variant bytes in
    take (step_count_at book) counted ++ variant ++ drop (step_count_at book) counted ++ steps

-- "every accepted book whose extension is accepted". Then the last nonterminal is "of mark 0 or 1" (`extended_mark` and
-- `extended_binder` of Theorem/Extension/Adding). That there are as many steps as the variant says isn't asked: the
-- theorem needs it not
pub record Extends (bytes extended : List ℕ) : Type 0 where
  pub book : Book
  pub accepted : check_book bytes ≡ Outcome.book book
  pub variant : List ℕ
  pub variant_size : length variant ≡ record_size
  pub steps : List ℕ
  pub is : extended ≡ appended book variant steps bytes
  pub extended_book : Book
  pub accepted_too : check_book extended ≡ Outcome.book extended_book

-- ---- What is promised
-- a call came to its end: it isn't refused before its run, and the run meets no limit
pub record Ended (a : Answered) : Type 0 where
  pub begun : not_accepted a.answer.refusal ≡ false
  pub unlimited : is_limit a.answer.refusal ≡ false

-- "if neither run meets a limit, each parse found before is found afterwards, values taken as trees"
abbrev pub LosesNothing : List ℕ → Answered → Answered → Type 0
LosesNothing text a b = Ended a → Ended b → (p : Parse Tree) → Lists text a p → Lists text b p

-- "For every accepted book whose extension is accepted, every start and every text", whatever the two calls' allowances
-- and lists. The proof stands in Theorem/Extension
abbrev pub AddingLosesNothing : Type 0
AddingLosesNothing =
    (bytes extended text cells parses cells' parses' : List ℕ) (start allowance allowance' : ℕ) →
    Extends bytes extended →
    LosesNothing text (answer_of cells parses bytes text start allowance)
    (answer_of cells' parses' extended text start allowance')
