-- Document 01, "The answer"; document 02 d, 41.
use Rattle.std.specs.Prelude.{Bool, true, cond, ◌&&◌, ◌||◌, List, [], ◌∷◌, ◌++◌, ℕ, suc, ◌-◌, leb, ltb, eqb, length}
use Rattle.std.specs.Prelude.{take, drop, replicate}
use Rattle.std.specs.Prelude.{Option, None, Some}
use Rattle.book.specs.Book.{Book, associativity_number}
use Rattle.book.specs.Check.{check_book, Outcome}
use Rattle.semantics.specs.Numbers.{cells_size, parses_size, most_units, longest_text, first_high_byte}
use Rattle.book.specs.Numbers.{short_lists}
use Rattle.semantics.specs.Numbers.{bad_allowance, unknown_start, long_text, high_byte}
use Rattle.semantics.specs.Numbers.{no_parse, none_whole, different_values}
use Rattle.semantics.specs.Values.{Parse, whole}
use Rattle.semantics.specs.Tokens.{when}
use Rattle.semantics.specs.Cells.{Cell, numbers_of}
use Rattle.semantics.specs.Run.{Result, met, ok, Parsed, run}

-- "refusal (0 if none), place, kind, argument, work, number of parses, value cell"
pub record Answer : Type 0 where
  pub refusal : ℕ
  pub place : ℕ
  pub kind : ℕ
  pub argument : ℕ
  pub work : ℕ
  pub parses : ℕ
  pub value : ℕ

-- the answer, and both lists at exit
pub record Answered : Type 0 where
  pub answer : Answer
  pub cells : List ℕ
  pub parses : List ℕ

abbrev pub answer : ℕ → ℕ → ℕ → ℕ → ℕ → ℕ → ℕ → Answer
answer refusal place kind argument work parses value =
    record {
      refusal = refusal;
      place = place;
      kind = kind;
      argument = argument;
      work = work;
      parses = parses;
      value = value;
    }

-- "cell n at 3n - 3"; "Parses hold rest, level, associativity, cell"
unfoldable pub cell_numbers : List Cell → List ℕ
cell_numbers [] = []
cell_numbers (c ∷ cs) = numbers_of c ++ cell_numbers cs

unfoldable pub parse_numbers : List (Parse ℕ) → List ℕ
parse_numbers [] = []
parse_numbers (p ∷ ps) = p.rest ∷ p.level ∷ associativity_number p.associativity ∷ p.value ∷ parse_numbers ps

-- the first `size` numbers of a lent list are these and zeros; "Numbers beyond those are never touched"
unfoldable pub written : ℕ → List ℕ → List ℕ → List ℕ
written size numbers lent = take size (numbers ++ replicate size 0) ++ drop size lent

-- the values of the whole parses, in order
unfoldable pub whole_values : List ℕ → List (Parse ℕ) → List ℕ
whole_values text [] = []
whole_values text (p ∷ ps) = cond (whole text p) (p.value ∷ whole_values text ps) (whole_values text ps)

unfoldable pub all_are : ℕ → List ℕ → Bool
all_are v [] = true
all_are v (w ∷ ws) = eqb v w && all_are v ws

-- the first byte of 128 or more
unfoldable pub first_high : ℕ → List ℕ → Option ℕ
first_high i [] = None
first_high i (b ∷ bs) = when (leb first_high_byte b) (λ _. Some i) (λ _. first_high (suc i) bs)

module _ (cells parses : List ℕ) where
  -- "1 to 11 (not accepted): work 0, lists untouched"
  abbrev pub untouched : ℕ → ℕ → Answered
  untouched refusal place = record { answer = answer refusal place 0 0 0 0 0; cells = cells; parses = parses }

  -- 41 is "with 21's effects"; "20 to 23 and 30: the first 12,288 numbers of cells and 256 of parses are zero"
  abbrev pub cleared : Answer → Answered
  cleared a = record { answer = a; cells = written cells_size [] cells; parses = written parses_size [] parses }

  -- "31, 32: lists as on success"
  abbrev pub filled : Answer → Parsed → Answered
  filled a r =
      record {
        answer = a;
        cells = written cells_size (cell_numbers r.state.cells) cells;
        parses = written parses_size (parse_numbers r.set) parses;
      }

  -- the end: "parses, none whole", "different whole values", or a value
  unfoldable pub by_values : List ℕ → ℕ → Parsed → Answered
  by_values [] work r = filled (answer none_whole 0 0 0 work (length r.set) 0) r
  by_values (v ∷ vs) work r =
      when (all_are v vs) (λ _. filled (answer 0 0 0 0 work (length r.set) v) r)
      (λ _. filled (answer different_values 0 0 0 work (length r.set) 0) r)

  -- "Work under 20 is the allowance, under 21 to 23 the units so far, otherwise all units of the run", and
  -- under 41 "with 21's effects": what is gone of the allowance
  unfoldable pub at_end : List ℕ → ℕ → Result Parsed → Answered
  at_end text allowance (met number units) = cleared (answer number 0 0 0 (allowance - units) 0 0)
  at_end text allowance (ok r) =
      elim r.failure [
        | Some e ↦ cleared (answer no_parse e.place e.kind e.argument (allowance - r.state.units) 0 0)
        | None ↦ by_values (whole_values text r.set) (allowance - r.state.units) r
      ]

  -- the start, then the text
  unfoldable pub on_book : Book → List ℕ → ℕ → ℕ → Answered
  on_book book text start allowance =
      when (leb (length book.nonterminals) start) (λ _. untouched unknown_start 0)
      (λ _. when (ltb longest_text (length text)) (λ _. untouched long_text longest_text)
      (λ _. elim (first_high 0 text) [
        | Some i ↦ untouched high_byte i
        | None ↦ at_end text allowance (run book text allowance start)
      ]))

  unfoldable pub answer_of : List ℕ → List ℕ → ℕ → ℕ → Answered
  answer_of bytes text start allowance =
      when (ltb (length cells) cells_size || ltb (length parses) parses_size) (λ _. untouched short_lists 0)
      (λ _. when (eqb allowance 0 || ltb most_units allowance) (λ _. untouched bad_allowance 0)
      (λ _. elim (check_book bytes) [
        | Outcome.refusal number place ↦ untouched number place
        | Outcome.book book ↦ on_book book text start allowance
      ]))
