-- Document 02 n, of two calls of the compiled reader: their answers, and their lists at exit. Nothing is known of a
-- call but what is promised of it. TwoCallLaws proves both statements.
use Rattle.std.specs.Prelude.{◌≡◌, ◌≢◌, List, ℕ, ◌≤◌}
use Rattle.characters.specs.Slices.{Slice}
use Rattle.semantics.specs.Numbers.{most_units, no_unit}
use Rattle.semantics.specs.Answer.{Answered, answer_of}
use Rattle.semantics.specs.Extension.{Extends, LosesNothing}
use Rattle.run.specs.declared.reader.Answer as code
use Rattle.run.specs.Promise.{answered, Reads, Read}

-- what a call was given, the lists as they were at entry; what it gave; and the promise between them
pub record Call : Type 0 where
  pub bytes : List ℕ
  pub text : List ℕ
  pub start : ℕ
  pub allowance : ℕ
  pub cells : List ℕ
  pub parses : List ℕ
  pub gave : Answered
  pub promised : Reads bytes text start (answer_of cells parses bytes text start allowance) gave

-- each call of `read` is one, by its contract
abbrev pub call_of : (book text : Slice) (start allowance : ℕ) (cells cells' parses parses' : Slice)
    (r : code.Answer) →
    Read book text start allowance cells cells' parses parses' r → Call
call_of book text start allowance cells cells' parses parses' r promised =
    record {
      bytes = book;
      text = text;
      start = start;
      allowance = allowance;
      cells = cells;
      parses = parses;
      gave = answered r cells' parses';
      promised = promised;
    }

-- "if neither run meets a limit, each parse found before is found afterwards, values taken as trees"
abbrev pub CallsLoseNothing : Type 0
CallsLoseNothing =
    (c d : Call) → Extends c.bytes d.bytes → d.text ≡ c.text → d.start ≡ c.start →
    LosesNothing c.text c.gave d.gave

-- what two calls were given is the same, but for their allowances
pub record SameInput (c d : Call) : Type 0 where
  pub bytes : d.bytes ≡ c.bytes
  pub text : d.text ≡ c.text
  pub start : d.start ≡ c.start
  pub cells : d.cells ≡ c.cells
  pub parses : d.parses ≡ c.parses

-- "for allowances from 1 to 1,000,000, an answer other than 20 under one is the same answer under each larger one"
abbrev pub CallsSameUnderLarger : Type 0
CallsSameUnderLarger =
    (c d : Call) → SameInput c d → 1 ≤ c.allowance → c.allowance ≤ d.allowance → d.allowance ≤ most_units →
    c.gave.answer.refusal ≢ no_unit → d.gave ≡ c.gave
