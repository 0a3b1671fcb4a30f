-- What the public functions answer.
use Rattle.std.specs.Prelude.{◌≡◌, cond, List, ◌++◌, ℕ, leb, length, drop, Option, Some, None}
use Rattle.characters.specs.Slices.{Slice}
use Rattle.characters.specs.Spelling.{part_of}
use Rattle.book.specs.Book.{Book}
use Rattle.run.specs.Promise.{answer_in}
use Rattle.printing.specs.Printing.{line_bytes}
use Rattle.run.specs.declared.reader.Answer.{Answer}

-- the line, by the code's parameters
abbrev pub line_in : Book → Slice → Slice → Answer → List ℕ
line_in book text cells a = line_bytes book.names text cells (answer_in a)

-- how long the line is, or none where it is longer than a limit
abbrev pub length_within : ℕ → List ℕ → Option ℕ
length_within limit line = cond (leb (length line) limit) (Some (length line)) None

-- the whole line in front of what the slice held, or nothing
pub record Prints (line out out' : List ℕ) (length_of : Option ℕ) : Type 0 where
  pub length_is : length_of ≡ length_within (length out) line
  pub out_is : out' ≡ cond (leb (length line) (length out)) (line ++ drop (length line) out) out

-- the part of the line from byte number `from` on, as much as there is and the slice holds, in front of what it held
pub record Window (from : ℕ) (line out out' : List ℕ) (size : ℕ) : Type 0 where
  pub size_is : size ≡ length (part_of line from (length out))
  pub out_is : out' ≡ part_of line from (length out) ++ drop size out
