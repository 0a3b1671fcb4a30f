-- Document 01, "Printing": "start 0, allowance 1,000,000". The answer to a book and a text, over lists of zeros.
use Rattle.std.specs.Prelude.{◌≡◌, List, ℕ, replicate}
use Rattle.semantics.specs.Numbers.{cells_size, parses_size, most_units}
use Rattle.semantics.specs.Answer.{Answered, answer_of}
use Rattle.run.specs.Promise.{answer_in}
use Rattle.run.specs.declared.reader.Answer as code

abbrev pub rule_answer : List ℕ → List ℕ → Answered
rule_answer book text = answer_of (replicate cells_size 0) (replicate parses_size 0) book text 0 most_units

abbrev pub Answers : List ℕ → List ℕ → code.Answer → Type 0
Answers book text a = answer_in a ≡ (rule_answer book text).answer
