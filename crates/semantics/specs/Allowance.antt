-- Document 02 n, "Adding a variant loses nothing", its last sentence: a larger allowance changes no answer but 20. The
-- proof stands in Theorem/Longer.
use Rattle.std.specs.Prelude.{◌≡◌, ◌≢◌, List, ℕ, ◌≤◌}
use Rattle.semantics.specs.Numbers.{most_units, no_unit}
use Rattle.semantics.specs.Answer.{answer_of}

-- "for allowances from 1 to 1,000,000, an answer other than 20 under one is the same answer under each larger one": all
-- seven numbers, work among them, and both lists at exit
abbrev pub SameUnderLarger : Type 0
SameUnderLarger =
    (cells parses bytes text : List ℕ) (start less more : ℕ) → 1 ≤ less → less ≤ more → more ≤ most_units →
    let answered = answer_of cells parses bytes text start in
    (answered less).answer.refusal ≢ no_unit → answered more ≡ answered less
