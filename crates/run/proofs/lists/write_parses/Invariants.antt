-- `run::write_parses` meets its contract. The invariant: from a cleared list, the first i parses stand in it.
use Rattle.std.proofs.Common.{List, [], take, ℕ, ◌≡◌}
use Rattle.semantics.specs.Answer.{parse_numbers}
use Rattle.semantics.specs.Answer as answers
use Rattle.run_model.specs.Rows.{row_of}
use Rattle.run.proofs.lists.write_parses.Given as goal

abbrev pub invariant-loop-i : goal.invariant-loop-i
invariant-loop-i l =
    (lent : List ℕ) → l.initial.parses ≡ answers.written 256 [] lent →
    l.parses ≡ answers.written 256 (parse_numbers (take l.i (row_of l.rows 200).set)) lent
