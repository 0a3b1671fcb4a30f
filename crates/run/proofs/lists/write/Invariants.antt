-- `run::write` meets its contract. The invariant: from a cleared list, the first i numbers are the given ones.
use Rattle.std.proofs.Common.{List, [], take, ℕ, ◌≡◌}
use Rattle.semantics.specs.Answer as answers
use Rattle.run.proofs.lists.write.Given as goal

abbrev pub invariant-loop-i : goal.invariant-loop-i
invariant-loop-i l =
    (lent : List ℕ) → l.initial.lent ≡ answers.written l.size [] lent →
    l.lent ≡ answers.written l.size (take l.i l.numbers) lent
