-- `midgebillon::midgebillon_read_in` meets its contract.
use Rattle.std.proofs.Common.{arith, refl}
use Rattle.midgebillon.proofs.LibraryLaws.{untouched, answers}
use Rattle.midgebillon.proofs.midgebillon_read_in.Goals as goal

pub returns-then-answer-ge-ANSWER_SIZE : goal.returns-then-answer-ge-ANSWER_SIZE
returns-then-answer-ge-ANSWER_SIZE c = record {
  answers = answers _ _ _ _ _ _ _ _ _ _ c.read_in-a.result (omega (arith, c.if-answer-ge-ANSWER_SIZE.true))
      c.read_in-a.ensures
      c.put_answer.ensures;
  few = λ less. absurd (omega (arith, less, c.if-answer-ge-ANSWER_SIZE.true));
}

pub returns-else-answer-ge-ANSWER_SIZE : goal.returns-else-answer-ge-ANSWER_SIZE
returns-else-answer-ge-ANSWER_SIZE c =
    record { answers = untouched _ _ _ _ _ _ _ _ _ _ (omega arith) refl refl refl; few = λ _. (refl, refl, refl) }
