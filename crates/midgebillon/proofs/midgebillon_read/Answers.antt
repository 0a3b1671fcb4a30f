-- `midgebillon::midgebillon_read` meets its contract.
use Rattle.std.proofs.Common.{arith, refl}
use Rattle.midgebillon.proofs.LibraryLaws.{untouched, answers}
use Rattle.midgebillon.proofs.midgebillon_read.Goals as goal

pub returns-then-answer-lt-ANSWER_SIZE : goal.returns-then-answer-lt-ANSWER_SIZE
returns-then-answer-lt-ANSWER_SIZE c = untouched _ _ _ _ _ _ _ _ _ _ (omega arith) refl refl refl

pub returns : goal.returns
returns c = answers _ _ _ _ _ _ _ _ _ _ c.read-a.result (omega arith) c.read-a.ensures c.put_answer.ensures
