-- `midgebillon::midgebillon_print` meets its contract.
use Rattle.std.proofs.Common.{arith}
use Rattle.midgebillon.proofs.LibraryLaws.{few_numbers, no_answer, line_printed}
use Rattle.midgebillon.proofs.midgebillon_print.Goals as goal

pub returns-then-answer-lt-ANSWER_SIZE : goal.returns-then-answer-lt-ANSWER_SIZE
returns-then-answer-lt-ANSWER_SIZE c = few_numbers c.args.book.now c.args.text.now c.args.cells.now c.args.answer.now
    c.args.out.now (omega arith)

pub returns-then-not-is_answer : goal.returns-then-not-is_answer
returns-then-not-is_answer c =
    let args = c.args in
    no_answer args.book.now args.text.now args.cells.now args.answer.now args.out.now _ _ _
    c.answer_in-a.result _ (omega arith) c.answer_in-a.ensures
    c.check_into-checked.ensures (omega arith) c.is_answer.ensures c.if-not-is_answer.true

pub returns : goal.returns
returns c =
    let answer-in = c.answer_in-a in
    let printed = rw c.new.ensures at c.print.ensures in
    rw c.unwrap_or.ensures
    (line_printed c.args.book.now c.args.text.now c.args.cells.now c.args.answer.now c.args.out.now _ _ _
    answer-in.result _ (omega (arith, c.if-answer-lt-ANSWER_SIZE.false)) answer-in.ensures
    c.check_into-checked.ensures (omega arith) c.is_answer.ensures _ _ c.if-not-is_answer.false printed)
