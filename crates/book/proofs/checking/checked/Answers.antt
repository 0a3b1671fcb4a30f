-- `book::checked` meets its contract: each way out is one law of EndLaws.
use Rattle.std.proofs.Common.{arith}
use Rattle.book.proofs.EndLaws.{checks_sections, checks_passing, checks_over, checks_accepted}
use Rattle.book.proofs.ReaderLaws.{passed_up}
use Rattle.book.proofs.checking.checked.Goals as goal

pub returns-in_err-sections : goal.returns-in_err-sections
returns-in_err-sections c = rw (passed_up c.from_residual.ensures.1)
    (checks_sections _ _ _ _ c.five_sections.ensures c.in_err-sections.was)

pub returns-in_err-all_pass : goal.returns-in_err-all_pass
returns-in_err-all_pass c = rw (passed_up c.from_residual-in_err-all_pass.ensures.1)
    (checks_passing _ _ _ _ c.five_sections.ensures _ c.in_ok-sections.was _ (c.all_pass.ensures _)
    c.in_err-all_pass.was)

pub returns-then-sections-book : goal.returns-then-sections-book
returns-then-sections-book c = checks_over _ _ _ _ c.five_sections.ensures _ c.in_ok-sections.was _
    (c.all_pass.ensures _) c.in_ok-all_pass.was (omega (arith, c.if-sections-book.true))

pub returns : goal.returns
returns c = checks_accepted _ _ _ _ c.five_sections.ensures _ c.in_ok-sections.was _
    (c.all_pass.ensures _) c.in_ok-all_pass.was (omega (arith, c.if-sections-book.false))
