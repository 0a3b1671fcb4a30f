-- `book::spelling_byte` meets its contract.
use Rattle.std.proofs.Common.{arith, sym, ◌∙◌}
use Rattle.book.proofs.ReaderLaws.{checked_short, checked_bad, checked_good}
use Rattle.book.proofs.spellings.spelling_byte.Goals as goal

pub returns-then-book-place : goal.returns-then-book-place
returns-then-book-place c = checked_short _ _ _ c.args.book.now c.args.place (omega (arith, c.if-book-place.true))

pub returns-then-not-shaped : goal.returns-then-not-shaped
returns-then-not-shaped c = checked_bad _ _ _ c.args.book.now c.args.place (omega (arith, c.if-book-place.false))
    (rw c.byte_at.ensures at (sym c.shaped.ensures ∙ c.if-not-shaped.true))

pub returns : goal.returns
returns c = checked_good _ _ _ c.args.book.now c.args.place (omega (arith, c.if-book-place.false))
    (rw c.byte_at.ensures at (sym c.shaped.ensures ∙ c.if-not-shaped.false))
