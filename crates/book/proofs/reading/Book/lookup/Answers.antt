-- `book::Book::lookup` meets its contract. The invariant: the names below i decide.
use Rattle.std.proofs.Common.{arith, sym, ◌∙◌}
use Rattle.book.proofs.ReadingLaws.{last_none, last_hit, last_on}
use Rattle.book.proofs.reading.Book.lookup.Goals as goal

pub returns-then-same_bytes : goal.returns-then-same_bytes
returns-then-same_bytes c = sym (sym c.loop-i.invariant ∙ last_hit c.args.self.now.names c.args.spelling.now c.loop-i.i
    c.loop-i-test.true (omega (arith, c.loop-i.auto.i, c.names-i.ensures)) _ (omega arith) _
    (rw c.name.ensures at (sym c.same_bytes.ensures ∙ c.if-same_bytes.true)) c.name_kind.ensures)

pub loop-i-preserved : goal.loop-i-preserved
loop-i-preserved c = sym (last_on c.args.self.now.names c.args.spelling.now c.loop-i.i
    c.loop-i-test.true (omega (arith, c.loop-i.auto.i, c.names-i.ensures)) _ (omega arith)
    (rw c.name.ensures at (sym c.same_bytes.ensures ∙ c.if-same_bytes.false))) ∙ c.loop-i.invariant

pub returns : goal.returns
returns c = sym (sym c.loop-i.invariant ∙ last_none c.args.self.now.names c.args.spelling.now c.loop-i.i
    (omega (arith, c.loop-i-test.false)))
