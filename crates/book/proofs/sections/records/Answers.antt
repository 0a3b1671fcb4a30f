-- `book::records` meets its contract. The invariant (`Begun` of SectionLaws): what has been read and what is read
-- from here make all of them.
use Rattle.std.proofs.Common.{arith, refl, ◌∙◌}
use Rattle.book.proofs.ReaderLaws.{small_of, passed_up}
use Rattle.book.proofs.SectionLaws.{begun_first, begun_on, begun_stop, begun_last, stored_by}
use Rattle.book.proofs.sections.records.Goals as goal

pub loop-i-init : goal.loop-i-init
loop-i-init c = (refl, omega arith, begun_first _ _ _ _ _ _)

pub returns-in_err-record : goal.returns-in_err-record
returns-in_err-record c = let loop = c.loop-i in
    rw (passed_up c.from_residual.ensures.1, ← c.in_err-record.was)
    (begun_stop _ _ _ _ _ _ _ _ _ _ _ c.loop-i-test.true loop.invariant.2
    (stored_by _ _ _ _ _ _ (omega (arith, c.requires.0, c.loop-i-test.true, loop.invariant.0)) c.put.ensures
    c.put-in-loop-i.ensures)
    c.requires.2 _ c.one_record.ensures c.in_err-record.was)

pub loop-i-preserved : goal.loop-i-preserved
loop-i-preserved c = let loop = c.loop-i in (
  c.put-in-loop-i.auto.index ∙ c.put.auto.index ∙ loop.invariant.0,
  omega (arith, loop.invariant.1, small_of c.in_ok-record.was c.one_record.ensures.small),
  begun_on _ _ _ _ _ _ _ _ _ _ _ c.loop-i-test.true loop.invariant.2
      (stored_by _ _ _ _ _ _ (omega (arith, c.requires.0, c.loop-i-test.true, loop.invariant.0)) c.put.ensures
      c.put-in-loop-i.ensures)
      c.requires.2 _ c.one_record.ensures c.in_ok-record.was,
)

pub returns : goal.returns
returns c = begun_last _ _ _ _ _ _ _ _ _ _ c.loop-i.auto.i-end c.loop-i-test.false c.loop-i.invariant.2
