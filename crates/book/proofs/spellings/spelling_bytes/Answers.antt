-- `book::spelling_bytes` meets its contract. The invariant (`Begun` of EntryLaws): the bytes read and those from here
-- make the whole spelling.
use Rattle.std.proofs.Common.{refl}
use Rattle.book.proofs.EntryLaws.{begun_first, begun_on, begun_stop, begun_last}
use Rattle.book.proofs.ReaderLaws.{read, stopped, handed, no_value, passed_up}
use Rattle.book.proofs.spellings.spelling_bytes.Goals as goal

pub loop-i-init : goal.loop-i-init
loop-i-init c = begun_first _ _ _ _

pub returns-in_err-next : goal.returns-in_err-next
returns-in_err-next c =
    let same = passed_up c.from_residual.ensures.1 in (
      handed _
          (begun_stop _ _ _ _ _ _ c.loop-i-test.true c.loop-i.invariant
          (stopped _ _ _ c.spelling_byte.ensures c.in_err-next.was)) same,
      no_value same 0,
    )

pub loop-i-preserved : goal.loop-i-preserved
loop-i-preserved c = begun_on _ _ _ _ _ _ c.loop-i-test.true c.loop-i.invariant
    (read _ _ _ c.spelling_byte.ensures c.in_ok-next.was)

pub returns : goal.returns
returns c = (begun_last _ _ _ _ _ _ c.loop-i.auto.i-end c.loop-i-test.false c.loop-i.invariant, refl)
