-- `book::spelling` (of spellings) meets its contract.
use Rattle.book.proofs.EntryLaws.{spelling_stop, spelling_read}
use Rattle.book.proofs.ReaderLaws.{read, stopped, handed, no_value, passed_up}
use Rattle.book.proofs.spellings.spelling.Goals as goal

pub returns-in_err-size : goal.returns-in_err-size
returns-in_err-size c =
    let same = passed_up c.from_residual.ensures.1 in (
      handed _ (spelling_stop _ _ (stopped _ _ _ c.field.ensures c.in_err-size.was)) same,
      no_value same 0,
    )

pub returns : goal.returns
returns c = (
  spelling_read _ _ _ _ c.spelling_bytes.result (read _ _ _ c.field.ensures c.in_ok-size.was)
      c.spelling_bytes.ensures.0,
  c.spelling_bytes.ensures.1,
)
