-- `book::entry` meets its contract.
use Rattle.book.proofs.EntryLaws.{entry_stop, entry_read}
use Rattle.book.proofs.ReaderLaws.{read, stopped, passed_up}
use Rattle.book.proofs.RecordLaws.{one_refused}
use Rattle.book.specs.declared.sections.Sort.{Sort}
use Rattle.book.proofs.spellings.entry.Goals as goal

pub returns-in_err-label : goal.returns-in_err-label
returns-in_err-label c binder =
    one_refused (Sort.Entry c.args.greatest) binder _ _ _ (passed_up c.from_residual.ensures.1)
    (entry_stop _ _ _ (stopped _ _ _ c.field.ensures c.in_err-label.was))

pub returns : goal.returns
returns c = entry_read _ _ _ _ _ c.spelling.result (read _ _ _ c.field.ensures c.in_ok-label.was) c.spelling.ensures.0
    c.spelling.ensures.1
