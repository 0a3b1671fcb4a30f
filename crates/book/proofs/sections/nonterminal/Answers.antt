-- `book::nonterminal` (of sections) meets its contract: each way out is one law of RecordLaws.
use Rattle.book.proofs.ReaderLaws.{read, stopped, passed_up}
use Rattle.book.proofs.RecordLaws.{one_refused, nonterminal_stop, nonterminal_read}
use Rattle.book.specs.declared.sections.Sort.{Sort}
use Rattle.book.proofs.sections.nonterminal.Goals as goal

pub returns-in_err-mark : goal.returns-in_err-mark
returns-in_err-mark c binder = one_refused Sort.Nonterminal binder _ _ _ (passed_up c.from_residual.ensures.1)
    (nonterminal_stop _ _ (stopped _ _ _ c.field.ensures c.in_err-mark.was))

pub returns : goal.returns
returns c = nonterminal_read _ _ _ _ _ _ (read _ _ _ c.field.ensures c.in_ok-mark.was)
    c.most_variants.ensures c.fixed.ensures
