-- `book::heads` meets its contract: each way out is one law of WholeLaws.
use Rattle.book.proofs.ReaderLaws.{passed_up}
use Rattle.book.proofs.WholeLaws.{heads_words, heads_names, heads_all}
use Rattle.book.proofs.checking.heads.Goals as goal

pub returns-in_err-words : goal.returns-in_err-words
returns-in_err-words c = rw (passed_up c.from_residual.ensures.1, ← c.in_err-words.was)
    (heads_words _ _ _ _ c.section.ensures c.in_err-words.was)

pub returns-in_err-names : goal.returns-in_err-names
returns-in_err-names c = rw (passed_up c.from_residual-in_err-names.ensures.1, ← c.in_err-names.was)
    (heads_names _ _ _ _ c.section.ensures _ c.in_ok-words.was _ _ c.section-2.ensures c.in_err-names.was)

pub returns : goal.returns
returns c = heads_all _ _ _ _ c.section.ensures _ c.in_ok-words.was _ _ c.section-2.ensures _ c.in_ok-names.was _ _
    c.section-3.ensures
