-- `book::one_record` meets its contract, sort by sort.
use Rattle.book.proofs.sections.one_record.Goals as goal

pub returns-in-Entry : goal.returns-in-Entry
returns-in-Entry c = rw c.in-Entry.is (c.entry.ensures _)

pub returns-in-Nonterminal : goal.returns-in-Nonterminal
returns-in-Nonterminal c = rw c.in-Nonterminal.is (c.nonterminal.ensures _)

pub returns-then-binders : goal.returns-then-binders
returns-then-binders c = rw (c.in-Variant.is, c.if-binders.true, ← c.has_binder-binder.ensures) (c.variant.ensures _)

pub returns-else-binders : goal.returns-else-binders
returns-else-binders c = rw (c.in-Variant.is, c.if-binders.false) (c.variant-else-binders.ensures _)

pub returns-then-binders-2 : goal.returns-then-binders-2
returns-then-binders-2 c = rw (c.in-Step.is, c.if-binders-2.true, ← c.has_binder-binder-then-binders-2.ensures)
    (c.step.ensures _)

pub returns-else-binders-2 : goal.returns-else-binders-2
returns-else-binders-2 c = rw (c.in-Step.is, c.if-binders-2.false) (c.step-else-binders-2.ensures _)
