-- `book::five_sections` meets its contract: each way out is one law of WholeLaws.
use Rattle.std.proofs.Common.{arith, rules}
use Rattle.book.proofs.ReaderLaws.{passed_up}
use Rattle.book.proofs.WholeLaws.{few_read, sections_heads, sections_variants, sections_all}
use Rattle.book.proofs.checking.five_sections.Goals as goal

pub returns-in_err-head : goal.returns-in_err-head
returns-in_err-head c = rw (passed_up c.from_residual.ensures.1, ← c.in_err-head.was)
    (sections_heads _ _ _ _ c.heads.ensures c.in_err-head.was)

pub variants-requires : goal.variants-requires
variants-requires c = (search rules, few_read _ _ c.in_ok-head.was c.heads.ensures.few_nonterminals)

pub returns-in_err-body : goal.returns-in_err-body
returns-in_err-body c = rw (passed_up c.from_residual-in_err-body.ensures.1, ← c.in_err-body.was)
    (sections_variants _ _ _ _ c.heads.ensures _ c.in_ok-head.was _ c.has_binder-binders.ensures _ _
    c.variants.ensures c.in_err-body.was)

pub steps-requires : goal.steps-requires
steps-requires c =
    let few = few_read _ _ c.in_ok-head.was c.heads.ensures.few_nonterminals in
    let same = c.variants.ensures.kept.below 258 (omega arith) in
    (search rules, omega (arith, few, same), few_read _ _ c.in_ok-body.was c.variants.ensures.few)

pub returns : goal.returns
returns c =
    sections_all _ _ _ _ c.heads.ensures _ c.in_ok-head.was _ c.has_binder-binders.ensures _ _ c.variants.ensures _
    c.in_ok-body.was _ _ c.steps.ensures
