-- `book::variant` (of sections) meets its contract: each way out is one law of RecordLaws.
use Rattle.book.proofs.ReaderLaws.{read, stopped, passed_up}
use Rattle.book.proofs.RecordLaws.{one_refused, variant_stop_level, variant_stop_associativity, variant_stop_flags}
use Rattle.book.proofs.RecordLaws.{variant_read}
use Rattle.book.specs.declared.sections.Sort.{Sort}
use Rattle.book.proofs.sections.variant.Goals as goal

pub returns-in_err-level : goal.returns-in_err-level
returns-in_err-level c binders = one_refused (Sort.Variant binders) _ _ _ _ (passed_up c.from_residual.ensures.1)
    (variant_stop_level binders _ _ _ (stopped _ _ _ c.fixed.ensures c.in_err-level.was))

pub returns-in_err-associativity : goal.returns-in_err-associativity
returns-in_err-associativity c binders =
    one_refused (Sort.Variant binders) _ _ _ _ (passed_up c.from_residual-in_err-associativity.ensures.1)
    (variant_stop_associativity binders _ _ _ _ _ _ (read _ _ _ c.fixed.ensures c.in_ok-level.was)
    c.least_associativity.ensures
    (stopped _ _ _ c.field.ensures c.in_err-associativity.was))

pub returns-in_err-flags : goal.returns-in_err-flags
returns-in_err-flags c binders =
    one_refused (Sort.Variant binders) _ _ _ _ (passed_up c.from_residual-in_err-flags.ensures.1)
    (variant_stop_flags binders _ _ _ _ _ _ (read _ _ _ c.fixed.ensures c.in_ok-level.was)
    c.least_associativity.ensures _ _
    (read _ _ _ c.field.ensures c.in_ok-associativity.was)
    (stopped _ _ _ c.fixed-2.ensures c.in_err-flags.was))

pub returns : goal.returns
returns c binders =
    variant_read binders _ _ _ _ _ _ (read _ _ _ c.fixed.ensures c.in_ok-level.was) c.least_associativity.ensures _ _
    (read _ _ _ c.field.ensures c.in_ok-associativity.was) _ _ _
    (read _ _ _ c.fixed-2.ensures c.in_ok-flags.was) c.fixed-3.ensures
