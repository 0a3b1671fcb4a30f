-- `book::step` (of sections) meets its contract: each way out is one law of RecordLaws.
use Rattle.std.proofs.Common.{refl, sym, ◌∙◌}
use Rattle.book.proofs.ReaderLaws.{read, stopped, passed_up}
use Rattle.book.proofs.RecordLaws.{one_refused, step_stop_kind, step_unknown, step_stop_a, step_stop_b}
use Rattle.book.proofs.RecordLaws.{step_stop_c, step_read, allowed_known, allowed_refused}
use Rattle.book.specs.declared.sections.Sort.{Sort}
use Rattle.book.proofs.sections.step.Goals as goal

pub returns-in_err-kind : goal.returns-in_err-kind
returns-in_err-kind c binders = one_refused (Sort.Step c.args.words c.args.nonterminals binders) c.args.binder _ _ _
    (passed_up c.from_residual.ensures.1)
    (step_stop_kind _ _ binders _ _ _ (stopped _ _ _ c.field.ensures c.in_err-kind.was))

pub returns-in_default : goal.returns-in_default
returns-in_default c binders =
    let kind = read _ _ _ c.field.ensures c.in_ok-kind.was in
    one_refused (Sort.Step c.args.words c.args.nonterminals binders) c.args.binder _ _ _ refl
    (step_unknown _ _ binders _ _ _ _ _ kind
    (allowed_refused c.args.words c.args.nonterminals c.args.binder _
    (sym c.in_default.is ∙ c.step_arguments.ensures)))

pub returns-in_err-first : goal.returns-in_err-first
returns-in_err-first c binders =
    let kind = read _ _ _ c.field.ensures c.in_ok-kind.was in
    let known = allowed_known _ _ _ _ _ _ (sym c.in-Some.is ∙ c.step_arguments.ensures) in
    one_refused (Sort.Step c.args.words c.args.nonterminals binders) c.args.binder _ _ _
    (passed_up c.from_residual-in_err-first.ensures.1)
    (step_stop_a _ _ binders _ _ _ _ _ kind _ _ known (stopped _ _ _ c.field-2.ensures c.in_err-first.was))

pub returns-in_err-second : goal.returns-in_err-second
returns-in_err-second c binders =
    let kind = read _ _ _ c.field.ensures c.in_ok-kind.was in
    let known = allowed_known _ _ _ _ _ _ (sym c.in-Some.is ∙ c.step_arguments.ensures) in
    let first = read _ _ _ c.field-2.ensures c.in_ok-first.was in
    one_refused (Sort.Step c.args.words c.args.nonterminals binders) c.args.binder _ _ _
    (passed_up c.from_residual-in_err-second.ensures.1)
    (step_stop_b _ _ binders _ _ _ _ _ kind _ _ known _ _ first
    (stopped _ _ _ c.field-3.ensures c.in_err-second.was))

pub returns-in_err-third : goal.returns-in_err-third
returns-in_err-third c binders =
    let kind = read _ _ _ c.field.ensures c.in_ok-kind.was in
    let known = allowed_known _ _ _ _ _ _ (sym c.in-Some.is ∙ c.step_arguments.ensures) in
    let first = read _ _ _ c.field-2.ensures c.in_ok-first.was in
    let second = read _ _ _ c.field-3.ensures c.in_ok-second.was in
    one_refused (Sort.Step c.args.words c.args.nonterminals binders) c.args.binder _ _ _
    (passed_up c.from_residual-in_err-third.ensures.1)
    (step_stop_c _ _ binders _ _ _ _ _ kind _ _ known _ _ first _ _ second
    (stopped _ _ _ c.field-4.ensures c.in_err-third.was))

pub returns : goal.returns
returns c binders =
    let kind = read _ _ _ c.field.ensures c.in_ok-kind.was in
    let known = allowed_known _ _ _ _ _ _ (sym c.in-Some.is ∙ c.step_arguments.ensures) in
    let first = read _ _ _ c.field-2.ensures c.in_ok-first.was in
    let second = read _ _ _ c.field-3.ensures c.in_ok-second.was in
    step_read _ _ binders _ _ _ _ _ kind _ _ known _ _ first _ _ second _ _
    (read _ _ _ c.field-4.ensures c.in_ok-third.was)
