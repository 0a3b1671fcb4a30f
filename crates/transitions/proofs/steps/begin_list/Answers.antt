-- `transitions::begin_list` meets its contract.
use Rattle.std.proofs.Common.{refl}
use Rattle.std.proofs.lemmas.Result.{err_from_is_err_and}
use Rattle.semantics.specs.Cells.{Cell}
use Rattle.transitions.specs.OutcomeLaws.{number_there}
use Rattle.transitions.specs.LimitLaws.{staged_anywhere}
use Rattle.transitions.specs.StepsLaws.{list_begun}
use Rattle.transitions.proofs.steps.begin_list.Goals as goal

pub returns-in_err-values : goal.returns-in_err-values
returns-in_err-values c = λ book.
    let p = err_from_is_err_and c.from_residual.result c.from_residual.ensures.1 in
    rw (p.1, p.2)
    (staged_anywhere _ _ _ _ _ _ _ _ _ refl (number_there _)
    (list_begun book c.args.text.now c.args.store.now _ c.args.here.variant c.args.state.now _
    (rw c.in_err-values.was at (c.make.ensures Cell.empty c.empty.ensures)) c.args.place c.args.here.items
    c.args.comma c.args.names c.args.nonterminal c.args.closing _ refl))

pub returns : goal.returns
returns c = λ book.
    list_begun book c.args.text.now c.args.store.now _ c.args.here.variant c.args.state.now _
    (rw c.in_ok-values.was at (c.make.ensures Cell.empty c.empty.ensures)) c.args.place c.args.here.items
    c.args.comma c.args.names c.args.nonterminal c.args.closing _ refl
