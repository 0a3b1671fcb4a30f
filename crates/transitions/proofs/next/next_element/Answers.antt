-- `transitions::next_element` meets its contract.
use Rattle.std.proofs.Common.{refl, ap, arith, sym, ◌∙◌}
use Rattle.std.proofs.lemmas.Result.{err_from_is_err_and}
use Rattle.semantics.specs.Cells.{Cell}
use Rattle.sets.specs.Sets.{parse_of}
use Rattle.tokens.specs.Maps.{after_of}
use Rattle.transitions.specs.OutcomeLaws.{number_there}
use Rattle.transitions.specs.TakenLaws.{goes_fits, halts_fits}
use Rattle.transitions.specs.NextLaws.{element_limit, element_on, element_last}
use Rattle.transitions.proofs.next.next_element.Goals as goal

pub returns-in_err-values : goal.returns-in_err-values
returns-in_err-values c =
    let p = err_from_is_err_and c.from_residual.result c.from_residual.ensures.1 in
    rw (p.1, p.2)
    (element_limit c.args.book.now c.args.text.now c.args.store.now _ c.args.here.variant c.args.here.items c.args.list
    (parse_of c.args.q) c.args.state.now _
    (rw c.in_err-values.was at (c.make.ensures (Cell.chain c.args.list.values c.args.q.value) c.chain.ensures)) _ _
    (number_there _)
    refl refl)

pub overflow_cast-result : goal.overflow_cast-result
overflow_cast-result c = omega (
  arith,
  goes_fits c.args.text.now c.args.list.comma c.args.q.rest _ c.requires.short (omega arith)
      (sym (ap after_of c.in-Goes.is) ∙ c.after_element.ensures),
)

pub overflow_cast-y : goal.overflow_cast-y
overflow_cast-y c = omega (
  arith,
  halts_fits c.args.text.now c.args.list.comma c.args.q.rest _ c.requires.short (omega arith)
      (sym (ap after_of c.in-Halts.is) ∙ c.after_element.ensures),
)

pub stop-requires : goal.stop-requires
stop-requires c = c.requires

pub returns-in-Goes : goal.returns-in-Goes
returns-in-Goes c =
    element_on c.args.book.now c.args.text.now c.args.store.now _ c.args.here.variant c.args.here.items c.args.list
    (parse_of c.args.q) c.args.state.now _
    (rw c.in_ok-values.was at (c.make.ensures (Cell.chain c.args.list.values c.args.q.value) c.chain.ensures))
    refl _ c.after_element.ensures _ _ c.in-Goes.is refl

pub returns-in_err-r-in-Halts : goal.returns-in_err-r-in-Halts
returns-in_err-r-in-Halts c =
    let p = err_from_is_err_and c.from_residual-in_err-r-in-Halts.result c.from_residual-in_err-r-in-Halts.ensures.1 in
    rw (p.1, p.2)
    (element_last c.args.book.now c.args.text.now c.args.store.now _ c.args.here.variant c.args.here.items c.args.list
    (parse_of c.args.q) c.args.state.now _
    (rw c.in_ok-values.was at (c.make.ensures (Cell.chain c.args.list.values c.args.q.value) c.chain.ensures))
    refl _ c.after_element.ensures _ _ _ _ c.in-Halts.is (rw c.in_err-r-in-Halts.was at c.stop.ensures) refl)

pub returns-in_ok-r-in-Halts : goal.returns-in_ok-r-in-Halts
returns-in_ok-r-in-Halts c =
    rw c.then_steps.ensures (element_last c.args.book.now c.args.text.now c.args.store.now _ c.args.here.variant
    c.args.here.items c.args.list
    (parse_of c.args.q) c.args.state.now _
    (rw c.in_ok-values.was at (c.make.ensures (Cell.chain c.args.list.values c.args.q.value) c.chain.ensures))
    refl _ c.after_element.ensures _ _ _ _ c.in-Halts.is (rw c.in_ok-r-in-Halts.was at c.stop.ensures) refl)
