-- `transitions::next_of` meets its contract.
use Rattle.std.proofs.Common.{refl}
use Rattle.std.proofs.lemmas.Result.{err_from_is_err_and}
use Rattle.sets.specs.Sets.{parse_of}
use Rattle.transitions.specs.OutcomeLaws.{number_there}
use Rattle.transitions.specs.LimitLaws.{staged_anywhere}
use Rattle.transitions.specs.NextLaws.{plain_next_lem, list_next_lem}
use Rattle.transitions.proofs.next.next_of.Goals as goal

pub next_element-requires : goal.next_element-requires
next_element-requires c = c.requires

pub returns-in_err-items-in-Steps : goal.returns-in_err-items-in-Steps
returns-in_err-items-in-Steps c =
    let p = err_from_is_err_and c.from_residual.result c.from_residual.ensures.1 in
    rw (p.1, p.2)
    (staged_anywhere _ _ _ _ _ _ _ _ _ refl (number_there _)
    (plain_next_lem c.args.book.now c.args.text.now c.args.store.now _ c.args.here.variant c.args.here.items c.args.next
    (parse_of c.args.q) c.args.state.now _ _ _ c.in-Steps.is (rw c.in_err-items-in-Steps.was at c.with_cell.ensures)
    refl refl))

pub returns-in_ok-items-in-Steps : goal.returns-in_ok-items-in-Steps
returns-in_ok-items-in-Steps c =
    plain_next_lem c.args.book.now c.args.text.now c.args.store.now _ c.args.here.variant c.args.here.items c.args.next
    (parse_of c.args.q) c.args.state.now _ _ _ c.in-Steps.is (rw c.in_ok-items-in-Steps.was at c.with_cell.ensures)
    refl refl

pub returns-in-Elements : goal.returns-in-Elements
returns-in-Elements c =
    list_next_lem c.args.book.now c.args.text.now c.args.store.now _ c.args.here.variant c.args.here.items c.args.next _
    (parse_of c.args.q) c.args.state.now _ c.in-Elements.is c.next_element.ensures
