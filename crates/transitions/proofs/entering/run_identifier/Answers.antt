-- `transitions::run_identifier` meets its contract.
use Rattle.std.proofs.Common.{refl, arith, sym, ◌∙◌}
use Rattle.std.proofs.lemmas.Result.{err_from_is_err_and}
use Rattle.calls.specs.Lent.{table_in}
use Rattle.transitions.specs.OutcomeLaws.{number_there}
use Rattle.transitions.specs.EnteringLaws.{identifier_claimed, identifier_nothing, identifier_full}
use Rattle.transitions.specs.EnteringLaws.{identifier_named}
use Rattle.transitions.specs.TakenLaws.{free_end_fits}
use Rattle.transitions.proofs.entering.run_identifier.Goals as goal

pub returns-then-claimed : goal.returns-then-claimed
returns-then-claimed c =
    record {
      does = identifier_claimed c.args.book.now c.args.text.now c.args.store.now
          (table_in c.args.rows.now) _ _ c.args.row c.args.binder c.args.nonterminal c.args.at c.args.state.now _
          c.clear_set.ensures.0 c.end_call.ensures.0
          (rw c.shared.ensures at c.claimed.ensures) c.no_parse.result _ c.if-claimed.true c.no_parse.ensures refl;
      slice = c.end_call.ensures.1 ∙ c.clear_set.ensures.1;
    }

pub returns-in_default : goal.returns-in_default
returns-in_default c =
    record {
      does = identifier_nothing c.args.book.now c.args.text.now c.args.store.now
          (table_in c.args.rows.now) _ _ c.args.row c.args.binder c.args.nonterminal c.args.at c.args.state.now _
          c.clear_set.ensures.0 c.end_call.ensures.0 (rw c.shared.ensures at c.claimed.ensures) _
          c.no_parse-in_default.result _ c.if-claimed.false c.free_end.ensures c.in_default.is
          c.no_parse-in_default.ensures refl;
      slice = c.end_call.ensures.1 ∙ c.clear_set.ensures.1;
    }

pub overflow_cast-size : goal.overflow_cast-size
overflow_cast-size c = omega (
  arith,
  free_end_fits c.args.book.now c.args.text.now c.args.at _
      c.requires.1.short (sym c.free_end.ensures ∙ c.in-Some.is),
  c.span_length-size.ensures,
)

pub returns-in_err-cell : goal.returns-in_err-cell
returns-in_err-cell c =
    record {
      does = let p = err_from_is_err_and c.from_residual.result c.from_residual.ensures.1 in
          rw (p.1, p.2)
          (identifier_full c.args.book.now c.args.text.now c.args.store.now
          (table_in c.args.rows.now) _ _ c.args.row c.args.binder c.args.nonterminal c.args.at c.args.state.now _
          c.clear_set.ensures.0 c.end_call.ensures.0
          (rw c.shared.ensures at c.claimed.ensures) _ _ _ _ _ _ c.if-claimed.false c.free_end.ensures c.in-Some.is
          c.span_length-size.ensures
          c.name.ensures (rw c.in_err-cell.was at c.make.ensures) _ (number_there _) refl);
      slice = c.end_call.ensures.1 ∙ c.clear_set.ensures.1;
    }

pub overflow_cast-end : goal.overflow_cast-end
overflow_cast-end c = omega (
  arith,
  free_end_fits c.args.book.now c.args.text.now c.args.at _
      c.requires.1.short (sym c.free_end.ensures ∙ c.in-Some.is),
)

pub returns : goal.returns
returns c =
    record {
      does = identifier_named c.args.book.now c.args.text.now c.args.store.now
          (table_in c.args.rows.now) _ _ c.args.row c.args.binder c.args.nonterminal c.args.at c.args.state.now _
          c.clear_set.ensures.0 c.end_call.ensures.0
          (rw c.shared.ensures at c.claimed.ensures) _ _ _ _ _ _ c.if-claimed.false c.free_end.ensures c.in-Some.is
          c.span_length-size.ensures
          c.name.ensures (rw c.in_ok-cell.was at c.make.ensures) _ _ refl c.put_one.ensures.0 refl;
      slice = c.put_one.ensures.1 ∙ c.end_call.ensures.1 ∙ c.clear_set.ensures.1;
    }
