-- `transitions::open` meets its contract.
use Rattle.std.proofs.Common.{refl}
use Rattle.std.proofs.lemmas.Result.{err_from_is_err_and}
use Rattle.calls.specs.Lent.{table_in}
use Rattle.transitions.specs.EnteringLaws.{opens_deep, opens_identifier, opens_runs}
use Rattle.transitions.proofs.entering.open.Goals as goal

pub returns-then-row-eq0 : goal.returns-then-row-eq0
returns-then-row-eq0 c =
    record {
      opens = opens_deep c.args.book.now c.args.text.now c.args.row c.args.binder
          c.args.nonterminal c.args.at c.args.minimum c.args.state.now _ c.args.store.now (table_in c.args.rows.now) _
          c.if-row-eq0.true refl refl;
      slice = refl;
    }

pub returns-in_err-failure : goal.returns-in_err-failure
returns-in_err-failure c =
    record {
      opens = let p = err_from_is_err_and c.from_residual.result c.from_residual.ensures.1 in
          rw (p.1, p.2)
          (opens_identifier c.args.book.now c.args.text.now c.args.row c.args.binder
          c.args.nonterminal c.args.at c.args.minimum c.args.state.now _ c.args.store.now _ (table_in c.args.rows.now)
          _ _ _
          c.if-row-eq0.false c.is_identifier.ensures c.if-is_identifier.true
          (rw c.in_err-failure.was at c.run_identifier.ensures.does) refl);
      slice = c.run_identifier.ensures.slice;
    }

pub returns-then-is_identifier : goal.returns-then-is_identifier
returns-then-is_identifier c =
    record {
      opens = opens_identifier c.args.book.now c.args.text.now c.args.row c.args.binder
          c.args.nonterminal c.args.at c.args.minimum c.args.state.now _ c.args.store.now _ (table_in c.args.rows.now)
          _ _ _
          c.if-row-eq0.false c.is_identifier.ensures c.if-is_identifier.true
          (rw c.in_ok-failure.was at c.run_identifier.ensures.does) refl;
      slice = c.run_identifier.ensures.slice;
    }

pub returns : goal.returns
returns c =
    record {
      opens = opens_runs c.args.book.now c.args.text.now c.args.row c.args.binder
          c.args.nonterminal c.args.at c.args.minimum c.args.state.now _ c.args.store.now (table_in c.args.rows.now) _ _
          c.if-row-eq0.false c.is_identifier.ensures c.if-is_identifier.false refl refl;
      slice = refl;
    }
