-- `transitions::finish` meets its contract.
use Rattle.std.proofs.Common.{refl}
use Rattle.std.proofs.lemmas.Result.{err_from_is_err_and}
use Rattle.calls.specs.Lent.{table_in}
use Rattle.transitions.specs.OutcomeLaws.{number_there}
use Rattle.transitions.specs.StopLaws.{level_fits, parse_of_variant, finish_limit, finish_added, finish_full}
use Rattle.transitions.proofs.steps.finish.Goals as goal

pub returns-in_err-cell : goal.returns-in_err-cell
returns-in_err-cell c =
    record {
      does = let p = err_from_is_err_and c.from_residual.result c.from_residual.ensures.1 in
          rw (p.1, p.2)
          (finish_limit c.args.book.now c.args.text.now c.args.store.now _ c.args.here.call c.args.here.variant
          c.args.here.place c.args.here.items c.args.state.now _ (rw c.in_err-cell.was at c.value.ensures) (table_in
          c.args.rows.now) _
          (number_there _) refl);
      slice = refl;
    }

pub parse_of-requires : goal.parse_of-requires
parse_of-requires c =
    level_fits c.args.book.now c.args.text.now c.args.here.variant _ c.variant-variant.ensures c.requires.1

pub returns-then-not-add_run : goal.returns-then-not-add_run
returns-then-not-add_run c =
    record {
      does = finish_full c.args.book.now c.args.text.now c.args.store.now _ c.args.here.call c.args.here.variant
          c.args.here.place c.args.here.items c.args.state.now _ (rw c.in_ok-cell.was at c.value.ensures) (table_in
          c.args.rows.now) _
          _ _
          (parse_of_variant c.args.book.now c.args.text.now c.args.here.variant c.args.here.place _ _ _
          c.variant-variant.ensures c.parse_of.ensures) c.add_run.ensures.0 refl _ c.if-not-add_run.true refl;
      slice = c.add_run.ensures.1;
    }

pub returns : goal.returns
returns c =
    record {
      does = finish_added c.args.book.now c.args.text.now c.args.store.now _ c.args.here.call c.args.here.variant
          c.args.here.place c.args.here.items c.args.state.now _ (rw c.in_ok-cell.was at c.value.ensures) (table_in
          c.args.rows.now) _
          _ _
          (parse_of_variant c.args.book.now c.args.text.now c.args.here.variant c.args.here.place _ _ _
          c.variant-variant.ensures c.parse_of.ensures) c.add_run.ensures.0 refl _ c.if-not-add_run.false refl;
      slice = c.add_run.ensures.1;
    }
