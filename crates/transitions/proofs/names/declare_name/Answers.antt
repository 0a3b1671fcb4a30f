-- `transitions::declare_name` meets its contract.
use Rattle.std.proofs.Common.{arith, refl}
use Rattle.std.proofs.lemmas.Result.{err_from_is_err_and}
use Rattle.semantics.specs.Cells.{Cell}
use Rattle.calls.specs.TableLaws.{table_length}
use Rattle.calls.specs.Lent.{table_in}
use Rattle.transitions.specs.OutcomeLaws.{number_there}
use Rattle.transitions.specs.NamesLaws.{kind_few, place_inside, end_inside, declare_missing, declare_limit}
use Rattle.transitions.specs.NamesLaws.{declare_chain_limit, declare_on}
use Rattle.transitions.proofs.names.declare_name.Goals as goal

pub overflow_cast-name : goal.overflow_cast-name
overflow_cast-name c = omega (arith, kind_few _ _ _ _ c.declaration_at.ensures _ c.in_ok-name.was)

pub overflow_cast-name-2 : goal.overflow_cast-name-2
overflow_cast-name-2 c =
    omega (arith, c.requires.0.1.short, place_inside _ _ _ _ c.declaration_at.ensures _ c.in_ok-name.was)

pub overflow_cast-size : goal.overflow_cast-size
overflow_cast-size c = omega (
  arith,
  c.span_length-size.ensures,
  c.requires.0.1.short,
  end_inside _ _ _ _ c.declaration_at.ensures _ c.in_ok-name.was,
)

pub returns-in_err-name : goal.returns-in_err-name
returns-in_err-name c =
    record {
      declares = let p = err_from_is_err_and c.from_residual.result c.from_residual.ensures.1 in
          rw (p.1, p.2)
          (declare_missing c.args.book.now c.args.text.now c.args.store.now (table_in c.args.rows.now) c.args.free
          c.args.here
          c.args.names c.args.state.now _ _ _ _ _ c.skipped-at.ensures c.declaration_at.ensures c.in_err-name.was refl
          refl);
      slice = refl;
    }

pub returns-in_err-cell : goal.returns-in_err-cell
returns-in_err-cell c =
    record {
      declares = let p = err_from_is_err_and c.from_residual-in_err-cell.result c.from_residual-in_err-cell.ensures.1 in
          rw (p.1, p.2)
          (declare_limit c.args.book.now c.args.text.now c.args.store.now _ (table_in c.args.rows.now) _ c.args.free
          c.args.here
          c.args.names c.args.state.now _ c.skipped-at.ensures _ c.declaration_at.ensures _ c.in_ok-name.was _
          c.span_length-size.ensures c.declare.ensures.0 _ _ c.number.ensures (rw c.in_err-cell.was at c.make.ensures)
          _ _
          (number_there _) refl refl);
      slice = c.declare.ensures.1;
    }

pub returns-in_err-kinds : goal.returns-in_err-kinds
returns-in_err-kinds c =
    record {
      declares = let p = err_from_is_err_and c.from_residual-in_err-kinds.result
          c.from_residual-in_err-kinds.ensures.1 in
          rw (p.1, p.2)
          (declare_chain_limit c.args.book.now c.args.text.now c.args.store.now _ (table_in c.args.rows.now) _
          c.args.free c.args.here
          c.args.names c.args.state.now _ c.skipped-at.ensures _ c.declaration_at.ensures _ c.in_ok-name.was _
          c.span_length-size.ensures c.declare.ensures.0 _ _ c.number.ensures (rw c.in_ok-cell.was at c.make.ensures)
          _ refl _
          (rw c.in_err-kinds.was at (c.make-2.ensures (Cell.chain c.args.names.kinds _) c.chain.ensures)) _ _
          (number_there _) refl refl);
      slice = c.declare.ensures.1;
    }

pub behind_name-requires : goal.behind_name-requires
behind_name-requires c =
    let inside = end_inside _ _ _ _ c.declaration_at.ensures _ c.in_ok-name.was in
    (c.requires.0.1.short, omega (arith, c.requires.0.1.short, inside))

pub returns : goal.returns
returns c =
    record {
      declares = declare_on c.args.book.now c.args.text.now c.args.store.now _ (table_in c.args.rows.now) _
          c.args.free c.args.here
          c.args.names c.args.state.now _ c.skipped-at.ensures _ c.declaration_at.ensures _ c.in_ok-name.was _
          c.span_length-size.ensures c.declare.ensures.0 _ _ c.number.ensures (rw c.in_ok-cell.was at c.make.ensures)
          _ refl _
          (rw c.in_ok-kinds.was at (c.make-2.ensures (Cell.chain c.args.names.kinds _) c.chain.ensures)) refl
          c.requires.1 c.requires.0.0 (table_length _) _ (c.behind_name.ensures _);
      slice = c.declare.ensures.1;
    }
