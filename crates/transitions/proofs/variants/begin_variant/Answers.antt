-- `transitions::begin_variant` meets its contract.
use Rattle.std.proofs.Common.{refl, ap, arith}
use Rattle.book.specs.declared.records.Variant.{Variant}
use Rattle.calls.specs.Lent.{table_in}
use Rattle.transitions.specs.EndingLaws.{variant_begins}
use Rattle.transitions.proofs.variants.begin_variant.Goals as goal

pub overflow_cast-variant : goal.overflow_cast-variant
overflow_cast-variant c =
    omega (arith, c.requires.1.levels c.args.j, ap (λ (w : Variant). w.level) c.variant-variant.ensures)

pub returns : goal.returns
returns c =
    record {
      begins = variant_begins c.args.book.now c.args.text.now c.args.store.now _
          (table_in c.args.rows.now) _ c.args.row c.args.j c.args.state.now _ c.begin.ensures _ _ _ refl
          c.variant-variant.ensures c.take_variant.ensures.0 refl;
      slice = c.take_variant.ensures.1;
    }
