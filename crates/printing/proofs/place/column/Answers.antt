-- `printing::column` meets its contract. The invariant: what follows moves the column to where the whole moves 1.
use Rattle.std.proofs.Common.{ap, arith, get_or, length, length-take, refl, sym, ◌∙◌, ◌≤◌}
use Rattle.printing.proofs.NumberLaws.{column_step, column_end, column_bounds}
use Rattle.printing.specs.Printing.{column_from}
use Rattle.printing.proofs.place.column.Goals as goal

pub loop-byte-init : goal.loop-byte-init
loop-byte-init c = record { least = omega arith; most = omega arith; rest = refl }

pub next_column-column-requires : goal.next_column-column-requires
next_column-column-requires c =
    let loop = c.loop-byte in
    let short : length c.part-before.result.now ≤ c.args.place =
    rw c.part-before.ensures (omega (arith, length-take c.args.place c.args.text.now)) in
    (loop.invariant.least, omega (arith, c.ranges, short, loop.invariant.most, c.loop-byte-test.true))

pub loop-byte-preserved : goal.loop-byte-preserved
loop-byte-preserved c =
    let loop = c.loop-byte in
    let test = c.loop-byte-test in
    let next = c.next_column-column.ensures in
    let bytes = c.part-before.result.now in
    let bounds = column_bounds loop.column (get_or bytes loop.byte-index 0) loop.invariant.least in
    record {
      least = rw next bounds.0;
      most = rw next (omega (arith, bounds.1, loop.invariant.most));
      rest = rw next (column_step bytes loop.byte-index loop.column test.true ∙ loop.invariant.rest);
    }

pub returns : goal.returns
returns c =
    let loop = c.loop-byte in
    sym (column_end c.part-before.result.now loop.byte-index loop.column c.loop-byte-test.false)
    ∙ loop.invariant.rest ∙ ap (column_from 1) c.part-before.ensures
