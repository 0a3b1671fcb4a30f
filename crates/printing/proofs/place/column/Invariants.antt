-- `printing::column` meets its contract. The invariant: what follows moves the column to where the whole moves 1.
use Rattle.std.proofs.Common.{drop, ◌*◌, ◌+◌, ◌≡◌, ◌≤◌}
use Rattle.printing.specs.Printing.{column_from}
use Rattle.printing.proofs.place.column.Given as goal

abbrev pub invariant-loop-byte : goal.invariant-loop-byte
invariant-loop-byte l = record {
  least : 1 ≤ l.column;
  most : l.column ≤ 1 + 8 * l.byte-index;
  rest : column_from l.column (drop l.byte-index l.before) ≡ column_from 1 l.before;
}
