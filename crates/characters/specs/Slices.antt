-- A slice that a function is lent, as its contract has it: its numbers.
use Rattle.std.specs.Prelude.{List, ℕ}

abbrev pub Slice : Type 0
Slice = List ℕ
