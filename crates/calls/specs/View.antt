-- What a `Rows` of the code stands for: the table. Its slice has the numbers of one.
use Rattle.std.specs.Prelude.{List}
use Rattle.run_model.specs.Rows.{Row}
use Rattle.calls.specs.Table.{HasTable, table}
use Rattle.calls.specs.declared.rows.Rows.TheInside.{Inside}

abbrev pub rows_view : Inside → List Row
rows_view r = table r.numbers.now

abbrev pub IsRows : Inside → Type 0
IsRows r = HasTable r.numbers.now
