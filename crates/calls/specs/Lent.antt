-- The table that a `RowsMut` of the code holds, and the lent slice in which it lies.
use Rattle.std.specs.Prelude.{◌≡◌, Bool, List, ℕ}
use Rattle.semantics.specs.Values.{Parse}
use Rattle.run_model.specs.Rows.{Row}
use Rattle.calls.specs.Table.{table, Changed, RunAdded, RunJoined}
use Rattle.calls.specs.declared.rows_mut.RowsMut.{RowsMut}

-- the list of its rows
abbrev pub table_in : RowsMut → List Row
table_in rows = table rows.numbers.now

-- which slice it lies in
abbrev pub slice_of : RowsMut → ℕ
slice_of rows = rows.numbers.ghost_name

-- it lies in the slice in which it lay, so that this slice holds what the table is now
abbrev pub SameSlice : RowsMut → RowsMut → Type 0
SameSlice rows rows' = slice_of rows' ≡ slice_of rows

-- one row changes
abbrev pub Changes : RowsMut → RowsMut → ℕ → (Row → Row) → Type 0
Changes rows rows' row change = Changed (table_in rows) (table_in rows') row change × SameSlice rows rows'

-- a parse joins the run's set of a row
abbrev pub AddsRun : Bool → RowsMut → RowsMut → ℕ → Parse ℕ → Type 0
AddsRun r rows rows' row p = RunAdded r (table_in rows) (table_in rows') row p × SameSlice rows rows'

-- the run's set of a row joins the row's stored set
abbrev pub JoinsRun : Bool → RowsMut → RowsMut → ℕ → Type 0
JoinsRun r rows rows' row = RunJoined r (table_in rows) (table_in rows') row × SameSlice rows rows'
