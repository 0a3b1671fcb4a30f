-- The table of rows in a list of numbers. A row is eleven numbers and two sets, the stored one and the run's.
use Rattle.std.specs.Prelude.{◌≡◌, Bool, cond, List, [], ◌∷◌, ℕ, zero, suc, ◌+◌, ◌*◌, ◌≤◌, eqb, get_or, length}
use Rattle.std.specs.Prelude.{Option, None, Some}
use Rattle.characters.specs.Slices.{Slice}
use Rattle.book.specs.Book.{Book}
use Rattle.semantics.specs.Numbers.{most_nesting, too_many_parses}
use Rattle.semantics.specs.Values.{Parse}
use Rattle.semantics.specs.Cells.{Cell}
use Rattle.semantics.specs.Errors.{Error}
use Rattle.semantics.specs.Run.{Result, met, ok, State, add, add_all, kept, failed_call}
use Rattle.run_model.specs.Rows.{Row, row, row_of, on_row, use_at, ended, was_asked, with_set, with_run, RowGovernor}
use Rattle.run_model.specs.Rows.{minimum, same_start}
use Rattle.run_model.specs.Model.{RowState, row_state, Outcome, outcome, bare_call, settle, settle_first}
use Rattle.sets.specs.Sets.{set_size, set_at, result}
use Rattle.calls.specs.declared.governors.Governor.{Governor}
use Rattle.calls.specs.declared.settling.Settled.{Settled}

-- ---- The layout
-- the numbers of a row before its sets
abbrev pub field_count : ℕ
field_count = 11

-- where the stored set and the run's begin in a row
abbrev pub set_place : ℕ
set_place = field_count

abbrev pub run_place : ℕ
run_place = set_place + set_size

abbrev pub row_size : ℕ
row_size = run_place + set_size

-- one row for each level of nesting left, 0 too
abbrev pub row_count : ℕ
row_count = most_nesting + 1

abbrev pub rows_size : ℕ
rows_size = row_count * row_size

-- ---- What a list of numbers says: every list gives a table
unfoldable pub row_at : List ℕ → ℕ → Row
row_at numbers place =
    row (get_or numbers place 0) (get_or numbers (place + 1) 0) (get_or numbers (place + 2) 0)
    (get_or numbers (place + 3) 0)
    (get_or numbers (place + 4) 0) (get_or numbers (place + 5) 0) (get_or numbers (place + 6) 0)
    (get_or numbers (place + 7) 0) (get_or numbers (place + 8) 0) (get_or numbers (place + 9) 0)
    (get_or numbers (place + 10) 0)
    (set_at numbers (place + set_place)) (set_at numbers (place + run_place))

-- k rows from a place on
unfoldable pub rows_from : List ℕ → ℕ → ℕ → List Row
rows_from numbers place zero = []
rows_from numbers place (suc k) = row_at numbers place ∷ rows_from numbers (place + row_size) k

unfoldable pub table : List ℕ → List Row
table numbers = rows_from numbers 0 row_count

-- ---- The slice that a function is lent
-- the slice has its table
abbrev pub HasTable : Slice → Type 0
HasTable rows = rows_size ≤ length rows

-- a row of it
abbrev pub row_in : Slice → ℕ → Row
row_in rows row = row_of (table rows) row

-- ---- The table
-- one row changes
abbrev pub Changed : List Row → List Row → ℕ → (Row → Row) → Type 0
Changed T T' row change = T' ≡ on_row T row change

-- ---- The numbers of a row
-- a row whose j-th number is x
abbrev pub field : ℕ → ℕ → Row → Row
field j x r =
    row (cond (eqb j 0) x r.live) (cond (eqb j 1) x r.nonterminal) (cond (eqb j 2) x r.binder)
    (cond (eqb j 3) x r.start) (cond (eqb j 4) x r.level) (cond (eqb j 5) x r.associativity)
    (cond (eqb j 6) x r.child) (cond (eqb j 7) x r.asked) (cond (eqb j 8) x r.kind)
    (cond (eqb j 9) x r.place) (cond (eqb j 10) x r.size) r.set r.run

abbrev pub field_of : ℕ → Row → ℕ
field_of j r =
    cond (eqb j 0) r.live (cond (eqb j 1) r.nonterminal (cond (eqb j 2) r.binder (cond (eqb j 3) r.start
    (cond (eqb j 4) r.level (cond (eqb j 5) r.associativity (cond (eqb j 6) r.child (cond (eqb j 7) r.asked
    (cond (eqb j 8) r.kind (cond (eqb j 9) r.place r.size)))))))))

-- ---- What a function does to the table
-- a parse joins the run's set of a row; where it is a 65th, nothing is said of that set
pub record RunAdded (r : Bool) (before after : List Row) (row : ℕ) (p : Parse ℕ) : Type 0 where
  pub now : (s : State) → add s (row_of before row).run p ≡ result r (row_of after row).run s
  pub only : after ≡ on_row before row (with_run (row_of after row).run)

-- the run's set of a row joins the row's stored set
pub record RunJoined (r : Bool) (before after : List Row) (row : ℕ) : Type 0 where
  pub now : (s : State) → add_all s (row_of before row).set (row_of before row).run ≡ result r (row_of after row).set s
  pub only : after ≡ on_row before row (with_set (row_of after row).set)

-- ---- The code's governor, as the model has it
abbrev pub governor_in : Governor → RowGovernor
governor_in (Governor.Minimum m) = minimum m
governor_in (Governor.SameStart g) = same_start g

-- the row that the search for a governor found; where it found none, the model has the row behind all
abbrev pub governor_row : Option ℕ → ℕ
governor_row None = suc most_nesting
governor_row (Some g) = g

-- ---- Stored parses
-- what a row found are the parses that its governor's call has stored, filtered; the governor is asked (`with_stored`
-- of the model)
abbrev pub with_stored_in : List Row → ℕ → ℕ → List Row
with_stored_in rows row governor =
    let stored = row_of rows governor in
    on_row (on_row rows governor was_asked) row (λ t. ended (with_set (kept (use_at stored) stored.set) t))

-- ---- The end of a run
-- how the call of a row goes on after a run, by the code's answer: it has failed, with what the variants' failure was,
-- it is over, it is run again, or it has met a limit
abbrev pub after_run : Settled → ℕ → (RowState → Result Outcome) → Option Error → RowState → Result Outcome
after_run Settled.Failed row again failure s =
    let called = row_of s.rows row in
    ok (outcome (Some (failed_call (bare_call called.nonterminal called.start) failure)) s)
after_run Settled.Over row again failure s = ok (outcome None s)
after_run Settled.Again row again failure s = again s
after_run Settled.Full row again failure s = met too_many_parses s.units

-- the first run of the call of a row is over
pub record SettledFirst (r : Settled) (before after : List Row) (row : ℕ) : Type 0 where
  pub now : (book : Book) (text : List ℕ) (again : RowState → Result Outcome) (failure : Option Error)
      (units : ℕ) (cells : List Cell) →
      settle_first book text row again (outcome failure (row_state units cells before)) ≡
      after_run r row again failure (row_state units cells after)

-- a further run of it is over. It never ends as failed: it keeps what was stored. So the failure is any
pub record SettledNext (r : Settled) (before after : List Row) (row : ℕ) : Type 0 where
  pub now : (book : Book) (text : List ℕ) (again : RowState → Result Outcome) (failure : Option Error)
      (units : ℕ) (cells : List Cell) →
      settle book text row again (row_state units cells before) ≡
      after_run r row again failure (row_state units cells after)
