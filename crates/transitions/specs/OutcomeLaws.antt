-- Laws of outcomes, units and cells: one for each way through the functions of outcomes.rt and items.rt.
--
-- Contents:
-- - outcomes: given_ok, given_met, limit_stops, failure_done, goes_as, failure_none, failure_some, done_nothing,
--   done_at
-- - units: spend_one, spend_none, unit_spent, no_unit_lem
-- - cells: cell_ok, cell_met, cells_held, now_held, got_in, makes_at, makes_full
-- - the cells of a variant: begin_passing, begin_made, with_passing, with_made, value_passing, value_made
-- - the code's results: number_there, cell_there, spent_there, outcome_there, failure_given
-- - what a token adds: name_fit, variable_fit, item_cell_lem, item_name, item_number, item_variable, item_declared,
--   token_nothing, token_limit, token_made
use Rattle.std.specs.Prelude.{◌≡◌, refl, Bool, true, false, List, ℕ, ◌-◌, ◌/◌, ◌%◌, ◌^◌, eqb, length}
use Rattle.std.proofs.Math.Path.{sym}
use Rattle.std.proofs.Common.{ap, ◌∙◌, arith, eq-eqb, ne_eqb, lt-ltb}
use Rattle.std.specs.Prelude.{Option, None, Some}
use Rattle.book.specs.Book.{Book, nth_variant}
use Rattle.semantics.specs.Tokens as tokens
use Rattle.semantics.specs.Tokens.{is_some}
use Rattle.semantics.specs.Cells.{Cell, numbers_of}
use Rattle.semantics.specs.Run as run
use Rattle.semantics.specs.Run.{Result, met, ok, ◌>>=◌, made}
use Rattle.run_model.specs.Rows.{Row}
use Rattle.run_model.specs.Model.{row_state, outcome, spend_rows, cell_of_value}
use Rattle.cells.specs.Store.{Holds, Makes, Making, cells_after, listed}
use Rattle.cells.specs.StoredLaws.{stored_cells_lem}
use Rattle.cells.specs.declared.numbers.DebruijnIndex.{DebruijnIndex}
use Rattle.cells.specs.declared.numbers.VarIndex.{VarIndex}
use Rattle.cells.specs.declared.numbers.CellNumbers.{CellNumbers}
use Rattle.cells.specs.declared.store.Made as cells
use Rattle.errors.specs.Maps.{failure_of}
use Rattle.tokens.specs.Maps.{item_of}
use Rattle.errors.specs.declared.Error as code
use Rattle.errors.specs.Maps.{Failure}
use Rattle.tokens.specs.declared.steps.Item.{Item}
use Rattle.std.specs.Prelude as std
use Rattle.std.specs.Result.{result_unwrap_or}
use Rattle.transitions.specs.declared.outcomes.Limit.{Limit}
use Rattle.transitions.specs.Results.{limit_number, outcome_of, cell_of, spent_of}
use Rattle.transitions.specs.Results.{CellOutcome, Outcome, done_with, without_failure}
use Rattle.transitions.specs.declared.outcomes.State.{State}
use Rattle.transitions.specs.Fit.{Fits, ItemFits}
use Rattle.transitions.specs.Outcomes.{cells_of, Held, bare, failure_at, given, goes_on}
use Rattle.transitions.specs.Outcomes.{Spent, given_cell, MadeIn, MadeBy}

-- ---- Outcomes
pub given_ok : (o : Outcome) (cells : List Cell) (T : List Row) → o.limit ≡ 0 →
    given o cells T ≡ ok (outcome (failure_of (failure_at o)) (row_state o.state.units cells T))
unfolding given
given_ok o cells T e = rw (eq-eqb o.limit 0 e, given)

pub given_met : (o : Outcome) (cells : List Cell) (T : List Row) → (o.limit ≡ 0 → ⊥) →
    given o cells T ≡ met o.limit o.state.units
unfolding given
given_met o cells T e = rw (ne_eqb o.limit 0 e, given)

pub limit_stops : (o : Outcome) → (o.limit ≡ 0 → ⊥) → false ≡ goes_on o
unfolding goes_on
limit_stops o h = rw (ne_eqb o.limit 0 h, goes_on)

-- the failure is the one that it is done with
pub failure_done : (f : Failure) (s : State) → failure_at (done_with f s) ≡ f
failure_done None s = refl
failure_done (Some e) s = refl

pub goes_as : (o : Outcome) → o.limit ≡ 0 → eqb o.failed 0 ≡ goes_on o
unfolding goes_on
goes_as o h = rw (eq-eqb o.limit 0 h, goes_on)

pub failure_none : (o : Outcome) → o.failed ≡ 0 → None ≡ failure_at o
failure_none o e = rw (eq-eqb o.failed 0 e)

pub failure_some : (o : Outcome) → (o.failed ≡ 0 → ⊥) → Some o.error ≡ failure_at o
failure_some o h = rw (ne_eqb o.failed 0 h)

pub done_nothing : (f : Failure) (s : State) (r : Outcome) → f ≡ None →
    r ≡ without_failure 0 s → r ≡ done_with f s
done_nothing f s r e q = rw e q

pub done_at : (f : Failure) (s : State) (x : code.Error) → f ≡ Some x →
    record { limit = 0; failed = 1; state = s; error = x } ≡ done_with f s
done_at f s x e = rw e

-- ---- Units
pub spend_one : (units : ℕ) (cells : List Cell) (T : List Row) → (units ≡ 0 → ⊥) →
    spend_rows (row_state units cells T) ≡ ok (row_state (units - 1) cells T)
unfolding spend_rows run.spend ◌>>=◌
spend_one units cells T h = rw (lt-ltb 0 units (omega (arith, h)), spend_rows, run.spend, ◌>>=◌)

pub spend_none : (units : ℕ) (cells : List Cell) (T : List Row) → units ≡ 0 →
    spend_rows (row_state units cells T) ≡ met 20 0
unfolding spend_rows run.spend ◌>>=◌
spend_none units cells T h = rw (h, spend_rows, run.spend, ◌>>=◌)

pub unit_spent : (s : State) (r : Outcome) (units : ℕ) → (s.units ≡ 0 → ⊥) → units ≡ s.units - 1 →
    r ≡ done_with None (record { units = units; cells = s.cells }) → Spent r s
unfolding given ◌>>=◌
unit_spent s r units h u e =
    record {
      is = λ cells T. rw (e, spend_one s.units cells T h, u);
      cells = ap (λ (o : Outcome). o.state.cells) e;
    }

pub no_unit_lem : (s : State) (r : Outcome) → s.units ≡ 0 → r ≡ without_failure 20 s → Spent r s
unfolding given ◌>>=◌
no_unit_lem s r h e =
    record {
      is = λ cells T. rw (e, spend_none s.units cells T h, h);
      cells = ap (λ (o : Outcome). o.state.cells) e;
    }

-- ---- Cells
pub cell_ok : (m : CellOutcome) (cells : List Cell) → m.limit ≡ 0 →
    given_cell m cells ≡ ok (made m.cell (bare m.state.units cells))
unfolding given_cell
cell_ok m cells e = rw (eq-eqb m.limit 0 e, given_cell)

pub cell_met : (m : CellOutcome) (cells : List Cell) → (m.limit ≡ 0 → ⊥) →
    given_cell m cells ≡ met m.limit m.state.units
unfolding given_cell
cell_met m cells e = rw (ne_eqb m.limit 0 e, given_cell)

-- a store that holds some cells holds its first ones
pub cells_held : (text store : List ℕ) (l : List Cell) (count : ℕ) → Holds text store l →
    count ≡ length l → cells_of store count ≡ l
unfolding cells_of
cells_held text store l count h e = rw e (stored_cells_lem text store l h)

pub now_held : (text store : List ℕ) (l : List Cell) (count : ℕ) → Holds text store l →
    count ≡ length l → Held text store count
now_held text store l count h e =
    let q = cells_held text store l count h e in
    record { holds = rw q h; counted = ap length q ∙ sym e }

-- a cell that is there, and nothing is stored
pub got_in : (text store : List ℕ) (s : State) (m : CellOutcome) (cell : ℕ) (z : Result run.Made) →
    m ≡ record { limit = 0; cell = cell; state = s } →
    z ≡ ok (made cell (bare s.units (cells_of store s.cells))) → Held text store s.cells → MadeIn text store m z
unfolding given_cell
got_in text store s m cell z e q h = record { is = rw (e, q); held = rw e h }

module _ (text before after : List ℕ) (s : State) (c : CellNumbers) where
  module _ (cell : Cell) (e : listed c ≡ numbers_of cell) (h : Held text before s.cells) where
    making : (r : Option cells.Made) → Makes text before after s.cells c r →
        Making text after (cells_of before s.cells) cell r
    making r w = w.does (cells_of before s.cells) cell h.holds h.counted e

    cell_made : (r : Option cells.Made) (k : cells.Made) (m : CellOutcome) → Makes text before after s.cells c r →
        r ≡ Some k →
        m ≡ record { limit = 0; cell = k.cell; state = record { units = s.units; cells = k.count } } →
        MadeIn text after m (run.make text cell (bare s.units (cells_of before s.cells)))
    unfolding given_cell
    cell_made r k m w q d =
        let p = making (Some k) (rw q at w) in
        record {
          is = rw (
            d,
            cells_held text after (cells_after (Some k) (cells_of before s.cells) cell) k.count p.holds p.count,
          ) (sym (p.is (bare s.units (cells_of before s.cells)) refl));
          held = rw d (now_held text after (cells_after (Some k) (cells_of before s.cells) cell) k.count p.holds
              p.count);
        }

    no_cell : (r : Option cells.Made) (m : CellOutcome) → Makes text before after s.cells c r → r ≡ None →
        m ≡ record { limit = 23; cell = 0; state = s } →
        MadeIn text after m (run.make text cell (bare s.units (cells_of before s.cells)))
    unfolding given_cell
    no_cell r m w q d =
        let p = making None (rw q at w) in
        record {
          is = rw d (sym (p.is (bare s.units (cells_of before s.cells)) refl));
          held = rw d (now_held text after (cells_of before s.cells) s.cells p.holds (sym h.counted));
        }

  pub makes_at : (r : Option cells.Made) (k : cells.Made) (m : CellOutcome) → Makes text before after s.cells c r →
      r ≡ Some k → m ≡ record { limit = 0; cell = k.cell; state = record { units = s.units; cells = k.count } } →
      (cell : Cell) → listed c ≡ numbers_of cell → MadeBy text before after s m (run.make text cell)
  makes_at r k m w q d cell e h = cell_made cell e h r k m w q d

  pub makes_full : (r : Option cells.Made) (m : CellOutcome) → Makes text before after s.cells c r → r ≡ None →
      m ≡ record { limit = 23; cell = 0; state = s } → (cell : Cell) → listed c ≡ numbers_of cell →
      MadeBy text before after s m (run.make text cell)
  makes_full r m w q d cell e h = no_cell cell e h r m w q d

-- ---- The cells of a variant
module _ (book : Book) (text : List ℕ) (j : ℕ) (p : Bool) (ep : p ≡ (nth_variant book j).passing)
    (s : State) (m : CellOutcome) where
  pub begin_passing : (store : List ℕ) → p ≡ true → m ≡ record { limit = 0; cell = 0; state = s } →
      MadeBy text store store s m (run.begin book text j)
  unfolding run.begin
  begin_passing store y e h = got_in text store s m 0 _ e (rw (sym ep ∙ y, run.begin)) h

  pub begin_made : (before after : List ℕ) (c : CellNumbers) → p ≡ false →
      ((cell : Cell) → listed c ≡ numbers_of cell → MadeBy text before after s m (run.make text cell)) →
      listed c ≡ numbers_of Cell.empty → MadeBy text before after s m (run.begin book text j)
  unfolding run.begin
  begin_made before after c y w e h = rw (sym ep ∙ y, run.begin) (w Cell.empty e h)

  pub with_passing : (store : List ℕ) (items item : ℕ) → p ≡ true → m ≡ record { limit = 0; cell = item; state = s } →
      MadeBy text store store s m (run.with_cell book text j items item)
  unfolding run.with_cell
  with_passing store items item y e h = got_in text store s m item _ e (rw (sym ep ∙ y, run.with_cell)) h

  pub with_made : (before after : List ℕ) (items item : ℕ) (c : CellNumbers) → p ≡ false →
      ((cell : Cell) → listed c ≡ numbers_of cell → MadeBy text before after s m (run.make text cell)) →
      listed c ≡ numbers_of (Cell.chain items item) → MadeBy text before after s m
      (run.with_cell book text j items item)
  unfolding run.with_cell
  with_made before after items item c y w e h = rw (sym ep ∙ y, run.with_cell) (w (Cell.chain items item) e h)

  pub value_passing : (store : List ℕ) (items : ℕ) → p ≡ true → m ≡ record { limit = 0; cell = items; state = s } →
      MadeBy text store store s m (cell_of_value book text j items)
  unfolding cell_of_value
  value_passing store items y e h = got_in text store s m items _ e (rw (sym ep ∙ y, cell_of_value)) h

  pub value_made : (before after : List ℕ) (items : ℕ) (c : CellNumbers) → p ≡ false →
      ((cell : Cell) → listed c ≡ numbers_of cell → MadeBy text before after s m (run.make text cell)) →
      listed c ≡ numbers_of (Cell.variant j items) → MadeBy text before after s m (cell_of_value book text j items)
  unfolding cell_of_value
  value_made before after items c y w e h = rw (sym ep ∙ y, cell_of_value) (w (Cell.variant j items) e h)

-- ---- What a token adds
module _ (item : Item) (f : ItemFits (Some item)) where
  pub name_fit : (place size : ℕ) → item ≡ Item.Name place size → Fits place × Fits size
  name_fit place size e = rw e at f

  pub variable_fit : (number kind : ℕ) → item ≡ Item.Variable number kind → Fits number × Fits kind
  variable_fit number kind e = rw e at f

-- the numbers of its cell
module _ (item : Item) (l : List ℕ) (i : tokens.Item) (e : item_of (Some item) ≡ Some i) where
  pub item_cell_lem : (k : tokens.Item) → item_of (Some item) ≡ Some k → l ≡ numbers_of (run.item_cell k) →
      l ≡ numbers_of (run.item_cell i)
  item_cell_lem k q h = let p : k ≡ i = cc in rw p at h

  pub item_name : (place size : ℕ) → item ≡ Item.Name place size → l ≡ numbers_of (Cell.name place size) →
      l ≡ numbers_of (run.item_cell i)
  unfolding run.item_cell
  item_name place size q h = item_cell_lem (tokens.Item.name place size) (rw q) h

  pub item_number : (value : ℕ) → item ≡ Item.Number value →
      l ≡ numbers_of (Cell.number (value / 2 ^ 32) (value % 2 ^ 32)) → l ≡ numbers_of (run.item_cell i)
  unfolding run.item_cell
  item_number value q h = item_cell_lem (tokens.Item.number value) (rw q) h

  pub item_variable : (number kind : ℕ) → item ≡ Item.Variable number kind → l ≡ numbers_of (Cell.variable number kind)
      →
      l ≡ numbers_of (run.item_cell i)
  unfolding run.item_cell
  item_variable number kind q h = item_cell_lem (tokens.Item.variable number kind) (rw q) h

  pub item_declared : (depth : DebruijnIndex) (index : VarIndex) → item ≡ Item.Declared depth index →
      l ≡ numbers_of (Cell.declared depth.0 index.0) → l ≡ numbers_of (run.item_cell i)
  unfolding run.item_cell
  item_declared depth index q h = item_cell_lem (tokens.Item.declared depth.0 index.0) (rw q) h

-- an item of the code is one of the definition
some_item : (item : Item) → (P : Type 0) → ((i : tokens.Item) → item_of (Some item) ≡ Some i → P) → P
some_item (Item.Name place size) P f = f (tokens.Item.name place size) refl
some_item (Item.Number value) P f = f (tokens.Item.number value) refl
some_item (Item.Variable number kind) P f = f (tokens.Item.variable number kind) refl
some_item (Item.Declared depth index) P f = f (tokens.Item.declared depth.0 index.0) refl

module _ (book : Book) (text : List ℕ) (j items : ℕ) (o : Option Item) (s : State) where
  pub token_nothing : (store : List ℕ) (m : CellOutcome) → o ≡ None → m ≡ record {
    limit = 0;
    cell = items;
    state = s;
  } →
      MadeBy text store store s m (run.with_token book text j items (item_of o))
  unfolding run.with_token
  token_nothing store m n e h = got_in text store s m items _ e (rw (n, run.with_token)) h

  module _ (before middle : List ℕ) (m : CellOutcome) (c : CellNumbers) (item : Item) (is : o ≡ Some item)
      (w : (cell : Cell) → listed c ≡ numbers_of cell → MadeBy text before middle s m (run.make text cell))
      (e : (i : tokens.Item) → item_of (Some item) ≡ Some i → listed c ≡ numbers_of (run.item_cell i)) where
    pub token_limit : (m.limit ≡ 0 → ⊥) → MadeBy text before middle s m (run.with_token book text j items (item_of o))
    unfolding run.with_token ◌>>=◌
    token_limit l h =
        some_item item _ (λ i q.
        let p = w (run.item_cell i) (e i q) h in
        let made : run.make text (run.item_cell i) (bare s.units (cells_of before s.cells))
        ≡ met m.limit m.state.units =
        sym p.is ∙ cell_met m (cells_of middle m.state.cells) l in
        record {
          is = rw (is, q, made, run.with_token, ◌>>=◌) (cell_met m (cells_of middle m.state.cells) l);
          held = p.held;
        })

    pub token_made : (after : List ℕ) (r : CellOutcome) → m.limit ≡ 0 →
        MadeBy text middle after m.state r (run.with_cell book text j items m.cell) →
        MadeBy text before after s r (run.with_token book text j items (item_of o))
    unfolding run.with_token ◌>>=◌
    token_made after r l k h =
        some_item item _ (λ i q.
        let p = w (run.item_cell i) (e i q) h in
        let made : run.make text (run.item_cell i) (bare s.units (cells_of before s.cells))
        ≡ ok (made m.cell (bare m.state.units (cells_of middle m.state.cells))) =
        sym p.is ∙ cell_ok m (cells_of middle m.state.cells) l in
        rw (is, q, made, run.with_token, ◌>>=◌) (k p.held))

-- ---- The code's results
-- a limit's number is not 0
pub number_there : (l : Limit) → limit_number l ≡ 0 → ⊥
number_there Limit.NoUnit e = absurd (omega (arith, e))
number_there Limit.TooDeep e = absurd (omega (arith, e))
number_there Limit.TooManyParses e = absurd (omega (arith, e))
number_there Limit.TooManyCells e = absurd (omega (arith, e))
number_there Limit.TooManyNames e = absurd (omega (arith, e))

pub cell_there : (r : std.Result ℕ Limit) (l : Limit) (s : State) → r ≡ std.Err l → (cell_of r s).limit ≡ 0 → ⊥
cell_there r l s e = rw e (number_there l)

pub spent_there : (r : std.Result Unit Limit) (l : Limit) (s : State) → r ≡ std.Err l → (spent_of r s).limit ≡ 0 → ⊥
spent_there r l s e = rw e (number_there l)

pub outcome_there : (r : std.Result Failure Limit) (l : Limit) (s : State) → r ≡ std.Err l →
    (outcome_of r s).limit ≡ 0 → ⊥
outcome_there r l s e = rw e (number_there l)

-- the failure of a result, of which a limit has none
pub failure_given : (r : std.Result Failure Limit) (s : State) → result_unwrap_or r None ≡ failure_at (outcome_of r s)
failure_given (std.Ok failure) s = sym (failure_done failure s)
failure_given (std.Err limit) s = refl
