-- Laws of the names of an opening: one for each way through the functions of names.rt.
--
-- Contents:
-- - the body's scope opens: open_ended, open_room, open_full
-- - a name: behind_goes, behind_halts; kind_cell, place-fits, size-fits; declare_missing, declare_limit,
--   declare_chain_limit, declare_on
use Rattle.std.specs.Prelude.{◌≡◌, Bool, true, false, List, [], ◌∷◌, ◌++◌, ℕ, suc, ◌+◌, ◌-◌, ◌/◌, ◌%◌, ◌<◌, ◌≤◌, leb}
use Rattle.std.specs.Prelude.{length}
use Rattle.std.proofs.Math.Path.{refl}
use Rattle.std.proofs.Common.{sym, ap, subst, ◌∙◌, arith}
use Rattle.std.specs.Prelude.{Option, None, Some, Result, Ok, Err}
use Rattle.characters.specs.Skipping.{skip_from}
use Rattle.book.specs.Book.{Book, Entry}
use Rattle.semantics.specs.Tokens.{declaration_at}
use Rattle.semantics.proofs.Theorem.Tokens.{declared_kind}
use Rattle.semantics.specs.Steps.{Todo, After, goes, halts, naming, closing, after_element, closed}
use Rattle.semantics.specs.Cells.{Cell, numbers_of}
use Rattle.cells.specs.Store.{listed}
use Rattle.cells.specs.declared.numbers.CellNumbers.{CellNumbers}
use Rattle.semantics.specs.Run as run
use Rattle.semantics.specs.Run.{met, ◌>>=◌, make, closing_code, declared_names}
use Rattle.run_model.specs.Rows.{Row, declared, on_row, scope_in}
use Rattle.run_model.proofs.Named.{names_with}
use Rattle.run_model.specs.Model as model
use Rattle.run_model.specs.Model.{RowState, row_state, outcome, RowRunner, RowMade, row_made, makes, name_place}
use Rattle.run_model.specs.Model.{with_declared}
use Rattle.run_model.specs.Model.{stops_rows, open_rows, body_rows, opens_rows}
use Rattle.errors.specs.declared.Error as code
use Rattle.tokens.specs.Maps.{after_of}
use Rattle.tokens.specs.Declarations.{Declares, name_read, name_place_within, name_within}
use Rattle.tokens.specs.declared.declarations.Declaration.{Declaration}
use Rattle.tokens.specs.declared.steps.After as codeAfter
use Rattle.transitions.specs.Results.{CellOutcome, Named, Outcome, Reached, done_with, without_failure}
use Rattle.transitions.specs.declared.outcomes.State.{State}
use Rattle.transitions.specs.declared.stages.Names.{Names}
use Rattle.transitions.specs.declared.stages.Next.{Next}
use Rattle.transitions.specs.declared.stages.Progress.{Progress}
use Rattle.transitions.specs.Outcomes.{cells_of, Held, given, goes_on, MadeBy}
use Rattle.transitions.specs.Steps.{ended_by, goes_with, descends_rows, next_rows, GoneFrom}
use Rattle.transitions.specs.StopLaws.{stops_part}
use Rattle.transitions.specs.Names.{names_at, OpensFrom, not_named, after_name, IsNamed, behind_name, declaring_rows}
use Rattle.transitions.specs.Names.{DeclaresFrom}
use Rattle.transitions.specs.ResumeLaws.{state_in, bind_met, bind_ok, makes_ok, makes_met, goes_met, goes_further}
use Rattle.transitions.specs.ResumeLaws.{goes_failed, goes_nowhere, goes_there}

-- ---- The body's scope opens
-- the names stop as a list does, and then their scope opens
module _ (book : Book) (text : List ℕ) (inner : Option RowRunner) (n c j : ℕ) (rest : List (Todo ℕ)) (l : List Entry)
    (M : ℕ) where
  abbrev enters : ℕ → ℕ → RowState → run.Result model.Outcome
  enters x items s = descends_rows book text inner n c j rest (Some l) Next.Steps M x items s

  abbrev opens : ℕ → ℕ → RowState → run.Result model.Outcome
  opens x items s = open_rows book text inner n (Some l) c s >>= (λ t. enters x items t)

  opens_stops : (kinds close x items : ℕ) (s : RowState) →
      stops_rows book text j kinds (Some close) opens x items s
      ≡ opens_rows book text inner n c j l kinds close M rest x items s
  unfolding stops_rows opens_rows body_rows descends_rows next_rows closed closing_code
  opens_stops kinds close x items s = refl

  module _ (x items units : ℕ) (cells : List Cell) (T : List Row) (room : Bool)
      (e : room ≡ leb (length l + declared_names (scope_in text T c)) 64) where
    opens_room : room ≡ true → opens x items (row_state units cells T) ≡ enters x items (row_state units cells T)
    unfolding open_rows ◌>>=◌
    opens_room h = rw (sym e ∙ h, open_rows, ◌>>=◌)

    opens_full : room ≡ false → opens x items (row_state units cells T) ≡ met 41 units
    unfolding open_rows ◌>>=◌
    opens_full h = rw (sym e ∙ h, open_rows, ◌>>=◌)

module _ (book : Book) (text before after : List ℕ) (T : List Row) (here : Progress) (names : Names) (s : State)
    (r : Reached) (w : GoneFrom text before s after r
    (stops_part book text here.variant names.kinds (Some names.closing) here.place
    here.items)) where
  pub open_ended : goes_on r.outcome ≡ false → OpensFrom book text before after T here names s r
  open_ended h held =
      let u = w held in
      record {
        is = λ inner n rest l few.
            goes_nowhere _ r.outcome (cells_of after r.outcome.state.cells) T h
            ∙ sym (goes_nowhere _ r.outcome (cells_of after r.outcome.state.cells) T h)
            ∙ u.is (opens book text inner n here.call here.variant rest l names.body) T
            ∙ opens_stops book text inner n here.call here.variant rest l names.body names.kinds
            names.closing here.place here.items (row_state s.units (cells_of before s.cells) T);
        held = u.held;
      }

  module _ (h : goes_on r.outcome ≡ true) (room : Bool)
      (e : room ≡ leb (names.count + declared_names (scope_in text T here.call)) 64) where
    pub open_room : room ≡ true → OpensFrom book text before after T here names s r
    open_room y held =
        let u = w held in
        let cells = cells_of after r.outcome.state.cells in
        record {
          is = λ inner n rest l few.
              goes_there _ r.outcome cells T h
              ∙ sym (opens_room book text inner n here.call here.variant rest l names.body r.place
              r.items r.outcome.state.units cells T room (rw few e) y)
              ∙ sym (goes_there _ r.outcome cells T h)
              ∙ u.is (opens book text inner n here.call here.variant rest l names.body) T
              ∙ opens_stops book text inner n here.call here.variant rest l names.body names.kinds
              names.closing here.place here.items (row_state s.units (cells_of before s.cells) T);
          held = u.held;
        }

    pub open_full : (o : Outcome) (g : Reached) → room ≡ false → o ≡ without_failure 41 r.outcome.state →
        g ≡ ended_by o → OpensFrom book text before after T here names s g
    open_full o g y eo eg held =
        let u = w held in
        let cells = cells_of after r.outcome.state.cells in
        rw (eg, eo) (record {
          is = λ inner n rest l few.
              goes_met _ (without_failure 41 r.outcome.state) cells T (λ z. omega (arith, z))
              ∙ sym (opens_full book text inner n here.call here.variant rest l names.body r.place
              r.items r.outcome.state.units cells T room (rw few e) y)
              ∙ sym (goes_there _ r.outcome cells T h)
              ∙ u.is (opens book text inner n here.call here.variant rest l names.body) T
              ∙ opens_stops book text inner n here.call here.variant rest l names.body names.kinds
              names.closing here.place here.items (row_state s.units (cells_of before s.cells) T);
          held = u.held;
        })

-- ---- A name
-- where the list of names is behind one
module _ (text : List ℕ) (end kinds : ℕ) (s : State) (o : Outcome) (eo : o ≡ done_with None s)
    (a : codeAfter.After) (ea : after_of a ≡ after_element text true end) (y : ℕ) where
  pub behind_goes : a ≡ codeAfter.After.Goes y →
      IsNamed text end kinds s (record { outcome = o; place = y; kinds = kinds; comma = true })
  behind_goes e = record { outcome = eo; kinds = refl; after = sym (ap after_of e) ∙ ea }

  pub behind_halts : a ≡ codeAfter.After.Halts y →
      IsNamed text end kinds s (record { outcome = o; place = y; kinds = kinds; comma = false })
  behind_halts e = record { outcome = eo; kinds = refl; after = sym (ap after_of e) ∙ ea }

-- what was read fits into 32 bits
pub kind_cell : (kind : ℕ) (numbers : List ℕ) → kind < 8 →
    numbers ≡ numbers_of (Cell.number (kind / 4294967296) (kind % 4294967296)) →
    numbers ≡ numbers_of (Cell.number 0 kind)
kind_cell kind numbers h e =
    let high : kind / 4294967296 ≡ 0 = omega arith in
    let low : kind % 4294967296 ≡ kind = omega arith in
    rw (high, low) at e

module _ (book : Book) (text : List ℕ) (at : ℕ) (found : Result Declaration code.Error)
    (w : Declares book text at found) (d : Declaration) (is : found ≡ Ok d) where
  known : Declares book text at (Ok d)
  known = rw is at w

  pub kind_few : d.kind < 8
  kind_few = declared_kind book text at _ known.0

  pub place_inside : d.place ≤ length text
  place_inside = rw known.1 at (name_place_within book text at)

  pub end_inside : d.end ≤ length text
  end_inside = name_within book text at _ known.0

  pub declares_there : declaration_at book text at ≡ Some (name_read text d.kind d.place d.end)
  declares_there = known.0

  pub name_there : name_place book text at ≡ d.place
  name_there = known.1

-- nothing is declared there
pub declare_missing : (book : Book) (text before : List ℕ) (T : List Row) (n : ℕ) (here : Progress) (names : Names)
    (s : State) (at : ℕ) (found : Result Declaration code.Error) (e : code.Error) (o : Outcome) (r : Named) →
    at ≡ skip_from text here.place → Declares book text at found → found ≡ Err e →
    o ≡ done_with (Some e) s → r ≡ not_named o → DeclaresFrom book text before before T T n here names s r
unfolding declaring_rows
declare_missing book text before T n here names s at found e o r skips d is eo er held =
    let missing : Declares book text (skip_from text here.place) (Err e) = rw (is, skips) at d in
    rw (er, eo) (record {
      is = λ inner rest run.
          goes_failed _ e s (cells_of before s.cells) T
          ∙ rw (missing.0, declaring_rows, missing.1);
      held = held;
    })

-- a name is there, and row n keeps it; `size` is the length of its spelling, and `numbers` are those of its kind's cell
module _ (book : Book) (text before middle : List ℕ) (T U : List Row) (n : ℕ) (here : Progress) (names : Names)
    (s : State) (at : ℕ) (skips : at ≡ skip_from text here.place) (found : Result Declaration code.Error)
    (declares : Declares book text at found) (d : Declaration) (is : found ≡ Ok d) (size : ℕ)
    (es : size ≡ d.end - d.place) (stored : U ≡ on_row T n (declared d.kind d.place size)) (k : CellOutcome)
    (numbers : CellNumbers)
    (en : listed numbers ≡ numbers_of (Cell.number (d.kind / 4294967296) (d.kind % 4294967296)))
    (made : (cell : Cell) → listed numbers ≡ numbers_of cell → MadeBy text before middle s k (make text cell)) where
  there : declaration_at book text (skip_from text here.place) ≡ Some (name_read text d.kind d.place d.end)
  there = rw skips at (declares_there book text at found declares d is)

  stands : name_place book text (skip_from text here.place) ≡ d.place
  stands = rw skips at (name_there book text at found declares d is)

  keeps : U ≡ on_row T n (declared d.kind d.place (d.end - d.place))
  keeps = rw es at stored

  w : MadeBy text before middle s k (make text (Cell.number 0 d.kind))
  w =
      made (Cell.number 0 d.kind)
      (kind_cell d.kind (listed numbers) (kind_few book text at found declares d is) en)

  -- what runs behind the name, and the model of the whole
  abbrev next : Option RowRunner → List (Todo ℕ) → RowRunner → Named → RowState → run.Result model.Outcome
  next inner rest run r t =
      run here.call here.variant
      (behind_name r.comma (names_at text U (n - 1) (names.count + 1)) r.kinds names.closing names.body ∷
      rest) r.place here.items t

  abbrev whole : Option RowRunner → List (Todo ℕ) → RowRunner → RowState → run.Result model.Outcome
  whole inner rest run t =
      declaring_rows book text inner n here.call here.variant rest run (names_at text T n names.count)
      names.kinds names.closing names.body here.place here.items t

  abbrev behind : Option RowRunner → List (Todo ℕ) → RowRunner → After → RowMade → run.Result model.Outcome
  behind inner rest run a m =
      let name = name_read text d.kind d.place d.end in
      let more = names_at text T n names.count ++ (name.value ∷ []) in
      let t = with_declared book text inner n (skip_from text here.place) name m.state in
      elim a [
        | goes y ↦
            run here.call here.variant (naming more m.cell names.closing names.body ∷ rest) y
            here.items t
        | halts y ↦
            run here.call here.variant (closing more m.cell names.closing names.body ∷ rest) y
            here.items t
      ]

  whole_there : (inner : Option RowRunner) (rest : List (Todo ℕ)) (run : RowRunner) (t : RowState) →
      whole inner rest run t
      ≡ (makes (make text (Cell.number 0 d.kind)) t >>= (λ k.
      makes (make text (Cell.chain names.kinds k.cell)) k.state >>= (λ m.
      behind inner rest run (after_element text true d.end) m)))
  unfolding declaring_rows
  whole_there inner rest run t = rw (there, declaring_rows)

  pub declare_limit : (o : Outcome) (r : Named) → (k.limit ≡ 0 → ⊥) → o ≡ without_failure k.limit k.state →
      r ≡ not_named o → DeclaresFrom book text before middle T U n here names s r
  declare_limit o r l eo er held =
      let v = w held in
      rw (er, eo) (record {
        is = λ inner rest run.
            goes_met _ (without_failure k.limit k.state) (cells_of middle k.state.cells) U l
            ∙ sym (whole_there inner rest run (row_state s.units (cells_of before s.cells) T)
            ∙ bind_met _
            (makes_met text middle k (make text (Cell.number 0 d.kind)) s.units (cells_of before s.cells) v T l));
        held = v.held;
      })

  module _ (after : List ℕ) (lk : k.limit ≡ 0) (m : CellOutcome)
      (z : MadeBy text middle after k.state m (make text (Cell.chain names.kinds k.cell))) where
    -- the kind's cell is made
    whole_kind : Held text before s.cells → (inner : Option RowRunner) (rest : List (Todo ℕ)) (run : RowRunner) →
        whole inner rest run (row_state s.units (cells_of before s.cells) T)
        ≡ (makes (make text (Cell.chain names.kinds k.cell)) (state_in k.state middle T)
        >>= (λ m. behind inner rest run (after_element text true d.end) m))
    whole_kind held inner rest run =
        whole_there inner rest run (row_state s.units (cells_of before s.cells) T)
        ∙ bind_ok _ (makes_ok text middle k (make text (Cell.number 0 d.kind)) s.units (cells_of before s.cells)
        (w held) T lk)

    pub declare_chain_limit : (o : Outcome) (r : Named) → (m.limit ≡ 0 → ⊥) →
        o ≡ without_failure m.limit m.state → r ≡ not_named o →
        DeclaresFrom book text before after T U n here names s r
    declare_chain_limit o r l eo er held =
        let v = z (w held).held in
        rw (er, eo) (record {
          is = λ inner rest run.
              goes_met _ (without_failure m.limit m.state) (cells_of after m.state.cells) U l
              ∙ sym (whole_kind held inner rest run ∙ bind_met _
              (makes_met text after m (make text (Cell.chain names.kinds k.cell)) k.state.units
              (cells_of middle k.state.cells) v T l));
          held = v.held;
        })

    module _ (lm : m.limit ≡ 0) (positive : 0 < n) (low : n ≤ 200) (rows : length T ≡ 201) where
      -- the names with the new one are those of the rows
      names_more : names_at text U (n - 1) (names.count + 1)
          ≡ names_at text T n names.count ++ ((name_read text d.kind d.place d.end).value ∷ [])
      names_more =
          let e : n ≡ suc (n - 1) = omega arith in
          let one : names.count + 1 ≡ suc names.count = omega arith in
          let row : on_row T n (declared d.kind d.place (d.end - d.place)) ≡ U = sym keeps in
          subst (λ i. on_row T i (declared d.kind d.place (d.end - d.place)) ≡ U →
          names_at text U (n - 1) (names.count + 1)
          ≡ names_at text T i names.count ++ ((name_read text d.kind d.place d.end).value ∷ [])) (sym e)
          (λ q. ap (λ i. names_at text U (n - 1) i) one
          ∙ ap (λ W. names_at text W (n - 1) (suc names.count)) (sym q)
          ∙ ap (λ p. names_at text (on_row T (suc (n - 1)) (declared d.kind p (d.end - p))) (n - 1) (suc names.count))
          (sym stands)
          ∙ names_with book text T names.count (n - 1) (skip_from text here.place) (name_read text d.kind d.place d.end)
          (omega arith) rows there) row

      -- the row of the model keeps the name
      kept : (inner : Option RowRunner) →
          with_declared book text inner n (skip_from text here.place) (name_read text d.kind d.place d.end)
          (state_in m.state after T)
          ≡ state_in m.state after U
      kept inner =
          ap (λ p. row_state m.state.units (cells_of after m.state.cells) (on_row T n (declared d.kind p (d.end - p))))
          stands
          ∙ ap (λ W. row_state m.state.units (cells_of after m.state.cells) W) (sym keeps)

      on_behind : (inner : Option RowRunner) (rest : List (Todo ℕ)) (run : RowRunner) (comma : Bool) (y : ℕ) →
          run here.call here.variant
          (behind_name comma (names_at text U (n - 1) (names.count + 1)) m.cell names.closing names.body ∷
          rest) y here.items (state_in m.state after U)
          ≡ behind inner rest run (after_name comma y) (row_made m.cell (state_in m.state after T))
      on_behind inner rest run true y = rw (names_more, kept inner)
      on_behind inner rest run false y = rw (names_more, kept inner)

      pub declare_on : (r : Named) → IsNamed text d.end m.cell m.state r →
          DeclaresFrom book text before after T U n here names s r
      declare_on r named held =
          let v = z (w held).held in
          record {
            is = λ inner rest run.
                ap (λ o. goes_with (λ t. next inner rest run r t) (given o (cells_of after o.state.cells) U))
                named.outcome
                ∙ goes_further _ 0 m.state (cells_of after m.state.cells) U refl
                ∙ ap (λ kinds. run here.call here.variant
                (behind_name r.comma (names_at text U (n - 1) (names.count + 1)) kinds names.closing
                names.body ∷ rest) r.place here.items (state_in m.state after U)) named.kinds
                ∙ on_behind inner rest run r.comma r.place
                ∙ ap (λ a. behind inner rest run a (row_made m.cell (state_in m.state after T))) named.after
                ∙ sym (whole_kind held inner rest run ∙ bind_ok _
                (makes_ok text after m (make text (Cell.chain names.kinds k.cell)) k.state.units
                (cells_of middle k.state.cells) v T lm));
            held = rw named.outcome v.held;
          }
