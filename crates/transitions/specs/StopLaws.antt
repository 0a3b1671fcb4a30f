-- Laws of the end of a variant, of a list that stops and of an item that is absent: one for each way through their
-- functions of steps.rt.
--
-- Contents:
-- - the end of a variant: level_fits, parse_of_variant, finish_limit, finish_added, finish_full
-- - a list stops: stops_part, stop_limit, stop_unclosed, stop_closed
-- - an item is absent: omits_part, absent_limit, absent_goes
use Rattle.std.specs.Prelude.{◌≡◌, Bool, true, false, cond, List, ℕ, ◌<◌}
use Rattle.std.proofs.Math.Path.{refl, sym, ap}
use Rattle.std.proofs.Common.{◌∙◌, arith}
use Rattle.std.specs.Prelude.{Option, None, Some}
use Rattle.characters.specs.Skipping.{skip_from}
use Rattle.book.specs.Book.{Book, nth_variant}
use Rattle.book.specs.declared.records.Variant.{Variant}
use Rattle.semantics.specs.Values.{Parse}
use Rattle.semantics.specs.Steps.{closed}
use Rattle.semantics.specs.Errors.{error}
use Rattle.semantics.specs.Cells.{Cell}
use Rattle.semantics.specs.Run as run
use Rattle.semantics.specs.Run.{met, ok, ◌>>=◌, closing_code}
use Rattle.run_model.specs.Rows.{Row}
use Rattle.run_model.specs.Model as model
use Rattle.run_model.specs.Model.{RowState, row_state, outcome, RowGo, RowMade, row_made, makes, cell_of_value}
use Rattle.run_model.specs.Model.{add_run, complete_rows}
use Rattle.run_model.specs.Model.{stops_rows}
use Rattle.sets.specs.Sets.{parse}
use Rattle.calls.specs.Table.{RunAdded}
use Rattle.calls.specs.SettlingLaws.{run_added_model}
use Rattle.errors.specs.Maps.{error_of}
use Rattle.errors.specs.declared.Error as code
use Rattle.transitions.specs.Results.{CellOutcome, Outcome, Reached, done_with, without_failure}
use Rattle.transitions.specs.declared.outcomes.State.{State}
use Rattle.transitions.specs.Fit.{Fit}
use Rattle.transitions.specs.Outcomes.{cells_of, bare, Runs, MadeIn, MadeBy}
use Rattle.transitions.specs.OutcomeLaws.{given_ok, given_met}
use Rattle.transitions.specs.Steps.{omits_rows}
use Rattle.transitions.specs.Steps.{GoPart, GoneFrom}
use Rattle.transitions.specs.Steps.{ended_by, reached_with}
use Rattle.transitions.specs.ResumeLaws.{state_in, bind_met, bind_ok, makes_ok, makes_met}
use Rattle.transitions.specs.ResumeLaws.{goes_met, goes_failed, made_goes}

-- ---- The end of a variant
pub level_fits : (book : Book) (text : List ℕ) (j : ℕ) (w : Variant) → w ≡ nth_variant book j →
    Fit book text → w.level < 4294967296
level_fits book text j w e fit = rw e (fit.levels j)

pub parse_of_variant : (book : Book) (text : List ℕ) (j x v : ℕ) (w : Variant) (p : Parse ℕ) → w ≡ nth_variant book j →
    p ≡ parse x w.level w.associativity v → p ≡ model.variant_parse book text j x v
parse_of_variant book text j x v w p e q = rw e at q

module _ (book : Book) (text before after : List ℕ) (c j x items : ℕ) (s : State) (m : CellOutcome)
    (w : MadeBy text before after s m (cell_of_value book text j items)) (T : List Row) where
  pub finish_limit : (r : Outcome) → (m.limit ≡ 0 → ⊥) → r ≡ without_failure m.limit m.state →
      Runs text before s.cells after T r (λ cells. complete_rows book text c j x items (row_state s.units cells T))
  unfolding complete_rows
  finish_limit r l e h =
      let v = w h in
      rw e (record {
        is = given_met (without_failure m.limit m.state) (cells_of after m.state.cells) T l
            ∙ sym (bind_met _
            (makes_met text after m (cell_of_value book text j items) s.units (cells_of before s.cells) v T l));
        held = v.held;
      })

  module _ (U : List Row) (b : Bool) (p : Parse ℕ) (q : p ≡ model.variant_parse book text j x m.cell)
      (a : RunAdded b T U c p) (l : m.limit ≡ 0) where
    completed : (v : MadeIn text after m (cell_of_value book text j items (bare s.units (cells_of before s.cells)))) →
        complete_rows book text c j x items (row_state s.units (cells_of before s.cells) T)
        ≡ cond b (ok (outcome None (state_in m.state after U))) (met 22 m.state.units)
    unfolding complete_rows
    completed v =
        bind_ok _ (makes_ok text after m (cell_of_value book text j items) s.units (cells_of before s.cells) v T l)
        ∙ ap (λ p. add_run book text c p (state_in m.state after T)) (sym q)
        ∙ run_added_model b T U c p a book text m.state.units (cells_of after m.state.cells)

    pub finish_added : (r : Outcome) → b ≡ true → r ≡ done_with None m.state →
        Runs text before s.cells after U r
        (λ cells. complete_rows book text c j x items (row_state s.units cells T))
    finish_added r y e h =
        let v = w h in
        rw e (record {
          is = given_ok (done_with None m.state) (cells_of after m.state.cells) U refl
              ∙ sym (rw y at (completed v));
          held = v.held;
        })

    pub finish_full : (r : Outcome) → b ≡ false → r ≡ without_failure 22 m.state →
        Runs text before s.cells after U r
        (λ cells. complete_rows book text c j x items (row_state s.units cells T))
    finish_full r y e h =
        let v = w h in
        rw e (record {
          is = given_met (without_failure 22 m.state) (cells_of after m.state.cells) U (λ z. omega (arith, z))
              ∙ sym (rw y at (completed v));
          held = v.held;
        })

-- ---- A list stops
module _ (book : Book) (text : List ℕ) (j values : ℕ) (close : Option ℕ) (go : RowGo) (x items : ℕ) (s : RowState)
    (l : RowMade) (e : makes (run.make text (Cell.list values)) s ≡ ok l) where
  stops_unclosed : closed text close x ≡ None →
      stops_rows book text j values close go x items s
      ≡ ok (outcome (Some (error (skip_from text x) 1 (closing_code close))) l.state)
  unfolding stops_rows ◌>>=◌
  stops_unclosed n = rw (e, stops_rows, ◌>>=◌) (rw n)

  stops_closed : (y : ℕ) → closed text close x ≡ Some y →
      stops_rows book text j values close go x items s
      ≡ (makes (run.with_cell book text j items l.cell) l.state >>= (λ m. go y m.cell m.state))
  unfolding stops_rows ◌>>=◌
  stops_closed y n = rw (e, stops_rows, ◌>>=◌) (rw n)

-- the list's part of the model
abbrev pub stops_part : Book → List ℕ → ℕ → ℕ → Option ℕ → ℕ → ℕ → GoPart
stops_part book text j values closing at items go s =
    stops_rows book text j values closing go at items s

module _ (book : Book) (text before middle : List ℕ) (j values : ℕ) (closing : Option ℕ) (at items : ℕ) (s : State)
    (m : CellOutcome) (w : MadeBy text before middle s m (run.make text (Cell.list values))) where
  pub stop_limit : (g : Reached) → (m.limit ≡ 0 → ⊥) → g ≡ reached_with m 0 →
      GoneFrom text before s middle g (stops_part book text j values closing at items)
  unfolding stops_rows
  stop_limit g l e h =
      let v = w h in
      rw e (record {
        is = λ go T.
            goes_met (λ s. go 0 m.cell s) (without_failure m.limit m.state) (cells_of middle m.state.cells) T
            l
            ∙ sym (bind_met _
            (makes_met text middle m (run.make text (Cell.list values)) s.units (cells_of before s.cells) v T l));
        held = v.held;
      })

  module _ (l : m.limit ≡ 0) (end : Option ℕ) (ee : end ≡ closed text closing at) where
    pub stop_unclosed : (g : Reached) (e : code.Error) (o : Outcome) → end ≡ None →
        error_of e ≡ error (skip_from text at) 1 (closing_code closing) →
        o ≡ done_with (Some e) m.state → g ≡ ended_by o →
        GoneFrom text before s middle g (stops_part book text j values closing at items)
    stop_unclosed g e o n d eo q h =
        let v = w h in
        rw (q, eo) (record {
          is = λ go T.
              goes_failed (λ s. go 0 0 s) e m.state (cells_of middle m.state.cells) T
              ∙ ap (λ z. ok (outcome (Some z) (state_in m.state middle T))) d
              ∙ sym (stops_unclosed book text j values closing go
              at items (row_state s.units (cells_of before s.cells) T)
              (row_made m.cell (state_in m.state middle T))
              (makes_ok text middle m (run.make text (Cell.list values)) s.units (cells_of before s.cells) v T l)
              (sym ee ∙ n));
          held = v.held;
        })

    pub stop_closed : (after : List ℕ) (g : Reached) (r : CellOutcome) (next : ℕ) → end ≡ Some next →
        MadeBy text middle after m.state r (run.with_cell book text j items m.cell) →
        g ≡ reached_with r next → GoneFrom text before s after g (stops_part book text j values closing at items)
    stop_closed after g r next n k q h =
        let v = w h in
        let u = k v.held in
        rw q (record {
          is = λ go T.
              made_goes (λ s. go next r.cell s) text after r (run.with_cell book text j items m.cell)
              m.state.units (cells_of middle m.state.cells) u T (λ b. go next b.cell b.state) refl
              ∙ sym (stops_closed book text j values closing go
              at items (row_state s.units (cells_of before s.cells) T)
              (row_made m.cell (state_in m.state middle T))
              (makes_ok text middle m (run.make text (Cell.list values)) s.units (cells_of before s.cells) v T l)
              next (sym ee ∙ n));
          held = u.held;
        })

-- ---- An item is absent
abbrev pub omits_part : Book → List ℕ → ℕ → ℕ → ℕ → GoPart
omits_part book text j at items go s = omits_rows book text j go at items s

module _ (book : Book) (text before middle : List ℕ) (j at items : ℕ) (s : State) (m : CellOutcome)
    (w : MadeBy text before middle s m (run.make text Cell.absent)) where
  pub absent_limit : (g : Reached) → (m.limit ≡ 0 → ⊥) → g ≡ reached_with m 0 →
      GoneFrom text before s middle g (omits_part book text j at items)
  unfolding omits_rows
  absent_limit g l e h =
      let v = w h in
      rw e (record {
        is = λ go T.
            goes_met (λ s. go 0 m.cell s) (without_failure m.limit m.state) (cells_of middle m.state.cells) T
            l
            ∙ sym (bind_met _
            (makes_met text middle m (run.make text Cell.absent) s.units (cells_of before s.cells) v T l));
        held = v.held;
      })

  pub absent_goes : (after : List ℕ) (g : Reached) (r : CellOutcome) → m.limit ≡ 0 →
      MadeBy text middle after m.state r (run.with_cell book text j items m.cell) →
      g ≡ reached_with r at → GoneFrom text before s after g (omits_part book text j at items)
  unfolding omits_rows
  absent_goes after g r l k e h =
      let v = w h in
      let u = k v.held in
      rw e (record {
        is = λ go T.
            made_goes (λ s. go at r.cell s) text after r (run.with_cell book text j items m.cell)
            m.state.units (cells_of middle m.state.cells) u T (λ b. go at b.cell b.state) refl
            ∙ sym (bind_ok _
            (makes_ok text middle m (run.make text Cell.absent) s.units (cells_of before s.cells) v T l));
        held = u.held;
      })
