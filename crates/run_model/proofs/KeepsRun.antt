-- What lists and steps leave of the rows (`keeps_steps`), and so the runners (`keeps_runner`), by recursion on the
-- levels left. It rests on KeepsCalls and KeepsBinders. Scaffolding: no definition of document 01.
use Rattle.std.specs.Prelude.{◌≡◌, refl, Bool, length}
use Rattle.std.proofs.Common.{◌∙◌, arith}
use Rattle.std.proofs.Math.Bool.{true, false}
use mathlib.Core.List.{List, [], ◌∷◌}
use Rattle.std.specs.Prelude.{Option, None}
use Prim.Native.Nat.{ℕ, zero, suc, ◌<◌, ◌≤◌}
use Rattle.characters.specs.Classes.{between}
use Rattle.characters.specs.Skipping.{skip_from}
use Rattle.book.specs.Book.{Book, step_number}
use Rattle.book.specs.declared.records.Step.{Step}
use Rattle.semantics.specs.Tokens.{when}
use Rattle.semantics.specs.Steps.{step_at, closed, Todo, taking, elements, ending, naming, closing}
use Rattle.semantics.specs.Cells.{Cell}
use Rattle.semantics.specs.Run.{Result, ok, ◌>>=◌}
use Rattle.run_model.specs.Rows.{with_child, with_run, row_of, on_row, scope_in}
use Rattle.run_model.specs.Model.{RowState, row_state, Outcome, RowRunner, RowGo, RowNext, spend_rows, add_run}
use Rattle.run_model.specs.Model.{complete_rows, plain_next_rows, list_next_rows, stops_rows, step_unit_rows, or_child}
use Rattle.run_model.specs.Model.{or_absent_rows, choice_rows, listing_rows, steps_rows, runner_rows}
use Rattle.run_model.proofs.Keeps.{KeepsAt, at_refl, at_then, at_put, On, on_ok, on_bind, on_map, on_any}
use Rattle.run_model.proofs.Keeps.{on_option, on_taken, on_makes, on_spend, Beside, Calls, Keeping, Inner, last}
use Rattle.run_model.proofs.Keeps.{more}
use Rattle.run_model.proofs.KeepsCalls.{KeepsNext, KeepsGo, keeps_plain_next, keeps_list_next, keeps_child}
use Rattle.run_model.proofs.KeepsCalls.{child_leaves, keeps_followed}
use Rattle.run_model.proofs.KeepsBinders.{keeps_body, keeps_opens, keeps_name_choice}

-- ---- Lists, and an optional child
module _ (book : Book) (text : List ℕ) (n c : ℕ) where
  pub keeps_stops : (j values : ℕ) (close : Option ℕ) (go : RowGo) → KeepsGo n c go →
      KeepsGo n c (stops_rows book text j values close go)
  unfolding stops_rows
  keeps_stops j values close go g x items s h =
      let Q = Beside c (suc n) s.rows in
      on_makes Q _ s _
      (λ cell units cells. on_option Q (closed text close x) _ _ (on_ok Q at_refl)
      (λ y. on_makes Q _ (row_state units cells s.rows) _ (λ cell₁ units₁ cells₁.
      g y cell₁ (row_state units₁ cells₁ s.rows) h)))

module _ (book : Book) (text : List ℕ) (n : ℕ) (inner : Option RowRunner) (inners : Inner n inner) (room : n ≤ 200)
    (c : ℕ) (below : n < c) (within : c ≤ 200) where
  pub keeps_or_child : (M : ℕ) (next : RowNext) → KeepsNext n c next → (x : ℕ) (a : Outcome) →
      length a.state.rows ≡ 201 → On (Beside c (suc n) a.state.rows) (or_child book text inner n c M next x a)
  unfolding or_child
  keeps_or_child M next f x a h =
      let T = a.state.rows in
      let Q = Beside c (suc n) T in
      on_bind (Calls n (on_row T c (with_child (skip_from text x)))) Q _ _
      (keeps_child book text n inner inners room c below within None M x a.state h)
      (λ r k.
      let d : KeepsAt c (suc n) T r.state.rows =
      child_leaves book text n inner inners room c below within x T r.state.rows h k in
      on_bind (Beside c (suc n) r.state.rows) Q _ _
      (keeps_followed book text n inner inners room c below within next f r (d.size ∙ h))
      (λ b l. on_ok Q (at_then d l)))

  pub keeps_or_absent : (j M : ℕ) (rest : List (Todo ℕ)) (go : RowGo) → KeepsGo n c go →
      KeepsGo n c (or_absent_rows book text inner n c j M rest go)
  unfolding or_absent_rows
  keeps_or_absent j M rest go g x items s h =
      let Q = Beside c (suc n) s.rows in
      on_makes Q _ s _
      (λ cell units cells. on_makes Q _ (row_state units cells s.rows) _
      (λ cell₁ units₁ cells₁. on_bind Q Q _ _ (g x cell₁ (row_state units₁ cells₁ s.rows) h)
      (λ a k. on_map (Beside c (suc n) a.state.rows) Q _
      (keeps_or_child M (plain_next_rows book text c j rest items)
      (keeps_plain_next book text n c below within j rest items) x a (k.size ∙ h))
      (λ b l. at_then k l))))

  pub keeps_choice : (j : ℕ) (comma : Bool) (M values : ℕ) (close : Option ℕ) (rest : List (Todo ℕ)) (go : RowGo) →
      KeepsGo n c go → KeepsGo n c (choice_rows book text inner n c j comma M values close rest go)
  unfolding choice_rows
  keeps_choice j comma M values close rest go g x items s h =
      let Q = Beside c (suc n) s.rows in
      on_spend Q s _
      (λ units cells. on_bind Q Q _ _ (keeps_stops book text n c j values close go g x items
      (row_state units cells s.rows) h)
      (λ a k. on_map (Beside c (suc n) a.state.rows) Q _
      (keeps_or_child M (list_next_rows book text c j comma M values close rest items)
      (keeps_list_next book text n c below within j comma M values close rest items) x a (k.size ∙ h))
      (λ b l. at_then k l)))

  pub keeps_listing : (j : ℕ) (comma : Bool) (M : ℕ) (close : Option ℕ) (rest : List (Todo ℕ)) (go : RowGo) →
      KeepsGo n c go → KeepsGo n c (listing_rows book text inner n c j comma M close rest go)
  unfolding listing_rows
  keeps_listing j comma M close rest go g x items s h =
      on_makes (Beside c (suc n) s.rows) _ s _
      (λ cell units cells. keeps_choice j comma M cell close rest go g x items (row_state units cells s.rows) h)

  -- ---- Steps
  keeps_complete : (j : ℕ) → KeepsGo n c (λ x items s. complete_rows book text c j x items s)
  unfolding complete_rows add_run
  keeps_complete j x items s h =
      let Q = Beside c (suc n) s.rows in
      on_makes Q _ s _
      (λ cell units cells. on_any Q _ _ (λ more.
      on_ok Q (at_put c (suc n) s.rows (with_run more (row_of s.rows c)) (omega arith) refl)))

  on_unit : {A : Type 0} (Q : A → Type 0) (step : Step) (s : RowState) (K : RowState → Result A) →
      ((units : ℕ) (cells : List Cell) → On Q (K (row_state units cells s.rows))) →
      On Q (step_unit_rows book text inner n step s >>= K)
  unfolding step_unit_rows ◌>>=◌
  on_unit Q step s K h = by (between 10 11 (step_number step))
    where
      by : (b : Bool) → On Q (when b (λ _. ok s) (λ _. spend_rows s) >>= K)
      by true = h s.units s.cells
      by false = on_spend Q s K h

  -- one step, with what is left behind it
  keeps_step : (j : ℕ) (step : Step) (rest : List (Todo ℕ)) →
      KeepsGo n c (λ x items s. steps_rows book text inner n c j rest x items s) →
      KeepsGo n c (λ x items s. steps_rows book text inner n c j (taking step ∷ rest) x items s)
  unfolding steps_rows
  keeps_step j step rest g x items s h =
      let Q = Beside c (suc n) s.rows in
      on_unit Q step s _
      (λ units cells. on_taken Q (step_at book text (scope_in text s.rows c) step x) _ _ _ _ _ _ _ _
      (on_ok Q at_refl)
      (λ t. on_makes Q _ (row_state units cells s.rows) _ (λ cell units₁ cells₁.
      g t.next cell (row_state units₁ cells₁ s.rows) h))
      (λ M.
      on_bind (Calls n (on_row s.rows c (with_child (skip_from text x)))) Q _ _
      (keeps_child book text n inner inners room c below within None M x (row_state units cells s.rows) h)
      (λ r k.
      let d : KeepsAt c (suc n) s.rows r.state.rows =
      child_leaves book text n inner inners room c below within x s.rows r.state.rows h k in
      on_map (Beside c (suc n) r.state.rows) Q _
      (keeps_followed book text n inner inners room c below within (plain_next_rows book text c j rest items)
      (keeps_plain_next book text n c below within j rest items) r (d.size ∙ h))
      (λ b l. at_then d l)))
      (λ M.
      keeps_or_absent j M rest (steps_rows book text inner n c j rest) g x items (row_state units cells s.rows) h)
      (λ comma M close y.
      keeps_listing j comma M close rest (steps_rows book text inner n c j rest) g y items
      (row_state units cells s.rows) h)
      (λ y. on_makes Q _ (row_state units cells s.rows) _
      (λ cell units₁ cells₁.
      keeps_stops book text n c j cell None (steps_rows book text inner n c j rest) g y items
      (row_state units₁ cells₁ s.rows) h))
      (λ close M y. on_makes Q _ (row_state units cells s.rows) _
      (λ cell units₁ cells₁.
      keeps_name_choice book text n inner inners room c below within j [] cell close M rest y items
      (row_state units₁ cells₁ s.rows) h))
      (λ M. on_makes Q _ (row_state units cells s.rows) _
      (λ cell units₁ cells₁. keeps_body book text n inner inners room c below within None j M cell rest x items
      (row_state units₁ cells₁ s.rows) h)))

  pub keeps_steps : (j : ℕ) (todo : List (Todo ℕ)) →
      KeepsGo n c (λ x items s. steps_rows book text inner n c j todo x items s)
  unfolding steps_rows
  keeps_steps j [] x items s h = keeps_complete j x items s h
  keeps_steps j (taking step ∷ rest) x items s h =
      keeps_step j step rest (λ x items s h. keeps_steps j rest x items s h) x items s h
  keeps_steps j (elements comma M values close ∷ rest) x items s h =
      keeps_choice j comma M values close rest (steps_rows book text inner n c j rest)
      (λ x items s h. keeps_steps j rest x items s h) x items s h
  keeps_steps j (ending values close ∷ rest) x items s h =
      keeps_stops book text n c j values close (steps_rows book text inner n c j rest)
      (λ x items s h. keeps_steps j rest x items s h) x items s h
  keeps_steps j (naming names kinds close M ∷ rest) x items s h =
      keeps_name_choice book text n inner inners room c below within j names kinds close M rest x items s h
  keeps_steps j (closing names kinds close M ∷ rest) x items s h =
      keeps_opens book text n inner inners room c below within j names kinds close M rest x items s h

-- ---- Runners
module _ (book : Book) (text : List ℕ) where
  pub keeping_steps : (n : ℕ) (inner : Option RowRunner) → Inner n inner → Keeping n (steps_rows book text inner n)
  keeping_steps n inner inners = record {
    of = λ c j todo x items s f.
        keeps_steps book text n inner inners (omega (arith, f.below, f.within)) c f.below f.within j
        todo x items s f.size;
  }

  pub keeps_runner : (n : ℕ) → Inner n (runner_rows book text n)
  unfolding runner_rows
  keeps_runner zero = last zero
  keeps_runner (suc n) = more n _ (keeping_steps n (runner_rows book text n) (keeps_runner n))
