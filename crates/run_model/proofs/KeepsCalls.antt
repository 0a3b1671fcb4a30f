-- What the model's functions leave of the rows: calls (`keeps_enter`), and a child of the call of row c, with what
-- follows its parses. KeepsBinders has binders, KeepsRun the other steps and the runners; the order is the model's.
-- Scaffolding: no definition of document 01.
use Rattle.std.specs.Prelude.{◌≡◌, Bool, leb, eqb, get_or, set}
use Rattle.std.proofs.Math.Path.{refl}
use Rattle.std.proofs.Common.{◌∙◌, arith}
use mathlib.Core.List.{List, [], ◌∷◌}
use Rattle.std.specs.Prelude.{Option, None, Some}
use Prim.Native.Nat.{ℕ, zero, suc, ◌<◌, ◌≤◌}
use Rattle.std.proofs.Math.ListN.{length, length-set}
use Rattle.characters.specs.Skipping.{skip_from}
use Rattle.book.specs.Book.{Entry, Book, nth_variant}
use Rattle.semantics.specs.Values.{Parse, absent_parse}
use Rattle.semantics.specs.Uses.{has_mark}
use Rattle.semantics.specs.Steps.{after_element, Todo, elements, ending, todo_of}
use Rattle.semantics.specs.Cells.{Cell}
use Rattle.semantics.specs.Errors.{Error}
use Rattle.semantics.specs.Run.{Result, all_in, add_all, begin}
use Rattle.run_model.specs.Rows.{Row, opened, ended, with_child, was_asked, with_set, with_run, copied, row_of, on_row}
use Rattle.run_model.specs.Rows.{binder_for, governor_of}
use Rattle.run_model.specs.Model.{RowState, row_state, Outcome, RowRunner, RowGo, RowNext, unmarked, at_row}
use Rattle.run_model.specs.Model.{take_variant, variants_rows, one_run_rows, settle, rounds_rows, settle_first}
use Rattle.run_model.specs.Model.{run_call_rows, named_rows, run_identifier_rows, plain_next_rows, list_next_rows}
use Rattle.run_model.specs.Model.{nested_rows, with_stored, stored_rows, enter_rows, enter_child_rows, follow_from}
use Rattle.run_model.specs.Model.{followed_rows}
use Rattle.run_model.proofs.Keeps.{Keeps, KeepsAt, Called, keeps_refl, keeps_then, keeps_put, keeps_mark, at_refl}
use Rattle.run_model.proofs.Keeps.{at_then, at_put, at_of, at_less, run_refl, run_then, run_put, run_of}
use Rattle.run_model.proofs.Keeps.{called_put, called_then, On, on_met, on_ok, on_bind, on_map, on_any, on_when}
use Rattle.run_model.proofs.Keeps.{on_option, on_list, on_after, on_governor, on_makes, on_spend, Beside, Ran}
use Rattle.run_model.proofs.Keeps.{Calls, Fits, Keeping, Inner, on_nested}

-- ---- A call at row n, whose variants run with row m = n - 1 free
module _ (book : Book) (text : List ℕ) (m : ℕ) (S : RowRunner) (keeping : Keeping m S) (n : ℕ) (next : n ≡ suc m)
    (room : n ≤ 200) (least : ℕ) where
  -- one variant
  pub keeps_taken : (j x items units : ℕ) (cells : List Cell) (T : List Row) → length T ≡ 201 →
      On (Ran n T)
      (S n j (todo_of book (nth_variant book j)) x items
      (row_state units cells (on_row T n (take_variant book text j))))
  keeps_taken j x items units cells T h =
      let U = on_row T n (take_variant book text j) in
      let f : Fits n m U =
      record { below = omega arith; within = room; size = length-set T n (take_variant book text j (row_of T n)) ∙ h }
      in
      on_map (Beside n (suc m) U) (Ran n T) _
      (keeping.of n j (todo_of book (nth_variant book j)) x items (row_state units cells U) f)
      (λ o k.
      run_then (run_put n T (take_variant book text j (row_of T n)) (omega arith) refl)
      (run_of (at_less (omega arith) k)))

  pub keeps_variants : (k j : ℕ) (e : Option Error) (s : RowState) → length s.rows ≡ 201 →
      On (Ran n s.rows) (variants_rows book text S n least k j e s)
  unfolding variants_rows
  keeps_variants zero j e s h = on_ok (Ran n s.rows) run_refl
  keeps_variants (suc k) j e s h =
      on_when (Ran n s.rows) (leb least (nth_variant book j).level) _ _
      (on_makes (Ran n s.rows) (begin book text j) s _
      (λ cell units cells.
      on_bind (Ran n s.rows) (Ran n s.rows) _ _
      (keeps_taken j (row_of s.rows n).start cell units cells s.rows h)
      (λ o a. on_map (Ran n o.state.rows) (Ran n s.rows) _
      (keeps_variants k (suc j) _ o.state (a.above.size ∙ h)) (λ p b. run_then a b))))
      (keeps_variants k (suc j) e s h)

  pub keeps_one_run : (s : RowState) → length s.rows ≡ 201 → On (Ran n s.rows) (one_run_rows book text S n least s)
  unfolding one_run_rows
  keeps_one_run s h =
      let U = on_row s.rows n (with_run []) in
      on_map (Ran n U) (Ran n s.rows) _
      (keeps_variants _ _ None (at_row n (with_run []) s) (length-set s.rows n (with_run [] (row_of s.rows n)) ∙ h))
      (λ o a. run_then (run_put n s.rows (with_run [] (row_of s.rows n)) (omega arith) refl) a)

  keeps_settle : (T : List Row) (again : RowState → Result Outcome) (s : RowState) → length s.rows ≡ 201 →
      Keeps (suc n) T s.rows → ((t : RowState) → length t.rows ≡ 201 → On (Calls n t.rows) (again t)) →
      On (Calls n T) (settle book text n again s)
  unfolding settle
  keeps_settle T again s h k f =
      let r = row_of s.rows n in
      on_when (Calls n T) (all_in r.set r.run) _ _
      (on_ok (Calls n T) (called_put n T s.rows (ended r) (omega arith) k refl))
      (on_any (Calls n T) (add_all (unmarked s) r.set r.run) _
      (λ all.
      on_map (Calls n (on_row s.rows n (with_set all))) (Calls n T) _
      (f (at_row n (with_set all) s) (length-set s.rows n (with_set all r) ∙ h))
      (λ o a. called_then (keeps_then k (keeps_put n s.rows (with_set all r))) a)))

  keeps_rounds : (k : ℕ) (s : RowState) → length s.rows ≡ 201 →
      On (Calls n s.rows) (rounds_rows book text k S n least s)
  unfolding rounds_rows
  keeps_rounds zero s h = on_met (Calls n s.rows) _ _
  keeps_rounds (suc k) s h =
      on_bind (Ran n s.rows) (Calls n s.rows) _ _ (keeps_one_run s h)
      (λ o a. keeps_settle s.rows _ o.state (a.above.size ∙ h) a.above (λ t g. keeps_rounds k t g))

  keeps_first : (T : List Row) (again : RowState → Result Outcome) (o : Outcome) → length o.state.rows ≡ 201 →
      Keeps (suc n) T o.state.rows → ((t : RowState) → length t.rows ≡ 201 → On (Calls n t.rows) (again t)) →
      On (Calls n T) (settle_first book text n again o)
  unfolding settle_first
  keeps_first T again o h k f =
      let U = o.state.rows in
      let r = row_of U n in
      let over : Called n T (on_row U n (λ r. ended (copied r))) =
      called_put n T U (ended (copied r)) (omega arith) k refl in
      on_list (Calls n T) r.run _ _ (on_ok (Calls n T) over)
      (λ p ps. on_when (Calls n T) (eqb r.asked 1) _ _
      (on_map (Calls n (on_row U n copied)) (Calls n T) _ (f (at_row n copied o.state) (length-set U n (copied r) ∙ h))
      (λ o a. called_then (keeps_then k (keeps_put n U (copied r))) a))
      (on_ok (Calls n T) over))

  pub keeps_run_call : (binder N u : ℕ) (s : RowState) → length s.rows ≡ 201 →
      On (Calls n s.rows) (run_call_rows book text S n binder N u least s)
  unfolding run_call_rows
  keeps_run_call binder N u s h =
      let U = on_row s.rows n (opened binder N u) in
      let size : length U ≡ 201 = length-set s.rows n (opened binder N u (row_of s.rows n)) ∙ h in
      on_bind (Ran n U) (Calls n s.rows) _ _ (keeps_one_run (at_row n (opened binder N u) s) size)
      (λ o a.
      keeps_first s.rows _ o (a.above.size ∙ size)
      (keeps_then (keeps_put n s.rows (opened binder N u (row_of s.rows n))) a.above)
      (λ t g. keeps_rounds 65 t g))

-- ---- A use of mark 2
keeps_named : (book : Book) (text : List ℕ) (n N u : ℕ) (T : List Row) (s : RowState) → n < length s.rows →
    Called n T s.rows → (end : Option ℕ) → On (Calls n T) (named_rows book text n N u s end)
unfolding named_rows
keeps_named book text n N u T s h c None = on_ok (Calls n T) c
keeps_named book text n N u T s h c (Some end) =
    on_makes (Calls n T) _ s _
    (λ cell units cells. on_ok (Calls n T) (called_put n T s.rows _ h c.above c.shut))

keeps_identifier : (book : Book) (text : List ℕ) (n binder N u : ℕ) (s : RowState) → n < length s.rows →
    On (Calls n s.rows) (run_identifier_rows book text n binder N u s)
unfolding run_identifier_rows
keeps_identifier book text n binder N u s h =
    let r = ended (with_set [] (row_of s.rows n)) in
    let l : length (set s.rows n r) ≡ length s.rows = length-set s.rows n r in
    keeps_named book text n N u s.rows (at_row n (λ r. ended (with_set [] r)) s) (omega arith)
    (called_put n s.rows s.rows r h keeps_refl refl) _

-- ---- What is left of a variant of the call of row c, while the rows from n down are free
module _ (n c : ℕ) where
  -- what follows a parse, one level further in
  abbrev pub KeepsNext : RowNext → Type 0
  KeepsNext next =
      (m : ℕ) (S : RowRunner) → n ≡ suc m → Keeping m S → (q : Parse ℕ) (s : RowState) → length s.rows ≡ 201 →
      On (Beside c n s.rows) (next q s S)

  -- what is left behind a list or a step
  abbrev pub KeepsGo : RowGo → Type 0
  KeepsGo go = (x items : ℕ) (s : RowState) → length s.rows ≡ 201 → On (Beside c (suc n) s.rows) (go x items s)

module _ (book : Book) (text : List ℕ) (n c : ℕ) (below : n < c) (within : c ≤ 200) where
  pub keeps_plain_next : (j : ℕ) (rest : List (Todo ℕ)) (items : ℕ) →
      KeepsNext n c (plain_next_rows book text c j rest items)
  unfolding plain_next_rows
  keeps_plain_next j rest items m S e keeping q s h =
      on_makes (Beside c n s.rows) _ s _
      (λ cell units cells. on_map (Beside c (suc m) s.rows) (Beside c n s.rows) _
      (keeping.of c j rest q.rest cell (row_state units cells s.rows)
      (record { below = omega arith; within = within; size = h }))
      (λ o a. at_less (omega arith) a))

  pub keeps_list_next : (j : ℕ) (comma : Bool) (M values : ℕ) (close : Option ℕ) (rest : List (Todo ℕ)) (items : ℕ) →
      KeepsNext n c (list_next_rows book text c j comma M values close rest items)
  unfolding list_next_rows
  keeps_list_next j comma M values close rest items m S e keeping q s h =
      let f : Fits c m s.rows = record { below = omega arith; within = within; size = h } in
      on_makes (Beside c n s.rows) _ s _
      (λ cell units cells. on_map (Beside c (suc m) s.rows) (Beside c n s.rows) _
      (on_after (Beside c (suc m) s.rows) (after_element text comma q.rest) _ _
      (λ y. keeping.of c j (elements comma M cell close ∷ rest) y items (row_state units cells s.rows) f)
      (λ y. keeping.of c j (ending cell close ∷ rest) y items (row_state units cells s.rows) f))
      (λ o a. at_less (omega arith) a))

-- ---- One level of nesting
module _ (book : Book) (text : List ℕ) (n : ℕ) (inner : Option RowRunner)
    (inners : Inner n inner) (room : n ≤ 200) where
  keeps_stored : (g : ℕ) (s : RowState) → length s.rows ≡ 201 →
      Called n s.rows (with_stored book text inner n g s).rows
  keeps_stored g s h =
      let l : length (on_row s.rows g was_asked) ≡ length s.rows =
      length-set s.rows g (was_asked (row_of s.rows g)) in
      called_put n s.rows (on_row s.rows g was_asked) _ (omega arith) (keeps_mark (suc n) g s.rows) refl

  pub keeps_enter : (binder N u : ℕ) (s : RowState) → length s.rows ≡ 201 →
      On (Calls n s.rows) (enter_rows book text inner n binder N u s)
  unfolding enter_rows stored_rows
  keeps_enter binder N u s h =
      let Q = Calls n s.rows in
      on_spend Q s _
      (λ units cells. on_governor Q (governor_of s.rows n binder N u) _ _
      (λ least. on_nested Q book text n inner inners _ _
      (λ m S e keeping.
      on_when Q (has_mark book 2 N) _ _
      (keeps_identifier book text n binder N u (row_state units cells s.rows) (omega arith))
      (keeps_run_call book text m S keeping n e room least binder N u (row_state units cells s.rows) h)))
      (λ g. on_ok Q (keeps_stored g (row_state units cells s.rows) h)))

  -- ---- A child of the call of row c
  module _ (c : ℕ) (below : n < c) (within : c ≤ 200) where
    -- a child's call
    pub keeps_child : (opening : Option (List Entry)) (M x : ℕ) (s : RowState) → length s.rows ≡ 201 →
        On (Calls n (on_row s.rows c (with_child (skip_from text x))))
        (enter_child_rows book text inner n opening c M x s)
    unfolding enter_child_rows
    keeps_child opening M x s h =
        keeps_enter (binder_for opening (row_of s.rows c).binder) M (skip_from text x)
        (at_row c (with_child (skip_from text x)) s) (length-set s.rows c _ ∙ h)

    pub child_leaves : (x : ℕ) (T U : List Row) → length T ≡ 201 →
        Called n (on_row T c (with_child (skip_from text x))) U → KeepsAt c (suc n) T U
    child_leaves x T U h a =
        at_then (at_put c (suc n) T (with_child (skip_from text x) (row_of T c)) (omega arith) refl)
        (at_of (omega arith) a.above)

    pub keeps_one : (next : RowNext) → KeepsNext n c next → (q : Parse ℕ) (s : RowState) → length s.rows ≡ 201 →
        On (Beside c n s.rows) (nested_rows book text inner n s (λ run. next q s run))
    keeps_one next k q s h =
        on_nested (Beside c n s.rows) book text n inner inners s _ (λ m S e keeping. k m S e keeping q s h)

    pub keeps_follow : (next : RowNext) → KeepsNext n c next → (k i : ℕ) (e : Option Error) (s : RowState) →
        length s.rows ≡ 201 → On (Beside c n s.rows) (follow_from book text inner n next k i e s)
    unfolding follow_from
    keeps_follow next f zero i e s h = on_ok (Beside c n s.rows) at_refl
    keeps_follow next f (suc k) i e s h =
        on_bind (Beside c n s.rows) (Beside c n s.rows) _ _
        (keeps_one next f (get_or (row_of s.rows n).set i absent_parse) s h)
        (λ o a.
        on_map (Beside c n o.state.rows) (Beside c n s.rows) _
        (keeps_follow next f k (suc i) _ o.state (a.size ∙ h)) (λ p b. at_then a b))

    pub keeps_followed : (next : RowNext) → KeepsNext n c next → (o : Outcome) → length o.state.rows ≡ 201 →
        On (Beside c (suc n) o.state.rows) (followed_rows book text inner n next o)
    unfolding followed_rows
    keeps_followed next f o h =
        let T = o.state.rows in
        on_option (Beside c (suc n) T) o.failure _ _
        (on_map (Beside c n T) (Beside c (suc n) T) _
        (keeps_follow next f (length (row_of T n).set) 0 None o.state h) (λ p a. at_less (omega arith) a))
        (λ e. on_ok (Beside c (suc n) T) at_refl)
