-- Laws for what a call does before its runs: one for each way out of a function, over the values that the function has
-- there.
--
-- Contents:
-- - stored parses: stored_none, stored_some
-- - claims: claimed_named, claimed_nothing
-- - a use of mark 2: identifier_claimed, identifier_nothing, identifier_full, identifier_named, is_marked
-- - one level of nesting: ends, opens_deep, opens_identifier, opens_runs
-- - a use of a nonterminal: enters_spent, enters_stored, enters_open
use Rattle.std.specs.Prelude.{◌≡◌, refl, Bool, true, false, List, [], ◌∷◌, ℕ, zero, suc, ◌-◌, ◌<◌, eqb, ltb, length}
use Rattle.std.proofs.Math.Path.{sym, ap, subst}
use Rattle.std.proofs.Common.{◌∙◌, true≢false, arith}
use Rattle.std.proofs.lemmas.List.{set_past}
use borrow.Author.Tests.{ltb-true, ltb-false}
use Rattle.characters.specs.Cases.{by_test}
use Rattle.std.specs.Prelude.{Option, None, Some}
use Rattle.std.specs.Option as option
use Rattle.book.specs.Book.{Book, nth_nonterminal, mark_number}
use Rattle.book.specs.declared.records.Associativity.{Associativity}
use Rattle.book.specs.declared.records.Mark.{Mark}
use Rattle.book.specs.declared.records.Nonterminal.{Nonterminal}
use Rattle.semantics.specs.Values.{Parse}
use Rattle.semantics.specs.Tokens.{when, is_some, variable_at, free_end}
use Rattle.semantics.specs.Errors.{Error, error}
use Rattle.semantics.specs.Cells.{Cell, numbers_of}
use Rattle.semantics.specs.Uses.{has_mark}
use Rattle.semantics.specs.Run as run
use Rattle.semantics.specs.Run.{Result, met, ok}
use Rattle.run_model.specs.Rows.{Row, row_of, on_row, with_set, ended, RowGovernor, same_start, minimum, governor_of}
use Rattle.run_model.specs.Rows.{scope_at, claims_use}
use Rattle.run_model.specs.Model.{row_state, Outcome, outcome, RowRunner, spend_rows, fails_empty}
use Rattle.run_model.specs.Model.{claimed_rows, named_rows, run_identifier_rows, run_call_rows, nested_rows}
use Rattle.run_model.specs.Model.{stored_rows}
use Rattle.run_model.specs.Model.{enter_rows, runner_rows}
use Rattle.calls.specs.CallLaws.{then_row}
use Rattle.calls.specs.Table.{governor_in, with_stored_in}
use Rattle.calls.specs.declared.governors.Governor.{Governor}
use Rattle.cells.specs.Store.{listed}
use Rattle.cells.specs.declared.numbers.CellNumbers.{CellNumbers}
use Rattle.errors.specs.Maps.{failure_of}
use Rattle.tokens.specs.Maps.{variable_of}
use Rattle.errors.specs.Maps.{Failure}
use Rattle.tokens.specs.declared.tokens.Variable.{Variable}
use Rattle.transitions.specs.Results.{CellOutcome, Entered, done_with, without_failure}
use Rattle.transitions.specs.Results as outcomes
use Rattle.transitions.specs.declared.outcomes.State.{State}
use Rattle.transitions.specs.Outcomes.{cells_of, Held, bare, given, Ran, Runs, Spent, MadeBy}
use Rattle.transitions.specs.Entering.{Stores, inner_runner, goes_in, Entering, Opens, BeginsUse}
use Rattle.transitions.specs.OutcomeLaws.{given_ok, given_met, cell_ok, cell_met}
use Rattle.transitions.specs.ResumeLaws.{bind_met, bind_ok, unit_met, unit_ok}
use Rattle.transitions.specs.GivenLaws.{given_done, ran_with, makes_met, makes_ok}

-- ---- Stored parses
none_fails : (l : List (Parse ℕ)) (x : Error) → length l ≡ 0 → fails_empty l x ≡ Some x
unfolding fails_empty
none_fails [] x h = refl
none_fails (p ∷ ps) x h = absurd (omega (arith, h))

some_passes : (l : List (Parse ℕ)) (x : Error) → (length l ≡ 0 → ⊥) → fails_empty l x ≡ None
unfolding fails_empty
some_passes [] x h = absurd (h refl)
some_passes (p ∷ ps) x h = refl

module _ (T U : List Row) (g n N u : ℕ) (s : State) (k : ℕ) (e : U ≡ with_stored_in T n g)
    (ek : k ≡ length (row_of U n).set) where
  answered_with : (f : Failure) (o : outcomes.Outcome) → o ≡ done_with f s →
      failure_of f ≡ fails_empty (row_of U n).set (error u 11 N) → Stores T U g n N u s o
  unfolding stored_rows
  answered_with f o eo ef =
      record {
        is = λ book text inner cells.
            given_done o f s cells U eo
            ∙ ap (λ z. ok (outcome z (row_state s.units cells U))) ef
            ∙ ap (λ t. ok (outcome (fails_empty (row_of t n).set (error u 11 N)) (row_state s.units cells t))) e;
        cells = ap (λ o. o.state.cells) eo;
      }

  pub stored_none : (f : Failure) (o : outcomes.Outcome) → k ≡ 0 → failure_of f ≡ Some (error u 11 N) →
      o ≡ done_with f s → Stores T U g n N u s o
  stored_none f o h ef eo = answered_with f o eo (ef ∙ sym (none_fails (row_of U n).set (error u 11 N) (sym ek ∙ h)))

  pub stored_some : (o : outcomes.Outcome) → (k ≡ 0 → ⊥) → o ≡ done_with None s → Stores T U g n N u s o
  stored_some o h eo =
      answered_with None o eo (sym (some_passes (row_of U n).set (error u 11 N) (λ z. h (ek ∙ z))))

-- ---- Claims
found_as : (v : Option Variable) → option.is_some v ≡ is_some (variable_of v)
unfolding is_some
found_as None = refl
found_as (Some (Variable.Starting end number kind)) = refl
found_as (Some (Variable.Declared end depth index kind)) = refl

module _ (book : Book) (text : List ℕ) (T : List Row) (n b u : ℕ) (v : Option Variable)
    (e : variable_of v ≡ variable_at book text (scope_at text T n b) u) (w : Bool) (f : w ≡ option.is_some v) where
  pub claimed_named : (t : Bool) → w ≡ true → t ≡ claims_use book T n b u → t ≡ claimed_rows book text T n b u
  claimed_named t h et = et ∙ rw (← e, sym (found_as v) ∙ sym f ∙ h)

  pub claimed_nothing : w ≡ false → w ≡ claimed_rows book text T n b u
  claimed_nothing h = h ∙ rw (← e, sym (found_as v) ∙ sym f ∙ h)

-- ---- A use of mark 2
module _ (book : Book) (text store : List ℕ) (T T1 T2 : List Row) (n b N u : ℕ) (s : State) (t : Bool)
    (e1 : T1 ≡ on_row T n (with_set [])) (e2 : T2 ≡ on_row T1 n ended) (et : t ≡ claimed_rows book text T2 n b u) where
  -- nothing is stored in a row that is none of the table
  cleared : T2 ≡ on_row T n (λ r. ended (with_set [] r))
  cleared =
      by_test (ltb n (length T))
      (λ t. then_row T T1 T2 n (with_set [] (row_of T n)) ended (ltb-true n (length T) t) e1 e2)
      (λ t. let past = ltb-false n (length T) t in
      e2 ∙ ap (λ q. on_row q n ended) (e1 ∙ set_past T n _ past) ∙ set_past T n _ past ∙ sym (set_past T n _ past))

  -- what is run, on the row that was cleared
  identifier_from : (cells : List Cell) (end : Option ℕ) → end ≡ when t (λ _. None) (λ _. free_end book text u) →
      named_rows book text n N u (row_state s.units cells T2) end
      ≡ run_identifier_rows book text n b N u (row_state s.units cells T)
  unfolding run_identifier_rows
  identifier_from cells end h =
      ap (λ x. named_rows book text n N u (row_state s.units cells T2) x) h
      ∙ ap
      (λ t. named_rows book text n N u (row_state s.units cells T2) (when t (λ _. None) (λ _. free_end book text u))) et
      ∙ ap
      (λ q. named_rows book text n N u (row_state s.units cells q)
      (when (claimed_rows book text q n b u) (λ _. None) (λ _. free_end book text u))) cleared

  unnamed : (f : Failure) (o : outcomes.Outcome) → None ≡ when t (λ _. None) (λ _. free_end book text u) →
      failure_of f ≡ Some (error u 11 N) → o ≡ done_with f s →
      Runs text store s.cells store T2 o (λ cells. run_identifier_rows book text n b N u (row_state s.units cells T))
  unfolding named_rows run.failed_call
  unnamed f o h ef eo =
      λ held.
      ran_with text store T2 o s _ (ap (λ o. o.state.cells) eo)
      (given_done o f s (cells_of store s.cells) T2 eo
      ∙ ap (λ z. ok (outcome z (row_state s.units (cells_of store s.cells) T2))) ef
      ∙ identifier_from (cells_of store s.cells) None h)
      held

  pub identifier_claimed : (f : Failure) (o : outcomes.Outcome) → t ≡ true →
      failure_of f ≡ Some (error u 11 N) → o ≡ done_with f s →
      Runs text store s.cells store T2 o (λ cells. run_identifier_rows book text n b N u (row_state s.units cells T))
  identifier_claimed f o h ef eo = unnamed f o (rw h) ef eo

  pub identifier_nothing : (x : Option ℕ) (f : Failure) (o : outcomes.Outcome) → t ≡ false → x ≡ free_end book text u
      →
      x ≡ None → failure_of f ≡ Some (error u 11 N) → o ≡ done_with f s →
      Runs text store s.cells store T2 o (λ cells. run_identifier_rows book text n b N u (row_state s.units cells T))
  identifier_nothing x f o h ex en ef eo = unnamed f o (rw h (sym en ∙ ex)) ef eo

  module _ (x : Option ℕ) (end size : ℕ) (c : CellNumbers) (after : List ℕ) (m : CellOutcome) (h : t ≡ false)
      (ex : x ≡ free_end book text u) (en : x ≡ Some end)
      (es : size ≡ end - u) (ec : listed c ≡ numbers_of (Cell.name u size))
      (em : (cell : Cell) → listed c ≡ numbers_of cell → MadeBy text store after s m (run.make text cell)) where
    named_from : (cells : List Cell) →
        named_rows book text n N u (row_state s.units cells T2) (Some end)
        ≡ run_identifier_rows book text n b N u (row_state s.units cells T)
    named_from cells = identifier_from cells (Some end) (rw h (sym en ∙ ex))

    pub identifier_full : (o : outcomes.Outcome) → (m.limit ≡ 0 → ⊥) → o ≡ without_failure m.limit m.state →
        Runs text store s.cells after T2 o
        (λ cells. run_identifier_rows book text n b N u (row_state s.units cells T))
    unfolding named_rows
    identifier_full o k eo =
        λ held.
        let q = em (Cell.name u size) ec held in
        let cells = cells_of store s.cells in
        let limit : run.make text (Cell.name u (end - u)) (bare s.units cells) ≡ met m.limit m.state.units
        = ap (λ i. run.make text (Cell.name u i) (bare s.units cells)) (sym es) ∙ sym q.is
        ∙ cell_met m (cells_of after m.state.cells) k in
        ran_with text after T2 o m.state _ (ap (λ o. o.state.cells) eo)
        (ap (λ o. given o (cells_of after m.state.cells) T2) eo
        ∙ given_met (without_failure m.limit m.state) (cells_of after m.state.cells) T2 k
        ∙ sym (bind_met _ (makes_met _ (row_state s.units cells T2) _ _ limit))
        ∙ named_from cells)
        q.held

    pub identifier_named : (U : List Row) (o : outcomes.Outcome) → m.limit ≡ 0 →
        U ≡ on_row T2 n
        (with_set (record { rest = end; level = 255; associativity = Associativity.Both; value = m.cell } ∷ [])) →
        o ≡ done_with None m.state →
        Runs text store s.cells after U o
        (λ cells. run_identifier_rows book text n b N u (row_state s.units cells T))
    unfolding named_rows
    identifier_named U o k eu eo =
        λ held.
        let q = em (Cell.name u size) ec held in
        let cells = cells_of store s.cells in
        let new = cells_of after m.state.cells in
        let made :
        run.make text (Cell.name u (end - u)) (bare s.units cells)
        ≡ ok (run.made m.cell (bare m.state.units new))
        = ap (λ i. run.make text (Cell.name u i) (bare s.units cells)) (sym es) ∙ sym q.is ∙ cell_ok m new k in
        ran_with text after U o m.state _ (ap (λ o. o.state.cells) eo)
        (given_done o None m.state new U eo
        ∙ ap (λ r. ok (outcome None (row_state m.state.units new r))) eu
        ∙ sym (bind_ok _ (makes_ok _ (row_state s.units cells T2) _ made))
        ∙ named_from cells)
        q.held

pub is_marked : (book : Book) (N : ℕ) (x : Nonterminal) (mark : Mark) → x ≡ nth_nonterminal book N → x.mark ≡ mark →
    eqb (mark_number mark) 2 ≡ has_mark book 2 N
is_marked book N x mark e h = ap (λ m. eqb (mark_number m) 2) (sym h ∙ ap (λ x. x.mark) e)

-- ---- One level of nesting
runner_above : (book : Book) (text : List ℕ) (n : ℕ) → (n ≡ 0 → ⊥) →
    runner_rows book text n ≡ Some (inner_runner book text n)
unfolding runner_rows
runner_above book text zero h = absurd (h refl)
runner_above book text (suc n) h = let q : suc n - 1 ≡ n = omega arith in rw q

-- a use that is over after what was done
abbrev pub ends : outcomes.Outcome → Entered
ends o = record { runs = false; minimum = 0; outcome = o }

entering_over : (book : Book) (text store : List ℕ) (T : List Row) (n b N u : ℕ) (o : outcomes.Outcome) (e : Entered)
    (z : Result Outcome) → e ≡ ends o → Ran text store T o z → Entering book text store T n b N u e z
unfolding goes_in
entering_over book text store T n b N u o e z ee ran =
    subst (λ (x : Entered). Entering book text store T n b N u x z) (sym ee) (record { is = ran.is; held = ran.held })

over_above : (o : outcomes.Outcome) (e : Entered) (n : ℕ) → e ≡ ends o → e.runs ≡ true → 0 < n
over_above o e n ee h = absurd (true≢false (sym h ∙ ap (λ e. e.runs) ee))

module _ (book : Book) (text : List ℕ) (n b N u m : ℕ) (s : State) (e : Entered) where
  -- what the model does on one level of nesting
  abbrev opening : List ℕ → List Row → Option RowRunner → Result Outcome
  opening store T inner =
      let t = row_state s.units (cells_of store s.cells) T in
      nested_rows book text inner n t (λ run.
      when (has_mark book 2 N) (λ _. run_identifier_rows book text n b N u t)
      (λ _. run_call_rows book text run n b N u m t))

  opening_within : (store : List ℕ) (T : List Row) → (n ≡ 0 → ⊥) →
      opening store T (Some (inner_runner book text n)) ≡ opening store T (runner_rows book text n)
  opening_within store T h = ap (opening store T) (sym (runner_above book text n h))

  pub opens_deep : (store : List ℕ) (T : List Row) (o : outcomes.Outcome) → n ≡ 0 → o ≡ without_failure 21 s →
      e ≡ ends o → Opens book text store store T T n b N u m s e
  unfolding runner_rows nested_rows
  opens_deep store T o h eo ee =
      let cells = cells_of store s.cells in
      let nest : opening store T None ≡ opening store T (runner_rows book text n) =
      ap (λ k. opening store T (runner_rows book text k)) (sym h) in
      let limit : given o cells T ≡ met 21 s.units
      = ap (λ o. given o cells T) eo ∙ given_met (without_failure 21 s) cells T (λ z. omega (arith, z)) in
      record {
        does =
            λ held. entering_over book text store T n b N u o e _ ee
            (ran_with text store T o s _ (ap (λ o. o.state.cells) eo) (limit ∙ nest) held);
        above = over_above o e n ee;
      }

  pub opens_identifier : (before after : List ℕ) (T U : List Row) (t : Bool) (o : outcomes.Outcome) → (n ≡ 0 → ⊥) →
      t ≡ has_mark book 2 N → t ≡ true →
      Runs text before s.cells after U o
      (λ cells. run_identifier_rows book text n b N u (row_state s.units cells T)) →
      e ≡ ends o → Opens book text before after T U n b N u m s e
  unfolding nested_rows
  opens_identifier before after T U t o h eb y runs ee =
      let nest :
      run_identifier_rows book text n b N u (row_state s.units (cells_of before s.cells) T)
      ≡ opening before T (runner_rows book text n)
      = rw (← (opening_within before T h), sym eb ∙ y) in
      record {
        does =
            λ held. entering_over book text after U n b N u o e _ ee
            (let r = runs held in record { is = r.is ∙ nest; held = r.held });
        above = over_above o e n ee;
      }

  pub opens_runs : (store : List ℕ) (T : List Row) (t : Bool) (o : outcomes.Outcome) → (n ≡ 0 → ⊥) →
      t ≡ has_mark book 2 N → t ≡ false → o ≡ done_with None s →
      e ≡ record { runs = true; minimum = m; outcome = o } → Opens book text store store T T n b N u m s e
  unfolding nested_rows goes_in
  opens_runs store T t o h eb y eo ee =
      let q = row_state s.units (cells_of store s.cells) T in
      let nest : run_call_rows book text (inner_runner book text n) n b N u m q ≡ opening store T
      (runner_rows book text n)
      = rw (← (opening_within store T h), sym eb ∙ y) in
      record {
        does = λ held.
            subst (λ (x : Entered). Entering book text store T n b N u x (opening store T (runner_rows book text n)))
            (sym (ee ∙ ap (λ (o : outcomes.Outcome). record { runs = true; minimum = m; outcome = o }) eo))
            (record { is = nest; held = held });
        above = λ x. omega (arith, h);
      }

-- ---- A use of a nonterminal
module _ (book : Book) (text : List ℕ) (T : List Row) (n b N u : ℕ) (s : State) (e : Entered)
    (spent : outcomes.Outcome) (es : Spent spent s) where
  pub enters_spent : (store : List ℕ) → (spent.limit ≡ 0 → ⊥) → e ≡ ends spent →
      BeginsUse book text store store T T n b N u s e
  unfolding enter_rows
  enters_spent store h ee =
      let cells = cells_of store s.cells in
      let limit = given_met spent cells T h in
      let none_left : spend_rows (row_state s.units cells T) ≡ met spent.limit spent.state.units
      = unit_met (spend_rows (row_state s.units cells T)) _ _ (sym limit ∙ es.is cells T) in
      record {
        does = λ held. entering_over book text store T n b N u spent e _ ee
            (ran_with text store T spent s _ es.cells (limit ∙ sym (bind_met _ none_left)) held);
        above = over_above spent e n ee;
      }

  -- after the unit, with the governor
  entered : (cells : List Cell) (g : RowGovernor) → spent.limit ≡ 0 → g ≡ governor_of T n b N u →
      (let t = row_state spent.state.units cells T in
      elim g [
        | same_start g ↦ ok (stored_rows book text (runner_rows book text n) n g N u t)
        | minimum m ↦ nested_rows book text (runner_rows book text n) n t (λ run.
            when (has_mark book 2 N) (λ _. run_identifier_rows book text n b N u t)
            (λ _. run_call_rows book text run n b N u m t))
      ]) ≡ enter_rows book text (runner_rows book text n) n b N u (row_state s.units cells T)
  unfolding enter_rows
  entered cells g h eg =
      let left : spend_rows (row_state s.units cells T) ≡ ok (row_state spent.state.units cells T)
      = unit_ok _ _ _ (sym (given_ok spent cells T h) ∙ es.is cells T) in
      rw eg (sym (bind_ok _ left))

  pub enters_stored : (store : List ℕ) (U : List Row) (r : Governor) (g : ℕ) (o : outcomes.Outcome) → spent.limit ≡ 0 →
      governor_in r ≡ governor_of T n b N u → r ≡ Governor.SameStart g → Stores T U g n N u spent.state o →
      e ≡ ends o → BeginsUse book text store store T U n b N u s e
  enters_stored store U r g o h er eg stores ee =
      let cells = cells_of store s.cells in
      record {
        does = λ held. entering_over book text store U n b N u o e _ ee
            (ran_with text store U o s _ (stores.cells ∙ es.cells)
            (stores.is book text (runner_rows book text n) cells
            ∙ entered cells (same_start g) h (sym (ap governor_in eg) ∙ er)) held);
        above = over_above o e n ee;
      }

  pub enters_open : (before after : List ℕ) (U : List Row) (r : Governor) (m : ℕ) → spent.limit ≡ 0 →
      governor_in r ≡ governor_of T n b N u → r ≡ Governor.Minimum m →
      Opens book text before after T U n b N u m spent.state e → BeginsUse book text before after T U n b N u s e
  enters_open before after U r m h er em opens =
      record {
        does = λ held.
            let o = opens.does (subst (λ c. Held text before c) (sym es.cells) held) in
            record {
              is = o.is
                  ∙ entered (cells_of before spent.state.cells) (minimum m) h (sym (ap governor_in em) ∙ er)
                  ∙ ap (λ c. enter_rows book text (runner_rows book text n) n b N u
                  (row_state s.units (cells_of before c) T)) es.cells;
              held = o.held;
            };
        above = opens.above;
      }
