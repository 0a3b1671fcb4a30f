-- That the steps of a variant over the rows give what the definition's steps give, one lemma for each kind of step:
-- children are SimChild's, binders SimBinders'. Scaffolding: no definition of document 01.
use Rattle.std.specs.Prelude.{◌≡◌, Bool, ℕ, suc, ◌<◌, ◌≤◌, set}
use Rattle.std.proofs.Math.Path.{refl, ap}
use Rattle.std.proofs.Common.{sym, arith}
use Rattle.std.proofs.Math.Bool.{true, false}
use mathlib.Core.List.{List, [], ◌∷◌}
use Rattle.std.specs.Prelude.{Option, None, Some}
use Rattle.std.proofs.Math.ListN.{length}
use Rattle.characters.specs.Classes.{between}
use Rattle.characters.specs.Skipping.{skip_from}
use Rattle.book.specs.Book.{Book, step_number}
use Rattle.book.specs.declared.records.Step.{Step}
use Rattle.semantics.specs.Values.{Parse}
use Rattle.semantics.specs.Uses.{scope_of}
use Rattle.semantics.specs.Tokens.{when}
use Rattle.semantics.specs.Steps.{Token, step_at, closed, Todo, taking, elements, ending, naming, closing}
use Rattle.semantics.specs.Cells.{Cell}
use Rattle.semantics.specs.Errors.{step_error}
use Rattle.semantics.specs.Run.{Result, ok, ◌>>=◌, State, Parsed, parsed, Call, Runner, Go, add, spend, make, complete}
use Rattle.semantics.specs.Run.{with_token, plain_next, list_next, stops, step_unit, or_absent, choice, listing, steps}
use Rattle.run_model.specs.Rows.{Row, with_run, row_of, asked_at, marks_of, names_above, scope_in}
use Rattle.run_model.specs.Model.{RowState, row_state, Outcome, outcome, RowRunner, RowGo, makes, spend_rows}
use Rattle.run_model.specs.Model.{cell_of_value, variant_parse, add_run, complete_rows, plain_next_rows, list_next_rows}
use Rattle.run_model.specs.Model.{stops_rows, step_unit_rows, or_absent_rows, choice_rows, listing_rows, steps_rows}
use Rattle.run_model.proofs.Keeps.{row_put, Beside, Inner}
use Rattle.run_model.proofs.KeepsCalls.{keeps_plain_next, keeps_list_next, KeepsGo}
use Rattle.run_model.proofs.KeepsRun.{keeps_stops, keeps_steps}
use Rattle.run_model.proofs.Named.{NoNames, NamesAt, NamesIn, no_names_in}
use Rattle.run_model.proofs.Sim.{state_of, see, then_see, same_see, option_see, taken_see, plain_make, plain_value}
use Rattle.run_model.proofs.Sim.{plain_with, plain_token, makes_see, spend_see, state_at, ran_at, Here, here_keeps}
use Rattle.run_model.proofs.Sim.{Kin, kin_inner}
use Rattle.run_model.proofs.SimCalls.{state_put}
use Rattle.run_model.proofs.SimChild.{sim_plain_next, sim_list_next, sim_descend, sim_or_child}
use Rattle.run_model.proofs.SimBinders.{sim_body, sim_opens, sim_name_choice}

module _ (book : Book) (text : List ℕ) (n : ℕ) (inner : Option RowRunner) (innerA : Option Runner)
    (kin : Kin book text n inner innerA) (room : n ≤ 200) (C : Call) (c j : ℕ) (below : n < c) (within : c ≤ 200) where
  inners : Inner n inner
  inners = kin_inner book text n inner innerA kin

  -- ---- Lists, optional children and tokens
  abbrev pub GoAlike : RowGo → Go → Type 0
  GoAlike go goA = (x items units : ℕ) (cells : List Cell) (T : List Row) → Here book text C c (suc n) j T →
      goA x items (row_of T c).run (state_at c (row_state units cells T))
      ≡ see (ran_at c) (go x items (row_state units cells T))

  module _ (go : RowGo) (goA : Go) (keeps : KeepsGo n c go) (alike : GoAlike go goA) where
    -- a list stops
    sim_stops : (values : ℕ) (close : Option ℕ) →
        GoAlike (stops_rows book text j values close go) (stops book text j values close goA)
    unfolding stops stops_rows see
    sim_stops values close x items units cells T h =
        makes_see (ran_at c) _ (plain_make text (Cell.list values)) (row_state units cells T)
        (asked_at (row_of T c) ∷ marks_of T c) _ _
        (λ cell units₁ cells₁. option_see (ran_at c) (closed text close x) _ _ _ _ (λ z. refl)
        (λ y z.
        makes_see (ran_at c) _ (plain_with book text j items cell) (row_state units₁ cells₁ T)
        (asked_at (row_of T c) ∷ marks_of T c) _ _
        (λ cell₂ units₂ cells₂. alike y cell₂ units₂ cells₂ T h)))

    -- an optional child
    sim_or_absent : (M : ℕ) (rest : List (Todo ℕ)) → NoNames rest →
        GoAlike (or_absent_rows book text inner n c j M rest go) (or_absent book text innerA C j M rest goA)
    unfolding or_absent or_absent_rows
    sim_or_absent M rest plain x items units cells T h =
        makes_see (ran_at c) _ (plain_make text Cell.absent) (row_state units cells T)
        (asked_at (row_of T c) ∷ marks_of T c) _ _
        (λ cell units₁ cells₁.
        makes_see (ran_at c) _ (plain_with book text j items cell) (row_state units₁ cells₁ T)
        (asked_at (row_of T c) ∷ marks_of T c) _ _
        (λ cell₂ units₂ cells₂.
        then_see (ran_at c) (ran_at c) (Beside c (suc n) T) _ _ _ _ (alike x cell₂ units₂ cells₂ T h)
        (keeps x cell₂ (row_state units₂ cells₂ T) h.standing.size)
        (λ a k. sim_or_child book text n inner innerA kin room C c j below within
        (plain_next_rows book text c j rest items) (plain_next book text C j rest items)
        (keeps_plain_next book text n c below within j rest items) (sim_plain_next book text n C c j rest plain items)
        M x a (here_keeps book text C c (suc n) j T a.state.rows h k))))

    -- the elements of a list: stop, or one more
    sim_choice : (comma : Bool) (M values : ℕ) (close : Option ℕ) (rest : List (Todo ℕ)) → NoNames rest →
        GoAlike (choice_rows book text inner n c j comma M values close rest go)
        (choice book text innerA C j comma M values close rest goA)
    unfolding choice choice_rows
    sim_choice comma M values close rest plain x items units cells T h =
        spend_see (ran_at c) (row_state units cells T) (asked_at (row_of T c) ∷ marks_of T c) _ _
        (λ units₁.
        then_see (ran_at c) (ran_at c) (Beside c (suc n) T) _ _ _ _ (sim_stops values close x items units₁ cells T h)
        (keeps_stops book text n c j values close go keeps x items (row_state units₁ cells T) h.standing.size)
        (λ a k.
        sim_or_child book text n inner innerA kin room C c j below within
        (list_next_rows book text c j comma M values close rest items)
        (list_next book text C j comma M values close rest items)
        (keeps_list_next book text n c below within j comma M values close rest items)
        (sim_list_next book text n C c j comma M values close rest plain items) M x a
        (here_keeps book text C c (suc n) j T a.state.rows h k)))

    -- a list from its beginning
    sim_listing : (comma : Bool) (M : ℕ) (close : Option ℕ) (rest : List (Todo ℕ)) → NoNames rest →
        GoAlike (listing_rows book text inner n c j comma M close rest go)
        (listing book text innerA C j comma M close rest goA)
    unfolding listing listing_rows
    sim_listing comma M close rest plain x items units cells T h =
        makes_see (ran_at c) _ (plain_make text Cell.empty) (row_state units cells T)
        (asked_at (row_of T c) ∷ marks_of T c) _ _
        (λ cell units₁ cells₁. sim_choice comma M cell close rest plain x items units₁ cells₁ T h)

    -- a list without its opening
    sim_unopened : GoAlike (λ x items s.
        makes (make text Cell.empty) s >>= (λ e. stops_rows book text j e.cell None go x items e.state))
        (λ x items set s.
        make text Cell.empty s >>= (λ e. stops book text j e.cell None goA x items set e.state))
    sim_unopened x items units cells T h =
        makes_see (ran_at c) _ (plain_make text Cell.empty) (row_state units cells T)
        (asked_at (row_of T c) ∷ marks_of T c) _ _
        (λ cell units₁ cells₁. sim_stops cell None x items units₁ cells₁ T h)

    -- a token
    sim_token : (t : Token) → GoAlike (λ x items s.
        makes (with_token book text j items t.item) s >>= (λ m. go t.next m.cell m.state))
        (λ x items set s. with_token book text j items t.item s >>= (λ m. goA t.next m.cell set m.state))
    sim_token t x items units cells T h =
        makes_see (ran_at c) _ (plain_token book text j items t.item) (row_state units cells T)
        (asked_at (row_of T c) ∷ marks_of T c) _ _
        (λ cell units₁ cells₁. alike t.next cell units₁ cells₁ T h)

  -- ---- A variant's end
  sim_add : (p : Parse ℕ) (units : ℕ) (cells : List Cell) (T : List Row) → Here book text C c (suc n) j T →
      (add (state_at c (row_state units cells T)) (row_of T c).run p
      >>= (λ more. ok (parsed more None (state_at c (row_state units cells T)))))
      ≡ see (ran_at c) (add_run book text c p (row_state units cells T))
  unfolding add_run add see
  sim_add p units cells T h =
      let l : c < length T = omega (arith, h.standing.size) in
      same_see (ran_at c) (add (state_of units cells []) (row_of T c).run p) _ _
      (λ more.
      let r = with_run more (row_of T c) in
      let f : (row_of (set T c r) c).run ≡ more = ap (λ r. r.run) (row_put T c r l) in
      ap ok (sym (rw (f, state_put c units cells T r l refl)
      (refl {a = parsed more None (state_at c (row_state units cells T))}))))

  sim_complete : GoAlike (λ x items s. complete_rows book text c j x items s)
      (λ x items set s. complete book text j x items set s)
  unfolding complete complete_rows cell_of_value
  sim_complete x items units cells T h =
      makes_see (ran_at c) (cell_of_value book text j items) (plain_value book text j items) (row_state units cells T)
      (asked_at (row_of T c) ∷ marks_of T c) _ _
      (λ cell units₁ cells₁. sim_add (variant_parse book text j x cell) units₁ cells₁ T h)

  -- ---- Steps
  unit_see : (step : Step) (units : ℕ) (cells : List Cell) (T : List Row) (asked : List Bool)
      (L : State → Result Parsed) (K : RowState → Result Outcome) →
      ((units₁ : ℕ) → L (state_of units₁ cells asked) ≡ see (ran_at c) (K (row_state units₁ cells T))) →
      (step_unit book text innerA step (state_of units cells asked) >>= L)
      ≡ see (ran_at c) (step_unit_rows book text inner n step (row_state units cells T) >>= K)
  unfolding step_unit step_unit_rows ◌>>=◌
  unit_see step units cells T asked L K h = by (between 10 11 (step_number step))
    where
      by : (b : Bool) → (when b (λ _. ok (state_of units cells asked)) (λ _. spend (state_of units cells asked)) >>= L)
          ≡ see (ran_at c) (when b (λ _. ok (row_state units cells T)) (λ _. spend_rows (row_state units cells T)) >>=
          K)
      by true = h units
      by false = spend_see (ran_at c) (row_state units cells T) asked L K h

  abbrev rows_go : List (Todo ℕ) → RowGo
  rows_go todo x items s = steps_rows book text inner n c j todo x items s

  abbrev steps_go : List (Todo ℕ) → Go
  steps_go todo x items set s = steps book text innerA C j todo x items set s

  -- a step that takes nothing
  sim_nothing : (step : Step) (x units : ℕ) (cells : List Cell) (T : List Row) → Here book text C c (suc n) j T →
      ok (parsed (row_of T c).run (Some (step_error book text (scope_of C.path) step (skip_from text x)))
      (state_at c (row_state units cells T)))
      ≡ see (ran_at c)
      (ok (outcome (Some (step_error book text (scope_in text T c) step (skip_from text x))) (row_state units cells T)))
  unfolding see
  sim_nothing step x units cells T h = rw h.standing.scope

  no_names_yet : (T : List Row) → NamesAt text T n []
  unfolding names_above
  no_names_yet T = refl

  -- one step, with what is left behind it
  sim_step : (step : Step) (rest : List (Todo ℕ)) → NoNames rest → GoAlike (rows_go rest) (steps_go rest) →
      GoAlike (rows_go (taking step ∷ rest)) (steps_go (taking step ∷ rest))
  unfolding steps steps_rows see
  sim_step step rest plain f x items units cells T h =
      let k : KeepsGo n c (rows_go rest) = keeps_steps book text n inner inners room c below within j rest in
      unit_see step units cells T (asked_at (row_of T c) ∷ marks_of T c) _ _
      (λ units₁. rw h.standing.scope
      (taken_see (ran_at c) (step_at book text (scope_of C.path) step x) _ _ _ _ _ _ _ _ _ _ _ _ _ _ _ _
      (sim_nothing step x units₁ cells T h)
      (λ t. sim_token (rows_go rest) (steps_go rest) k f t x items units₁ cells T h)
      (λ M. sim_descend book text n inner innerA kin room C c j below within
      (plain_next_rows book text c j rest items) (plain_next book text C j rest items)
      (keeps_plain_next book text n c below within j rest items)
      (sim_plain_next book text n C c j rest plain items) None M x units₁ cells T h tt)
      (λ M. sim_or_absent (rows_go rest) (steps_go rest) k f M rest plain x items units₁ cells T h)
      (λ comma M close y.
      sim_listing (rows_go rest) (steps_go rest) k f comma M close rest plain y items units₁ cells T h)
      (λ y. sim_unopened (rows_go rest) (steps_go rest) k f y items units₁ cells T h)
      (λ close M y. makes_see (ran_at c) _ (plain_make text Cell.empty) (row_state units₁ cells T)
      (asked_at (row_of T c) ∷ marks_of T c) _ _
      (λ cell units₂ cells₂. sim_name_choice book text n inner innerA kin room C c j below within rest plain
      [] cell close M y items units₂ cells₂ T h (no_names_yet T)))
      (λ M. makes_see (ran_at c) _ (plain_make text Cell.absent) (row_state units₁ cells T)
      (asked_at (row_of T c) ∷ marks_of T c) _ _
      (λ cell units₂ cells₂. sim_body book text n inner innerA kin room C c j below within rest plain
      None M cell x items units₂ cells₂ T h tt))))

  pub sim_steps : (todo : List (Todo ℕ)) (x items units : ℕ) (cells : List Cell) (T : List Row) →
      Here book text C c (suc n) j T → NamesIn text T n todo →
      steps_go todo x items (row_of T c).run (state_at c (row_state units cells T))
      ≡ see (ran_at c) (rows_go todo x items (row_state units cells T))
  unfolding steps steps_rows NamesIn
  sim_steps [] x items units cells T h is = sim_complete x items units cells T h
  sim_steps (taking step ∷ rest) x items units cells T h is =
      sim_step step rest is
      (λ x items units cells T h. sim_steps rest x items units cells T h (no_names_in text T n rest is))
      x items units cells T h
  sim_steps (elements comma M values close ∷ rest) x items units cells T h is =
      sim_choice (rows_go rest) (steps_go rest) (keeps_steps book text n inner inners room c below within j rest)
      (λ x items units cells T h. sim_steps rest x items units cells T h (no_names_in text T n rest is))
      comma M values close rest is x items units cells T h
  sim_steps (ending values close ∷ rest) x items units cells T h is =
      sim_stops (rows_go rest) (steps_go rest) (keeps_steps book text n inner inners room c below within j rest)
      (λ x items units cells T h. sim_steps rest x items units cells T h (no_names_in text T n rest is))
      values close x items units cells T h
  sim_steps (naming names kinds close M ∷ rest) x items units cells T h is =
      sim_name_choice book text n inner innerA kin room C c j below within rest is.1
      names kinds close M x items units cells T h is.0
  sim_steps (closing names kinds close M ∷ rest) x items units cells T h is =
      sim_opens book text n inner innerA kin room C c j below within rest is.1
      names kinds close M x items units cells T h is.0
