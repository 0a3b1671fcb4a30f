-- What is held by the run of lists and steps, and, by recursion on the levels of nesting, by the whole run: its table,
-- its values and its set. The plan is in ForwardCalls.
use Rattle.std.specs.Prelude.{◌≡◌, Bool, true, length}
use Rattle.std.proofs.Common.{sym, ◌∙◌}
use Rattle.std.proofs.Math.Path.{ap, subst}
use mathlib.Core.List.{List, [], ◌∷◌}
use Rattle.std.specs.Prelude.{Option, None, Some}
use Prim.Native.Nat.{ℕ, zero, suc, ◌≤◌}
use native.Mathlib.Omega.{arith}
use Rattle.characters.specs.Cases.{by_test}
use Rattle.characters.specs.Classes.{between}
use Rattle.characters.specs.Skipping.{skip_from}
use Rattle.book.specs.Book.{Book, nth_variant, step_number}
use Rattle.book.specs.declared.records.Step.{Step}
use Rattle.semantics.specs.Values.{Parse}
use Rattle.semantics.specs.Uses.{Scope, scope_of}
use Rattle.semantics.specs.Steps.{Token, Taken, step_at, closed, Todo, taking, elements, ending, naming, closing}
use Rattle.semantics.specs.Cells.{Cell}
use Rattle.semantics.specs.Run.{ok, ◌>>=◌, State, Parsed, Call, Runner, Go, make, with_token, plain_next, list_next}
use Rattle.semantics.specs.Run.{stops, step_unit, or_absent, choice, listing, steps, runner, run}
use Rattle.semantics.proofs.Theorem.Lists.{◌∈◌}
use Rattle.semantics.proofs.Theorem.Results.{ok_inj, none_some, after, option_cases, some_inj, taken_cases}
use Rattle.semantics.proofs.Theorem.Tokens.{AddsFit, token_fits}
use Rattle.semantics.proofs.Theorem.Sets.{Distinct}
use Rattle.semantics.proofs.Theorem.Table.{Table, no_cells, Item, prefix_refl}
use Rattle.semantics.proofs.Theorem.Holding.{Tabled, Grown, Gives, Ready, Left, Wants, ListLeft, grown_refl}
use Rattle.semantics.proofs.Theorem.Holding.{grown_then, gives_from, gives_ok, ready_still, gives_set, left_still}
use Rattle.semantics.proofs.Theorem.Holding.{wants_still, wants_take, list_still, naming_left, closing_left}
use Rattle.semantics.proofs.Theorem.Holding.{elements_left, ending_left, holds_none}
use Rattle.semantics.proofs.Theorem.HoldingCells.{new_empty, new_list, new_absent, with_cell_onward}
use Rattle.semantics.proofs.Theorem.HoldingCells.{with_token_onward, complete_gives}
use Rattle.semantics.proofs.Theorem.ForwardCalls.{PassingChild, spend_grown, Good, GoodGo, plain_next_good}
use Rattle.semantics.proofs.Theorem.ForwardCalls.{list_next_good, enter_gives, child_gives, sides_give}
use Rattle.semantics.proofs.Theorem.ForwardBinders.{opens_give, name_choice_gives, names_give, body_alone_gives}

-- what the run of a text ends with
pub record Kept (text : List ℕ) (r : Parsed) : Type 0 where
  pub table : Table text r.state.cells
  pub cells : length r.state.cells ≤ 4096
  pub values : (p : Parse ℕ) → p ∈ r.set → Item text r.state.cells p.value
  pub distinct : Distinct r.set
  pub size : length r.set ≤ 64

child_token : {M : ℕ} {t : Token} → Taken.child M ≡ Taken.token t → ⊥
child_token e = let z : ◌≡◌ {A = ℕ} 0 1 = cc in omega arith

child_names : {M close N y : ℕ} → Taken.child M ≡ Taken.names close N y → ⊥
child_names e = let z : ◌≡◌ {A = ℕ} 0 1 = cc in omega arith

child_body : {M N : ℕ} → Taken.child M ≡ Taken.body N → ⊥
child_body e = let z : ◌≡◌ {A = ℕ} 0 1 = cc in omega arith

module _ (book : Book) (text : List ℕ) (passing_ok : PassingChild book) where
  -- ---- Lists, optional children and tokens
  stops_give : (c : Call) (j values : ℕ) (close : Option ℕ) (rest : List (Todo ℕ)) (go : Go) →
      GoodGo book text c j rest go →
      (x items : ℕ) (set : List (Parse ℕ)) (s : State) (r : Parsed) → Ready text s.cells c set →
      ListLeft book text s.cells j values rest items →
      stops book text j values close go x items set s ≡ ok r → Gives text s.cells r
  unfolding stops
  stops_give c j values close rest go good x items set s r h l e =
      after _ _ e (λ a listed next.
      let new = new_list s a h.tabled values l.chain listed in
      let h' = ready_still new.grown h in
      gives_from new.grown
      (option_cases (closed text close x)
      (λ unclosed. gives_ok (rw unclosed at next) (gives_set h'))
      (λ y there. after _ _ (rw there at next) (λ m linked ran.
      let w = wants_still rest items new.grown.prefix l.wants in
      let o = with_cell_onward book text j rest items a.cell a.state m h'.tabled w new.item linked in
      gives_from o.grown (good y m.cell set m.state r (ready_still o.grown h') o.left ran)))))

  module _ (inner : Option Runner) (goods : (f : Runner) → inner ≡ Some f → Good book text f) where
    module _ (c : Call) (j : ℕ) (rest : List (Todo ℕ)) (go : Go) (good : GoodGo book text c j rest go) where
      or_absent_gives : (M x items : ℕ) (set : List (Parse ℕ)) (s : State) (r : Parsed) → Ready text s.cells c set →
          Wants book text s.cells j rest items →
          or_absent book text inner c j M rest go x items set s ≡ ok r → Gives text s.cells r
      unfolding or_absent
      or_absent_gives M x items set s r h w e =
          after _ _ e (λ absent missing e₁. after _ _ e₁ (λ m linked e₂.
          after _ _ e₂ (λ a ran e₃. after _ _ e₃ (λ b entered e₄. after _ _ e₄ (λ d tried is.
          let new = new_absent s absent h.tabled missing in
          let w' = wants_still rest items new.grown.prefix w in
          let o =
          with_cell_onward book text j rest items absent.cell absent.state m
          new.grown.tabled w' new.item linked in
          let way = grown_then new.grown o.grown in
          let g = gives_from way (good x m.cell set m.state a (ready_still way h) o.left ran) in
          gives_ok is
          (sides_give book text passing_ok inner goods c j M x (plain_next book text c j rest items) set s a b d
          (plain_next_good book text s.cells c j rest items w) h g entered tried))))))

      choice_gives : (comma : Bool) (M values : ℕ) (close : Option ℕ) (x items : ℕ) (set : List (Parse ℕ)) (s : State)
          (r : Parsed) → Ready text s.cells c set → ListLeft book text s.cells j values rest items →
          choice book text inner c j comma M values close rest go x items set s ≡ ok r → Gives text s.cells r
      unfolding choice
      choice_gives comma M values close x items set s₀ r h₀ l₀ e =
          after _ _ e
          (λ s spent e₁. after _ _ e₁ (λ a stopped e₂. after _ _ e₂ (λ b entered e₃. after _ _ e₃ (λ d tried is.
          let way = spend_grown s₀ s h₀.tabled spent in
          let h = ready_still way h₀ in
          let l = list_still rest items way.prefix l₀ in
          let g = stops_give c j values close rest go good x items set s a h l stopped in
          gives_ok is
          (gives_from way
          (sides_give book text passing_ok inner goods c j M x
          (list_next book text c j comma M values close rest items) set s a b d
          (list_next_good book text s.cells c j comma M values close rest items l) h g entered tried))))))

      listing_gives :
          (comma : Bool) (M : ℕ) (close : Option ℕ) (x items : ℕ) (set : List (Parse ℕ)) (s : State) (r : Parsed) →
          Ready text s.cells c set → Wants book text s.cells j rest items →
          listing book text inner c j comma M close rest go x items set s ≡ ok r → Gives text s.cells r
      unfolding listing
      listing_gives comma M close x items set s r h w e =
          after _ _ e (λ m begun next.
          let new = new_empty s m h.tabled begun in
          gives_from new.grown
          (choice_gives comma M m.cell close x items set m.state r (ready_still new.grown h)
          (record { chain = new.chain; wants = wants_still rest items new.grown.prefix w }) next))

      unopened_gives : (x items : ℕ) (set : List (Parse ℕ)) (s : State) (r : Parsed) → Ready text s.cells c set →
          Wants book text s.cells j rest items →
          (make text Cell.empty s >>= (λ m. stops book text j m.cell None go x items set m.state)) ≡ ok r →
          Gives text s.cells r
      unopened_gives x items set s r h w e =
          after _ _ e (λ m begun next.
          let new = new_empty s m h.tabled begun in
          gives_from new.grown
          (stops_give c j m.cell None rest go good x items set m.state r (ready_still new.grown h)
          (record { chain = new.chain; wants = wants_still rest items new.grown.prefix w }) next))

      token_gives : (t : Token) (items : ℕ) (set : List (Parse ℕ)) (s : State) (r : Parsed) →
          Ready text s.cells c set →
          Wants book text s.cells j rest items → ((nth_variant book j).passing ≡ true → ⊥) → AddsFit text t.item →
          (with_token book text j items t.item s >>= (λ m. go t.next m.cell set m.state)) ≡ ok r →
          Gives text s.cells r
      token_gives t items set s r h w not_passing fits e =
          after _ _ e (λ m linked ran.
          let o = with_token_onward book text j rest items t.item s m h.tabled w not_passing fits linked in
          gives_from o.grown (good t.next m.cell set m.state r (ready_still o.grown h) o.left ran))

    -- ---- Steps
    -- the one step of a passing variant is a child
    passing_child : {C : List Cell} (j : ℕ) (scope : Scope) (step : Step) (rest : List (Todo ℕ)) (x items : ℕ) →
        Left book text C j (taking step ∷ rest) items → (nth_variant book j).passing ≡ true →
        (M : ℕ) × (step_at book text scope step x ≡ Taken.child M)
    unfolding step_at
    passing_child j scope step rest x items l passing =
        let k = (l.passing passing).0 in (k.0, ap (λ (z : Step). step_at book text scope z x) k.1)

    unit_grown : (step : Step) (s t : State) → Tabled text s.cells → step_unit book text inner step s ≡ ok t →
        Grown text s.cells t.cells
    unfolding step_unit
    unit_grown step s t h e =
        by_test (between 10 11 (step_number step))
        (λ p. subst (λ (z : State). Grown text s.cells z.cells) (ok_inj (rw p at e)) (grown_refl h))
        (λ p. spend_grown s t h (rw p at e))

    take_gives : (c : Call) (j : ℕ) (step : Step) (rest : List (Todo ℕ)) →
        GoodGo book text c j rest (steps book text inner c j rest) →
        GoodGo book text c j (taking step ∷ rest) (steps book text inner c j (taking step ∷ rest))
    unfolding steps
    take_gives c j step rest good x items set s₀ r h₀ l₀ e =
        after _ _ e (λ s unit ran.
        let way = unit_grown step s₀ s h₀.tabled unit in
        let h = ready_still way h₀ in
        let l = left_still (taking step ∷ rest) items way.prefix l₀ in
        let w = wants_take l in
        gives_from way
        (taken_cases (step_at book text (scope_of c.path) step x)
        (λ takes. gives_ok (rw takes at ran) (gives_set h))
        (λ t takes.
        token_gives c j rest _ good t items set s r h w
        (λ p. child_token (sym (passing_child j (scope_of c.path) step rest x items l p).1 ∙ takes))
        (token_fits book text (scope_of c.path) x step t takes) (rw takes at ran))
        (λ M takes. after _ _ (rw takes at ran) (λ a entered next.
        child_gives book text passing_ok inner goods s.cells None c j M x _
        (plain_next_good book text s.cells c j rest items w) set s a r
        (prefix_refl s.cells) h entered next))
        (λ M takes. or_absent_gives c j rest _ good M x items set s r h w (rw takes at ran))
        (λ comma M close y takes. listing_gives c j rest _ good comma M close y items set s r h w (rw takes at ran))
        (λ y takes. unopened_gives c j rest _ good y items set s r h w (rw takes at ran))
        (λ close M y takes.
        names_give book text passing_ok inner goods c j rest close M y items set s r h w
        (λ p. child_names (sym (passing_child j (scope_of c.path) step rest x items l p).1 ∙ takes))
        (rw takes at ran))
        (λ M takes.
        body_alone_gives book text passing_ok inner goods c j rest M x items set s r h w
        (λ p. child_body (sym (passing_child j (scope_of c.path) step rest x items l p).1 ∙ takes))
        (rw takes at ran))))

    steps_give : Good book text (steps book text inner)
    unfolding steps
    steps_give c j [] x items set s r h l e = complete_gives book text j x items set s r h l e
    steps_give c j (elements comma M values close ∷ rest) x items set s r h l e =
        choice_gives c j rest (steps book text inner c j rest) (steps_give c j rest) comma M values close x items set
        s r h (elements_left l) e
    steps_give c j (ending values close ∷ rest) x items set s r h l e =
        stops_give c j values close rest (steps book text inner c j rest) (steps_give c j rest) x items
        set s r h (ending_left l) e
    steps_give c j (naming names kinds close M ∷ rest) x items set s r h l e =
        name_choice_gives book text passing_ok inner goods c j rest names kinds close M x items set s r h
        (naming_left l) e
    steps_give c j (closing names kinds close M ∷ rest) x items set s r h l e =
        opens_give book text passing_ok inner goods c j rest names kinds close M x items set s r h (closing_left l) e
    steps_give c j (taking step ∷ rest) x items set s r h l e =
        take_gives c j step rest (steps_give c j rest) x items set s r h l e

  -- ---- The whole run
  runner_good : (n : ℕ) (f : Runner) → runner book text n ≡ Some f → Good book text f
  unfolding runner
  runner_good zero f e = absurd (none_some e)
  runner_good (suc n) f e = subst (Good book text) (some_inj e) (steps_give (runner book text n) (runner_good n))

  -- the table, the values and the set with which the run ends
  pub run_keeps : (allowance start : ℕ) (r : Parsed) → run book text allowance start ≡ ok r → Kept text r
  unfolding run
  run_keeps allowance start r e =
      let tabled : Tabled text [] = record { table = no_cells; cells = omega arith } in
      let g =
      enter_gives book text passing_ok (runner book text 200) (runner_good 200) [] [] start (skip_from text 0) _ r
      tabled (λ i. holds_none) e in
      record {
        table = g.grown.tabled.table;
        cells = g.grown.tabled.cells;
        values = g.set.values;
        distinct = g.set.distinct;
        size = g.set.size;
      }
