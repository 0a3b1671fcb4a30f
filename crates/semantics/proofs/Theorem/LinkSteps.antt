-- The run does what the relation says, continued: a variant's end, its steps, each by the law of its kind (LinkTail,
-- LinkLists, LinkBinders), and the whole run, by recursion on the levels of nesting.
use Rattle.std.specs.Prelude.{◌≡◌, refl}
use Rattle.std.proofs.Common.{sym, ◌∙◌}
use Rattle.std.proofs.Math.Path.{ap, subst}
use mathlib.Core.List.{List, [], ◌∷◌}
use Rattle.std.specs.Prelude.{Option, None, Some}
use Prim.Native.Nat.{ℕ, zero, suc}
use Rattle.characters.specs.Cases.{by_test}
use Rattle.characters.specs.Classes.{between}
use Rattle.characters.specs.Skipping.{skip_from}
use Rattle.book.specs.Book.{Book, nth_variant, step_number}
use Rattle.book.specs.declared.records.Step.{Step}
use Rattle.semantics.specs.Values.{Tree, Trees, Parse}
use Rattle.semantics.specs.Uses.{scope_of}
use Rattle.semantics.specs.Steps.{Token, Taken, step_at, Todo, taking, elements, ending, naming, closing}
use Rattle.semantics.specs.Derivations.{value_of, with_item}
use Rattle.semantics.specs.Cells.{Cell}
use Rattle.semantics.specs.Run.{ok, ◌>>=◌, State, Parsed, Made, Call, Runner, Go, add, make, with_token, complete}
use Rattle.semantics.specs.Run.{plain_next, enter_child, followed, step_unit, steps, runner, run}
use Rattle.semantics.proofs.Theorem.BigStep.{Enters, s_done, s_nothing, s_token, s_child}
use Rattle.semantics.proofs.Theorem.Results.{ok_inj, some_inj, none_some, after, taken_cases}
use Rattle.semantics.proofs.Theorem.Sets.{joins_nil, add_joins, map_joins, tree}
use Rattle.semantics.proofs.Theorem.Table.{Table}
use Rattle.semantics.proofs.Theorem.Made.{tree_for, Before, Way, way_refl, make_way, made_variant, Stands}
use Rattle.semantics.proofs.Theorem.Made.{with_token_ok}
use Rattle.semantics.proofs.Theorem.Link.{trees, RunOk as RunOkOf, Good as GoodOf, finds_from, spend_way, enter_ok}
use Rattle.semantics.proofs.Theorem.LinkTail.{plain_next_ok, tail_ok}
use Rattle.semantics.proofs.Theorem.LinkLists.{GoodGo, stops_ok, unopened_ok, choice_ok, or_absent_ok, listing_ok}
use Rattle.semantics.proofs.Theorem.LinkBinders.{opens_ok, name_choice_ok, names_ok, body_alone_ok}

module _ (book : Book) (text : List ℕ) (Cf : List Cell) (table : Table text Cf) where
  abbrev RunOk : Call → ℕ → List (Todo ℕ) → ℕ → ℕ → List (Parse ℕ) → State → List (Parse ℕ) → State → Type 0
  RunOk = RunOkOf book text Cf table

  abbrev Good : Runner → Type 0
  Good = GoodOf book text Cf table

  -- ---- A variant's end
  -- a variant's end: its value, and its parse
  completed_ok : (c : Call) (j x items : ℕ) (set all : List (Parse ℕ)) (s : State) (m : Made) → Way Cf s m.state →
      ((ts : Trees) → Stands text Cf table book j items ts → tree_for text Cf m.cell ≡ value_of book j ts) →
      add m.state set (record {
        rest = x;
        level = (nth_variant book j).level;
        associativity = (nth_variant book j).associativity;
        value = m.cell;
      }) ≡ ok all → RunOk c j [] x items set s all m.state
  completed_ok c j x items set all s m w means e = record {
    back = w.back;
    finds = λ ts h. finds_from book text Cf table w (record {
      R =
          tree (tree_for text Cf) (record {
            rest = x;
            level = (nth_variant book j).level;
            associativity = (nth_variant book j).associativity;
            value = m.cell;
          }) ∷ [];
      run = s_done (ap (λ v. record {
        rest = x;
        level = (nth_variant book j).level;
        associativity = (nth_variant book j).associativity;
        value = v;
      } ∷ []) (means ts h));
      joins = map_joins (tree (tree_for text Cf)) (add_joins m.state set _ e);
    });
  }

  complete_ok : (c : Call) (j x items : ℕ) (set : List (Parse ℕ)) (s : State) (r : Parsed) →
      complete book text j x items set s ≡ ok r → Before Cf r.state →
      RunOk c j [] x items set s r.set r.state
  unfolding complete
  complete_ok c j x items set s r e b =
      after _ _ e (λ m made e₁. after _ _ e₁ (λ all added is.
      subst (λ (z : Parsed). Before Cf z.state → RunOk c j [] x items set s z.set z.state) (ok_inj is)
      (λ b'. by_test (nth_variant book j).passing
      (λ p. let same = ok_inj (rw p at made) in
      completed_ok c j x items set all s m
      (subst (λ (z : Made). Before Cf z.state → Way Cf s z.state) same way_refl b')
      (λ ts h. ap (λ (z : Made). tree_for text Cf z.cell) (sym same) ∙ h.passing p ∙ rw p refl) added)
      (λ p. let made' : make text (Cell.variant j items) s ≡ ok m = rw p at made in
      completed_ok c j x items set all s m (make_way text Cf table s m (Cell.variant j items) made' b')
      (λ ts h. made_variant text Cf table s m j items made' b' ∙ ap (Tree.variant j) (h.plain p) ∙ rw p refl) added))
      b))

  -- ---- Steps
  nothing_ok :
      (c : Call) (j : ℕ) (step : Step) (rest : List (Todo ℕ)) (x items : ℕ) (set : List (Parse ℕ)) (s : State) →
      step_at book text (scope_of c.path) step x ≡ Taken.nothing → Before Cf s →
      RunOk c j (taking step ∷ rest) x items set s set s
  nothing_ok c j step rest x items set s takes b =
      record { back = b; finds = λ ts h. record { R = []; run = s_nothing takes; joins = joins_nil } }

  token_ok : (c : Call) (j : ℕ) (step : Step) (t : Token) (rest : List (Todo ℕ)) (go : Go) →
      GoodGo book text Cf table c j rest go → (x items : ℕ) (set : List (Parse ℕ)) (s : State) (r : Parsed) →
      step_at book text (scope_of c.path) step x ≡ Taken.token t →
      (with_token book text j items t.item s >>= (λ m. go t.next m.cell set m.state)) ≡ ok r →
      Before Cf r.state →
      RunOk c j (taking step ∷ rest) x items set s r.set r.state
  token_ok c j step t rest go good x items set s r takes e b =
      after _ _ e (λ m made went.
      let w = good t.next m.cell set m.state r went b in
      let v = with_token_ok text Cf table book j items t.item s m made w.back in
      record {
        back = v.way.back;
        finds = λ ts h.
            let g = finds_from book text Cf table v.way (w.finds (with_item text ts t.item) (v.stands ts h)) in
            record { R = g.R; run = s_token takes g.run; joins = g.joins };
      })

  run_from :
      (c : Call) (j : ℕ) (todo : List (Todo ℕ)) (x items : ℕ) (set : List (Parse ℕ)) (s t : State) (r : Parsed) →
      (Before Cf t → Way Cf s t) →
      RunOk c j todo x items set t r.set r.state → RunOk c j todo x items set s r.set r.state
  run_from c j todo x items set s t r w o =
      let v = w o.back in
      record { back = v.back; finds = λ ts h. finds_from book text Cf table v (o.finds ts h) }

  module _ (inner : Option Runner) (goods : (f : Runner) → inner ≡ Some f → Good f) where
    unit_way : (step : Step) (s t : State) → step_unit book text inner step s ≡ ok t → Before Cf t → Way Cf s t
    unfolding step_unit
    unit_way step s t e b =
        by_test (between 10 11 (step_number step))
        (λ p. subst (λ z. Before Cf z → Way Cf s z) (ok_inj (rw p at e)) way_refl b)
        (λ p. spend_way book text Cf table s t (rw p at e) b)

    child_ok : (c : Call) (j M : ℕ) (step : Step) (rest : List (Todo ℕ)) (x items : ℕ) (set : List (Parse ℕ))
        (s : State) (r : Parsed) → step_at book text (scope_of c.path) step x ≡ Taken.child M →
        (enter_child book text inner None c j M x s
        >>= (λ d. followed book text inner (plain_next book text c j rest items) set d)) ≡ ok r → Before Cf r.state →
        RunOk c j (taking step ∷ rest) x items set s r.set r.state
    child_ok c j M step rest x items set s r takes e b =
        after _ _ e (λ d entered went.
        let t = tail_ok book text Cf table inner goods None c j M x items _ _
        (plain_next_ok book text Cf table c j rest items) set s d r entered went b in
        record {
          back = t.back;
          finds = λ ts h.
              let g = t.finds ts h in record { R = g.R; run = s_child takes t.called g.run; joins = g.joins };
        })

    steps_ok : Good (steps book text inner)
    unfolding steps
    steps_ok c j [] x items set s r e b = complete_ok c j x items set s r e b
    steps_ok c j (elements comma M values close ∷ rest) x items set s r e b =
        choice_ok book text Cf table inner goods c j comma M values close rest (steps book text inner c j rest)
        (λ y is u t q d b'. steps_ok c j rest y is u t q d b') x items set s r e b
    steps_ok c j (ending values close ∷ rest) x items set s r e b =
        stops_ok book text Cf table c j values close rest (steps book text inner c j rest)
        (λ y is u t q d b'. steps_ok c j rest y is u t q d b') x items set s r e b
    steps_ok c j (naming names kinds close M ∷ rest) x items set s r e b =
        name_choice_ok book text Cf table inner goods c j names kinds close M rest x items set s r e b
    steps_ok c j (closing names kinds close M ∷ rest) x items set s r e b =
        opens_ok book text Cf table inner goods c j names kinds close M rest x items set s r e b
    steps_ok c j (taking step ∷ rest) x items set s₀ r e b =
        let go = steps book text inner c j rest in
        let good : GoodGo book text Cf table c j rest go = λ y is u t q d b'. steps_ok c j rest y is u t q d b' in
        after _ _ e (λ s unit ran.
        run_from c j (taking step ∷ rest) x items set s₀ s r (λ b'. unit_way step s₀ s unit b')
        (taken_cases (step_at book text (scope_of c.path) step x)
        (λ takes.
        subst (λ (z : Parsed). Before Cf z.state → RunOk c j (taking step ∷ rest) x items set s z.set z.state)
        (ok_inj (rw takes at ran)) (nothing_ok c j step rest x items set s takes) b)
        (λ t takes. token_ok c j step t rest go good x items set s r takes (rw takes at ran) b)
        (λ M takes. child_ok c j M step rest x items set s r takes (rw takes at ran) b)
        (λ M takes. or_absent_ok book text Cf table inner goods c j M step rest go good x items set s r takes
        (rw takes at ran) b)
        (λ comma M close y takes.
        listing_ok book text Cf table inner goods c j step comma M close rest go good x y items set s r takes
        (rw takes at ran) b)
        (λ y takes. unopened_ok book text Cf table c j step rest go good x y items set s r takes (rw takes at ran) b)
        (λ close M y takes. names_ok book text Cf table inner goods c j step close M rest x y items set s r takes
        (rw takes at ran) b)
        (λ M takes. body_alone_ok book text Cf table inner goods c j M step rest x items set s r takes
        (rw takes at ran) b)))

  -- ---- The whole run
  runner_ok : (n : ℕ) (f : Runner) → runner book text n ≡ Some f → Good f
  unfolding runner
  runner_ok zero f e = absurd (none_some e)
  runner_ok (suc n) f e = subst Good (some_inj e) (steps_ok (runner book text n) (runner_ok n))

  -- what the run of a text finds, the relation finds
  pub run_ok : (allowance start : ℕ) (r : Parsed) → run book text allowance start ≡ ok r → Before Cf r.state →
      Enters book text [] [] [] start (skip_from text 0) (trees text Cf r.set) r.state.asked
  unfolding run
  run_ok allowance start r e b =
      (enter_ok book text Cf table (runner book text 200) (runner_ok 200) [] [] start (skip_from text 0) _ r e b).run
