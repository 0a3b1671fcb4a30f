-- From the start of a run to its end, every cell number that it holds is a cell of the table, and stands for a tree or
-- a chain, as it should.
--
-- The plan. A part of the run begins with what is held (`Ready`, `Left`); if it has a result, then it has only added
-- cells, and its set holds (`Gives`). Each part has one law of this kind, in the order in which the run is defined; a
-- level of nesting takes the law of the level inside it (`Good`). Here: calls, and a child with what follows its
-- parses. ForwardBinders has binders, Forward the other steps and the whole run. What is held is in Holding, and
-- the cells that are made are in HoldingCells.
use Rattle.std.specs.Prelude.{◌≡◌, refl, Bool, true, leb, ltb}
use Rattle.std.proofs.Common.{subst, arith}
use mathlib.Core.List.Memᴰ
use mathlib.Core.List.{List, [], ◌∷◌}
use Rattle.std.specs.Prelude.{Option, None, Some}
use Prim.Native.Nat.{ℕ, zero, suc, ◌-◌}
use Rattle.characters.specs.Cases.{by_test}
use Rattle.characters.specs.Skipping.{skip_from}
use Rattle.book.specs.Book.{Entry, Book, nth_nonterminal, nth_variant}
use Rattle.book.specs.declared.records.Step.{Step}
use Rattle.semantics.specs.Values.{Parse}
use Rattle.semantics.specs.Uses.{Path, has_mark, governor}
use Rattle.semantics.specs.Tokens.{free_end, claimed}
use Rattle.semantics.specs.Steps.{after_element, Todo, elements, ending, steps_of, todo_of}
use Rattle.semantics.specs.Cells.{Cell}
use Rattle.semantics.specs.Errors.{Error}
use Rattle.semantics.specs.Run.{Result, ok, ◌>>=◌, State, Parsed, Call, call, with_mine, Runner, Go, Next, all_in}
use Rattle.semantics.specs.Run.{kept, newest, spend, chosen, variants, one_run, rounds, run_call, named}
use Rattle.semantics.specs.Run.{run_identifier, plain_next, list_next, nested, reentry, enter, enter_child}
use Rattle.semantics.specs.Run.{follow_more, follow, followed}
use Rattle.semantics.proofs.Theorem.Lists.{◌∈◌, nth}
use Rattle.semantics.proofs.Theorem.Results.{met_ok, ok_inj, after, option_cases, list_cases, governor_cases}
use Rattle.semantics.proofs.Theorem.Results.{after_cases, nested_run, chosen_same}
use Rattle.semantics.proofs.Theorem.Tokens.{free_end_within}
use Rattle.semantics.proofs.Theorem.Table.{Item, Prefix, prefix_then, item_still, chain_still}
use Rattle.semantics.proofs.Theorem.Holding.{Tabled, Grown, Held, Gives, Ready, Left, Wants, ListLeft, grown_refl}
use Rattle.semantics.proofs.Theorem.Holding.{gives_from, gives_ok, holds_still, ready_still, ready_after}
use Rattle.semantics.proofs.Theorem.Holding.{gives_set, wants_still, left_elements, left_ending, holds_none}
use Rattle.semantics.proofs.Theorem.Holding.{holds_one, holds_kept, holds_all}
use Rattle.semantics.proofs.Theorem.HoldingCells.{new_link, new_name, begin_onward, with_cell_onward}

-- a passing variant has one step, which is a child
abbrev pub PassingChild : Book → Type 0
PassingChild book = (j : ℕ) → (nth_variant book j).passing ≡ true →
    (M : ℕ) × (steps_of book (nth_variant book j) ≡ Step.Nonterminal M ∷ [])

-- ---- States and results that differ in nothing that is held
pub spend_grown : {text : List ℕ} (s t : State) → Tabled text s.cells → spend s ≡ ok t →
    Grown text s.cells t.cells
unfolding spend
spend_grown {text} s t h e =
    by_test (ltb 0 s.units)
    (λ p. subst (λ (z : State). Grown text s.cells z.cells) (ok_inj (rw p at e)) (grown_refl h))
    (λ p. absurd (met_ok (rw p at e)))

pub chosen_gives : {text : List ℕ} {C : List Cell} (c : Call) (at : ℕ) (a : Option Error) (b : Parsed) →
    Gives text C b → Gives text C (chosen c at a b)
chosen_gives {text} {C} c at a b g =
    let k = chosen_same c at a b (λ out t. Grown text C t.cells × Held text t.cells out) (g.grown, g.set) in
    record { grown = k.0; set = k.1 }

module _ (book : Book) (text : List ℕ) where
  -- the law of what is left of a variant
  abbrev pub Good : Runner → Type 0
  Good f =
      (c : Call) (j : ℕ) (todo : List (Todo ℕ)) (x items : ℕ) (set : List (Parse ℕ)) (s : State) (r : Parsed) →
      Ready text s.cells c set →
      Left book text s.cells j todo items → f c j todo x items set s ≡ ok r → Gives text s.cells r

  -- the law of what is left on the same level, behind a list or a step
  abbrev pub GoodGo : Call → ℕ → List (Todo ℕ) → Go → Type 0
  GoodGo c j rest go = (x items : ℕ) (set : List (Parse ℕ)) (s : State) (r : Parsed) → Ready text s.cells c set →
      Left book text s.cells j rest items → go x items set s ≡ ok r → Gives text s.cells r

  -- the law of what follows a child's parse, where C are the cells with which the step began
  abbrev pub GoodNext : List Cell → Call → Next → Type 0
  GoodNext C c next =
      (q : Parse ℕ) (s : State) (f : Runner) (set : List (Parse ℕ)) (r : Parsed) → Good f → Prefix C s.cells →
      Ready text s.cells c set → Item text s.cells q.value → next q s f set ≡ ok r → Gives text s.cells r

  -- ---- What follows a child's parse
  pub plain_next_good : (C : List Cell) (c : Call) (j : ℕ) (rest : List (Todo ℕ)) (items : ℕ) →
      Wants book text C j rest items → GoodNext C c (plain_next book text c j rest items)
  unfolding plain_next
  plain_next_good C c j rest items w q s f set r good p h i e =
      after _ _ e (λ m linked ran.
      let o =
      with_cell_onward book text j rest items q.value s m h.tabled (wants_still rest items p w) i linked in
      gives_from o.grown
      (good c j rest q.rest m.cell set m.state r (ready_still o.grown h) o.left ran))

  pub list_next_good : (C : List Cell) (c : Call) (j : ℕ) (comma : Bool) (M values : ℕ) (close : Option ℕ)
      (rest : List (Todo ℕ)) (items : ℕ) →
      ListLeft book text C j values rest items → GoodNext C c (list_next book text c j comma M values close rest items)
  unfolding list_next
  list_next_good C c j comma M values close rest items l q s f set r good p h i e =
      after _ _ e (λ m linked ran.
      let new = new_link s m h.tabled values q.value (chain_still text p values l.chain) i linked in
      let h' = ready_still new.grown h in
      let w = wants_still rest items (prefix_then p new.grown.prefix) l.wants in
      let l' : ListLeft book text m.state.cells j m.cell rest items =
      record { chain = new.chain; wants = w } in
      gives_from new.grown
      (after_cases (after_element text comma q.rest)
      (λ y there.
      good c j (elements comma M m.cell close ∷ rest) y items set m.state r h'
      (left_elements l') (rw there at ran))
      (λ y there.
      good c j (ending m.cell close ∷ rest) y items set m.state r h' (left_ending l') (rw there at ran))))

  -- ---- A mark-2 use, and one at its governor's start
  identifier_gives : (c : Call) (s : State) (r : Parsed) → Tabled text s.cells →
      run_identifier book text c s ≡ ok r → Gives text s.cells r
  unfolding run_identifier named
  identifier_gives c s r h e =
      by_test (claimed book text c.path c.start)
      (λ t. gives_ok (rw t at e) (record { grown = grown_refl h; set = holds_none }))
      (λ t. option_cases (free_end book text c.start)
      (λ nowhere. gives_ok (rw nowhere at (rw t at e)) (record { grown = grown_refl h; set = holds_none }))
      (λ end there. after _ _ (rw there at (rw t at e)) (λ m named is.
      let within = free_end_within book text c.start end there in
      let new = new_name s m h c.start (end - c.start) (omega (arith, within.0, within.1)) named in
      gives_ok is (record { grown = new.grown; set = holds_one new.item }))))

  reentry_gives : (inner : Option Runner) (l : List (Parse ℕ)) (d : Error) (s : State) → Tabled text s.cells →
      Held text s.cells l → Gives text s.cells (reentry book text inner l d s)
  unfolding reentry
  reentry_gives inner [] d s h l = record { grown = grown_refl h; set = l }
  reentry_gives inner (p ∷ ps) d s h l = record { grown = grown_refl h; set = l }

module _ (book : Book) (text : List ℕ) (passing_ok : PassingChild book) where
  -- ---- A call
  module _ (f : Runner) (good : Good book text f) where
    variants_give : (c : Call) (m n j : ℕ) (set : List (Parse ℕ)) (d : Option Error) (s : State) (r : Parsed) →
        Ready text s.cells c set → variants book text f c m n j set d s ≡ ok r → Gives text s.cells r
    unfolding variants
    variants_give c m zero j set d s r h e = gives_ok e (gives_set h)
    variants_give c m (suc n) j set d s r h e =
        by_test (leb m (nth_variant book j).level)
        (λ t. after _ _ (rw t at e) (λ b begun next.
        after _ _ next (λ a ran others.
        let o = begin_onward book text j (passing_ok j) s b h.tabled begun in
        let ran_it =
        good c j (todo_of book (nth_variant book j)) c.start b.cell set b.state a
        (ready_still o.grown h) o.left ran in
        let g = gives_from o.grown ran_it in
        gives_from g.grown (variants_give c m n (suc j) a.set _ a.state r (ready_after h g) others))))
        (λ t. variants_give c m n (suc j) set d s r h (rw t at e))

    one_run_gives : (c : Call) (m : ℕ) (s : State) (r : Parsed) → Ready text s.cells c [] →
        one_run book text f c m s ≡ ok r → Gives text s.cells r
    unfolding one_run
    one_run_gives c m s r h e =
        variants_give c m (nth_nonterminal book c.nonterminal).count
        (nth_nonterminal book c.nonterminal).first [] None s r h e

    -- the call is run again with this set as its own
    again : {C : List Cell} {a : Parsed} (c : Call) (all : List (Parse ℕ)) → Ready text C c [] → Gives text C a →
        Held text a.state.cells all → Ready text a.state.cells (with_mine c all) []
    again c all h g mine =
        let k = ready_still g.grown h in record { tabled = k.tabled; stored = k.stored; mine = mine; set = k.set }

    rounds_give : (n : ℕ) (c : Call) (m : ℕ) (s : State) (r : Parsed) → Ready text s.cells c [] →
        rounds book text n f c m s ≡ ok r → Gives text s.cells r
    unfolding rounds
    rounds_give zero c m s r h e = absurd (met_ok e)
    rounds_give (suc n) c m s r h e =
        after _ _ e (λ a ran next.
        let g = one_run_gives c m s a h ran in
        let mine = holds_still g.grown.prefix h.mine in
        by_test (all_in c.mine a.set)
        (λ t. gives_ok (rw t at next) (record { grown = g.grown; set = mine }))
        (λ t. after _ _ (rw t at next) (λ all joined more.
        gives_from g.grown
        (rounds_give n (with_mine c all) m a.state r
        (again c all h g (holds_all a.state c.mine a.set joined mine g.set)) more))))

    run_call_gives : (c : Call) (m : ℕ) (s : State) (r : Parsed) → Ready text s.cells c [] →
        run_call book text f c m s ≡ ok r → Gives text s.cells r
    unfolding run_call
    run_call_gives c m s r h e =
        after _ _ e (λ a ran next.
        let g = one_run_gives c m s a h ran in
        list_cases a.set
        (λ empty. gives_ok (rw empty at next) (record { grown = g.grown; set = holds_none }))
        (λ p ps found. by_test (newest a.state.asked)
        (λ t. gives_from g.grown (rounds_give 65 (with_mine c a.set) m a.state r (again c a.set h g g.set)
        (rw t at (rw found at next))))
        (λ t. gives_ok (rw t at (rw found at next)) (record { grown = g.grown; set = g.set }))))

  module _ (inner : Option Runner) (goods : (f : Runner) → inner ≡ Some f → Good book text f) where
    opened : {C : List Cell} (P : Path) (S : List (List (Parse ℕ))) (N u : ℕ) → Tabled text C →
        ((i : ℕ) → Held text C (nth S i)) → Ready text C (call P S N u []) []
    opened P S N u h k = record { tabled = h; stored = k; mine = holds_none; set = holds_none }

    pub enter_gives : (P : Path) (S : List (List (Parse ℕ))) (N u : ℕ) (s : State) (r : Parsed) →
        Tabled text s.cells →
        ((i : ℕ) → Held text s.cells (nth S i)) → enter book text inner P S N u s ≡ ok r → Gives text s.cells r
    unfolding enter
    enter_gives P S N u s₀ r h k e =
        after _ _ e (λ s spent next.
        let g = spend_grown s₀ s h spent in
        let stored : (i : ℕ) → Held text s.cells (nth S i) = λ i. holds_still g.prefix (k i) in
        gives_from g
        (governor_cases (governor P N u)
        (λ m gov. nested_run book text inner s _ (rw gov at next) (λ f there ran. by_test (has_mark book 2 N)
        (λ mark. identifier_gives book text (call P S N u []) s r g.tabled (rw mark at ran))
        (λ mark. after _ _ (rw mark at ran) (λ a called is.
        let o = run_call_gives f (goods f there) (call P S N u []) m _ a (opened P S N u g.tabled stored) called in
        gives_ok is (record { grown = o.grown; set = o.set })))))
        (λ i f Q gov. gives_ok (rw gov at next)
        (reentry_gives book text inner (kept f (nth S i)) _ _ g.tabled (holds_kept f (nth S i) (stored i))))))

    -- ---- A child and what follows its parses
    around : {C : List Cell} {set : List (Parse ℕ)} (c : Call) → Ready text C c set → (i : ℕ) →
        Held text C (nth (c.mine ∷ c.stored) i)
    around c h zero = h.mine
    around c h (suc i) = h.stored i

    -- one parse is followed, and then the others
    one_gives : (C : List Cell) (c : Call) (next : Next) → GoodNext book text C c next →
        (q : Parse ℕ) (qs set : List (Parse ℕ)) (s : State) (r : Parsed) (k : Parsed → Result Parsed) →
        Prefix C s.cells → Ready text s.cells c set →
        ((o : Parse ℕ) → o ∈ (q ∷ qs) → Item text s.cells o.value) →
        (nested book text inner s (λ f. next q s f set) >>= k) ≡ ok r →
        ((a : Parsed) → Prefix C a.state.cells → Ready text a.state.cells c a.set →
        ((o : Parse ℕ) → o ∈ qs → Item text a.state.cells o.value) → k a ≡ ok r →
        Gives text a.state.cells r) → Gives text s.cells r
    one_gives C c next good q qs set s r k p h i e others =
        after _ _ e (λ a first_ran then_ran.
        nested_run book text inner s _ first_ran (λ f there ran.
        let g = good q s f set a (goods f there) p h (i q (Memᴰ.head refl)) ran in
        let p' = g.grown.prefix in
        gives_from g.grown
        (others a (prefix_then p p') (ready_after h g)
        (λ o m. item_still text p' o.value (i o (Memᴰ.tail m))) then_ran)))

    follow_more_gives : (C : List Cell) (c : Call) (next : Next) → GoodNext book text C c next →
        (qs set : List (Parse ℕ)) (d : Option Error) (s : State) (r : Parsed) → Prefix C s.cells →
        Ready text s.cells c set → ((q : Parse ℕ) → q ∈ qs → Item text s.cells q.value) →
        follow_more book text inner next qs set d s ≡ ok r → Gives text s.cells r
    unfolding follow_more
    follow_more_gives C c next good [] set d s r p h i e = gives_ok e (gives_set h)
    follow_more_gives C c next good (q ∷ qs) set d s r p h i e =
        one_gives C c next good q qs set s r _ p h i e
        (λ a p' h' i' ran. follow_more_gives C c next good qs a.set _ a.state r p' h' i' ran)

    follow_gives : (C : List Cell) (c : Call) (next : Next) → GoodNext book text C c next →
        (qs set : List (Parse ℕ)) (s : State) (r : Parsed) → Prefix C s.cells →
        Ready text s.cells c set → ((q : Parse ℕ) → q ∈ qs → Item text s.cells q.value) →
        follow book text inner next qs set s ≡ ok r → Gives text s.cells r
    unfolding follow
    follow_gives C c next good [] set s r p h i e = gives_ok e (gives_set h)
    follow_gives C c next good (q ∷ qs) set s r p h i e =
        one_gives C c next good q qs set s r _ p h i e
        (λ a p' h' i' ran. follow_more_gives C c next good qs a.set _ a.state r p' h' i' ran)

    followed_gives : (C : List Cell) (c : Call) (next : Next) → GoodNext book text C c next →
        (set : List (Parse ℕ)) (a r : Parsed) → Prefix C a.state.cells → Ready text a.state.cells c set →
        Held text a.state.cells a.set → followed book text inner next set a ≡ ok r →
        Gives text a.state.cells r
    unfolding followed
    followed_gives C c next good set a r p h k e =
        option_cases a.failure
        (λ fine. follow_gives C c next good a.set set a.state r p h k.values (rw fine at e))
        (λ d failed. gives_ok (rw failed at e) (gives_set h))

    pub child_gives : (C : List Cell) (opening : Option (List Entry)) (c : Call) (j M x : ℕ) (next : Next) →
        GoodNext book text C c next → (set : List (Parse ℕ)) (s : State) (a r : Parsed) →
        Prefix C s.cells → Ready text s.cells c set → enter_child book text inner opening c j M x s ≡ ok a →
        followed book text inner next set a ≡ ok r → Gives text s.cells r
    unfolding enter_child
    child_gives C opening c j M x next good set s a r p h entered e =
        let g = enter_gives _ (c.mine ∷ c.stored) M (skip_from text x) s a h.tabled (around c h) entered in
        gives_from g.grown
        (followed_gives C c next good set a r (prefix_then p g.grown.prefix) (ready_still g.grown h) g.set e)

    -- both sides of a choice: one side has the result a, and then a child is tried
    pub sides_give : (c : Call) (j M x : ℕ) (next : Next) (set : List (Parse ℕ)) (s : State) (a b d : Parsed) →
        GoodNext book text s.cells c next →
        Ready text s.cells c set → Gives text s.cells a →
        enter_child book text inner None c j M x a.state ≡ ok b →
        followed book text inner next a.set b ≡ ok d →
        Gives text s.cells (chosen c (skip_from text x) a.failure d)
    sides_give c j M x next set s a b d good h g entered e =
        chosen_gives c (skip_from text x) a.failure d
        (gives_from g.grown
        (child_gives s.cells None c j M x next good a.set a.state b d g.grown.prefix
        (ready_after h g) entered e))
