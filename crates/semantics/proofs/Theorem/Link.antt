-- The run does what the relation says of the trees that its cells stand for in the table in which it ends. Each law
-- takes a part of the run that has a result, and a table to which that result's cells lead; it gives back that the
-- cells at the beginning lead there too, and what the relation finds. Here: variants, rounds and uses, given that what
-- is left of a variant is run well.
use Rattle.std.specs.Prelude.{◌≡◌, Bool, true, false, leb, ltb, get_or}
use Rattle.std.proofs.Math.Path.{refl, subst}
use Rattle.std.proofs.Common.{sym, ◌∙◌, ap}
use mathlib.Core.List.Memᴰ
use mathlib.Core.List.{List, [], ◌∷◌, ◌++◌, map}
use Rattle.std.specs.Prelude.{Option, None, Some}
use Prim.Native.Nat.{ℕ, zero, suc, ◌-◌}
use Rattle.characters.specs.Cases.{by_test}
use Rattle.book.specs.Book.{Book, nth_nonterminal, nth_variant}
use Rattle.book.specs.declared.records.Associativity.{Associativity}
use Rattle.book.specs.declared.records.Step.{Step}
use Rattle.semantics.specs.Values.{Tree, Trees, no_trees, Parse}
use Rattle.semantics.specs.Uses.{Use, Path, has_mark, minimum, same_start, governor, keeps}
use Rattle.semantics.specs.Tokens.{free_end, claimed}
use Rattle.semantics.specs.Steps.{Todo, taking, elements, ending, naming, closing, steps_of, todo_of}
use Rattle.semantics.specs.Cells.{Cell}
use Rattle.semantics.specs.Errors.{Error}
use Rattle.semantics.specs.Run.{ok, State, Parsed, parsed, Made, Call, call, with_mine, Runner, all_in, kept, ask}
use Rattle.semantics.specs.Run.{newest, others, with_asked, spend, variants, one_run, rounds, run_call, named}
use Rattle.semantics.specs.Run.{run_identifier, reentry, enter}
use Rattle.semantics.proofs.Theorem.Lists.{◌∈◌, sift, nth, Joins, either}
use Rattle.semantics.proofs.Theorem.BigStep.{Open, open', identifiers, Enters, again, identifier, quiet, barren}
use Rattle.semantics.proofs.Theorem.BigStep.{grown, Runs, runs, Rounds, last, more, Variants, no_more, too_low}
use Rattle.semantics.proofs.Theorem.BigStep.{taken, Steps}
use Rattle.semantics.proofs.Theorem.Results.{met_ok, ok_inj, got, after, option_cases, list_cases, governor_cases}
use Rattle.semantics.proofs.Theorem.Results.{nested_run}
use Rattle.semantics.proofs.Theorem.Sets.{joins_nil, joins_append, joins_two, kept_sift, all_in_lem, add_all_joins}
use Rattle.semantics.proofs.Theorem.Sets.{map_joins, map_sub, nth_map, tree, sift_trees}
use Rattle.semantics.proofs.Theorem.Table.{Table}
use Rattle.semantics.proofs.Theorem.Made.{tree_for, trees_for, Before, Way, make_way, made_name, Stands, BeginOk}
use Rattle.semantics.proofs.Theorem.Made.{begin_ok}

-- ---- Sets
none_in : {A : Type 0} (l : List A) → Joins [] [] l → l ≡ []
none_in l h =
    list_cases l (λ e. e) (λ a l' e.
    absurd (either (h.out a (subst (λ k. a ∈ k) (sym e) (Memᴰ.head refl))) Memᴰ.not-nil Memᴰ.not-nil))

joins_as : {A : Type 0} {R T U V' : List A} → Joins R T U → Joins [] U V' → Joins R T V'
joins_as h k = record {
  first = λ p m. k.second p (h.first p m);
  second = λ p m. k.second p (h.second p m);
  out = λ p m. either (k.out p m) (λ n. absurd (Memᴰ.not-nil n)) (λ n. h.out p n);
}

module _ (text : List ℕ) (Cf : List Cell) where
  abbrev pub trees : List (Parse ℕ) → List (Parse Tree)
  trees set = map (tree (tree_for text Cf)) set

  abbrev pub todo_for : Todo ℕ → Todo Trees
  todo_for (taking s) = taking s
  todo_for (elements comma M values close) = elements comma M (trees_for text Cf values) close
  todo_for (ending values close) = ending (trees_for text Cf values) close
  todo_for (naming names kinds close M) = naming names (trees_for text Cf kinds) close M
  todo_for (closing names kinds close M) = closing names (trees_for text Cf kinds) close M

  abbrev pub open_for : Call → Open
  open_for c = open' c.path (map trees c.stored) c.nonterminal c.start (trees c.mine)

  steps_for : (l : List Step) → map todo_for (map taking l) ≡ map taking l
  steps_for [] = refl
  steps_for (s ∷ l) = ap (λ (t : List (Todo Trees)). taking s ∷ t) (steps_for l)

module _ (book : Book) (text : List ℕ) (Cf : List Cell) (table : Table text Cf) where
  -- what the relation finds, of a variant's rest, beside a set
  pub record Finds (c : Call) (j : ℕ) (todo : List (Todo ℕ)) (x : ℕ) (ts : Trees) (set : List (Parse ℕ)) (s : State)
      (out : List (Parse ℕ)) (t : State) : Type 0 where
    pub R : List (Parse Tree)
    pub run : Steps book text (open_for text Cf c) j (map (todo_for text Cf) todo) x ts s.asked R t.asked
    pub joins : Joins (trees text Cf set) R (trees text Cf out)

  pub record RunOk (c : Call) (j : ℕ) (todo : List (Todo ℕ)) (x items : ℕ) (set : List (Parse ℕ)) (s : State)
      (out : List (Parse ℕ)) (t : State) : Type 0 where
    pub back : Before Cf s
    pub finds : (ts : Trees) → Stands text Cf table book j items ts → Finds c j todo x ts set s out t

  abbrev pub Good : Runner → Type 0
  Good f =
      (c : Call) (j : ℕ) (todo : List (Todo ℕ)) (x items : ℕ) (set : List (Parse ℕ)) (s : State) (r : Parsed) →
      f c j todo x items set s ≡ ok r → Before Cf r.state → RunOk c j todo x items set s r.set r.state

  -- from the state before some cells were made
  pub finds_from : {c : Call} {j : ℕ} {todo : List (Todo ℕ)} {x : ℕ} {ts : Trees} {set : List (Parse ℕ)} {s t : State}
      {out : List (Parse ℕ)} {u : State} → Way Cf s t →
      Finds c j todo x ts set t out u → Finds c j todo x ts set s out u
  finds_from {c} {j} {todo} {x} {ts} {u = u} w g = record {
    R = g.R;
    run = subst (λ B. Steps book text (open_for text Cf c) j (map (todo_for text Cf) todo) x ts B g.R u.asked)
        w.asked g.run;
    joins = g.joins;
  }

  -- a state with another work figure
  pub spend_way : (s t : State) → spend s ≡ ok t → Before Cf t → Way Cf s t
  unfolding spend
  spend_way s t e b =
      by_test (ltb 0 s.units)
      (λ p. subst (λ z. Before Cf z → Way Cf s z) (ok_inj (rw p at e)) (λ b'. record { back = b'; asked = refl }) b)
      (λ p. absurd (met_ok (rw p at e)))

  -- ---- A call
  pub record VariantsOk (c : Call) (m n j : ℕ) (set : List (Parse ℕ)) (s : State) (r : Parsed) : Type 0 where
    pub back : Before Cf s
    pub R : List (Parse Tree)
    pub run : Variants book text (open_for text Cf c) m n j s.asked R r.state.asked
    pub joins : Joins (trees text Cf set) R (trees text Cf r.set)

  -- one run of a call, and its rounds
  pub record OneRunOk (c : Call) (m : ℕ) (s : State) (r : Parsed) : Type 0 where
    pub back : Before Cf s
    pub run : Runs book text c.path (map (trees text Cf) c.stored) m c.nonterminal c.start
        (trees text Cf c.mine) s.asked (trees text Cf r.set) r.state.asked

  pub record RoundsOk (c : Call) (m : ℕ) (s : State) (r : Parsed) : Type 0 where
    pub back : Before Cf s
    pub run : Rounds book text c.path (map (trees text Cf) c.stored) m c.nonterminal c.start
        (trees text Cf c.mine) s.asked (trees text Cf r.set) (others r.state.asked)

  -- a call, but for its mark, which is taken off at its end
  pub record CallOk (P : Path) (S : List (List (Parse ℕ))) (N u : ℕ) (s : State) (r : Parsed) : Type 0 where
    pub back : Before Cf s
    pub run : Enters book text P (map (trees text Cf) S) s.asked N u (trees text Cf r.set)
        (others r.state.asked)

  taken_ok : (c : Call) (m n j : ℕ) (set : List (Parse ℕ)) (s : State) (b : Made) (a r : Parsed) →
      leb m (nth_variant book j).level ≡ true → BeginOk text Cf table book j s b →
      RunOk c j (todo_of book (nth_variant book j)) c.start b.cell set b.state a.set a.state →
      VariantsOk c m n (suc j) a.set a.state r → VariantsOk c m (suc n) j set s r
  taken_ok c m n j set s b a r t g w v = with_first (w.finds no_trees g.stands)
    where
      with_first : Finds c j (todo_of book (nth_variant book j)) c.start no_trees set b.state a.set a.state →
          VariantsOk c m (suc n) j set s r
      with_first f = record {
        back = g.way.back;
        R = f.R ++ v.R;
        run = taken t
            (subst (λ B. Steps book text (open_for text Cf c) j (todo_of book (nth_variant book j)) c.start no_trees B
            f.R a.state.asked) g.way.asked
            (subst (λ l. Steps book text (open_for text Cf c) j l c.start no_trees b.state.asked f.R
            a.state.asked) (steps_for text Cf (steps_of book (nth_variant book j))) f.run))
            v.run (joins_append f.R v.R);
        joins = joins_two f.joins v.joins;
      }

  -- a run's set may be kept in any way
  set_as : {o : Open} {m n j : ℕ} {B : List Bool} {R R' : List (Parse Tree)} {B' : List Bool} →
      Variants book text o m n j B R B' → Joins [] R R' → Variants book text o m n j B R' B'
  set_as {R' = R'} (no_more {o} {m} {j} {B}) h =
      subst (λ l. Variants book text o m zero j B l B) (sym (none_in R' h)) no_more
  set_as (too_low t v) h = too_low t (set_as v h)
  set_as (taken t s v h') h = taken t s v (joins_as h' h)

  module _ (f : Runner) (good : Good f) where
    variants_ok : (c : Call) (m n j : ℕ) (set : List (Parse ℕ)) (e : Option Error) (s : State) (r : Parsed) →
        variants book text f c m n j set e s ≡ ok r → Before Cf r.state →
        VariantsOk c m n j set s r
    unfolding variants
    variants_ok c m zero j set d s r e b =
        subst (λ (z : Parsed). Before Cf z.state → VariantsOk c m zero j set s z) (ok_inj e)
        (λ b'. record { back = b'; R = []; run = no_more; joins = joins_nil }) b
    variants_ok c m (suc n) j set d s r e b =
        by_test (leb m (nth_variant book j).level)
        (λ t. let g = got _ _ (rw t at e) in
        let g₁ = got _ _ g.next in
        let v = variants_ok c m n (suc j) g₁.val.set _ g₁.val.state r g₁.next b in
        let w =
        good c j (todo_of book (nth_variant book j)) c.start g.val.cell set g.val.state
        g₁.val g₁.ran v.back in
        taken_ok c m n j set s g.val g₁.val r t (begin_ok text Cf table book j s g.val g.ran w.back) w v)
        (λ t. let v = variants_ok c m n (suc j) set d s r (rw t at e) b in
        record { back = v.back; R = v.R; run = too_low t v.run; joins = v.joins })

    one_run_ok : (c : Call) (m : ℕ) (s : State) (r : Parsed) → one_run book text f c m s ≡ ok r →
        Before Cf r.state → OneRunOk c m s r
    unfolding one_run
    one_run_ok c m s r e b =
        let v =
        variants_ok c m (nth_nonterminal book c.nonterminal).count
        (nth_nonterminal book c.nonterminal).first [] None s r e b in
        record { back = v.back; run = runs (set_as v.run v.joins) }

    rounds_ok : (n : ℕ) (c : Call) (m : ℕ) (s : State) (r : Parsed) → rounds book text n f c m s ≡ ok r →
        Before Cf r.state → RoundsOk c m s r
    unfolding rounds
    rounds_ok zero c m s r e b = absurd (met_ok e)
    rounds_ok (suc n) c m s r e b =
        let g = got _ _ e in
        by_test (all_in c.mine g.val.set)
        (λ t. subst (λ (z : Parsed). Before Cf z.state → RoundsOk c m s z) (ok_inj (rw t at g.next))
        (λ b'. let v = one_run_ok c m s g.val g.ran b' in
        record {
          back = v.back;
          run = last v.run
              (map_sub (tree (tree_for text Cf)) g.val.set c.mine (all_in_lem c.mine g.val.set t)) refl refl;
        }) b)
        (λ t. let g₁ = got _ _ (rw t at g.next) in
        let w = rounds_ok n (with_mine c g₁.val) m g.val.state r g₁.next b in
        let v = one_run_ok c m s g.val g.ran w.back in
        record {
          back = v.back;
          run = more v.run
              (map_joins (tree (tree_for text Cf)) (add_all_joins g.val.state c.mine g.val.set g₁.ran))
              w.run;
        })

    -- ---- The call of a nonterminal
    run_call_ok : (P : Path) (S : List (List (Parse ℕ))) (N u m : ℕ) (s : State) (r : Parsed) →
        governor P N u ≡ minimum m → has_mark book 2 N ≡ false →
        run_call book text f (call P S N u []) m (with_asked s (false ∷ s.asked)) ≡ ok r →
        Before Cf r.state → CallOk P S N u s r
    unfolding run_call
    run_call_ok P S N u m s r gov mark e b =
        let g = got _ _ e in
        let c = call P S N u [] in
        list_cases g.val.set
        (λ empty. subst (λ (z : Parsed). Before Cf z.state → CallOk P S N u s z) (ok_inj (rw empty at g.next))
        (λ b'. let v = one_run_ok c m (with_asked s (false ∷ s.asked)) g.val g.ran b' in
        record {
          back = v.back;
          run = barren gov mark (subst (λ l. Runs book text P (map (trees text Cf) S) m N u [] (false ∷ s.asked)
              (trees text Cf l) g.val.state.asked) empty v.run) refl refl;
        }) b)
        (λ p ps some_found.
        by_test (newest g.val.state.asked)
        (λ t.
        let e₂ : rounds book text 65 f (with_mine c g.val.set) m g.val.state ≡ ok r =
        rw t at (rw some_found at g.next) in
        let w = rounds_ok 65 (with_mine c g.val.set) m g.val.state r e₂ b in
        let v = one_run_ok c m (with_asked s (false ∷ s.asked)) g.val g.ran w.back in
        record { back = v.back; run = grown gov mark v.run w.run })
        (λ t.
        subst (λ (z : Parsed). Before Cf z.state → CallOk P S N u s z)
        (ok_inj (rw t at (rw some_found at g.next)))
        (λ b'. let v = one_run_ok c m (with_asked s (false ∷ s.asked)) g.val g.ran b' in
        record {
          back = v.back;
          run = quiet gov mark v.run t refl;
        }) b))

  -- ---- A use
  pub record EnterOk (P : Path) (S : List (List (Parse ℕ))) (N u : ℕ) (s : State) (r : Parsed) : Type 0 where
    pub back : Before Cf s
    pub run : Enters book text P (map (trees text Cf) S) s.asked N u (trees text Cf r.set) r.state.asked

  module _ (P : Path) (S : List (List (Parse ℕ))) (N u m : ℕ) (gov : governor P N u ≡ minimum m)
      (mark : has_mark book 2 N ≡ true) where
    missing_ok : (s : State) (e : Error) → [] ≡ identifiers book text P u → Before Cf s →
        EnterOk P S N u s (parsed [] (Some e) s)
    missing_ok s e is b = record { back = b; run = identifier gov mark is refl }

    identifier_ok : (s : State) (r : Parsed) → run_identifier book text (call P S N u []) s ≡ ok r →
        Before Cf r.state → EnterOk P S N u s r
    unfolding run_identifier named
    identifier_ok s r e b =
        by_test (claimed book text P u)
        (λ t.
        subst (λ (z : Parsed). Before Cf z.state → EnterOk P S N u s z) (ok_inj (rw t at e))
        (missing_ok s _ (rw t refl)) b)
        (λ t. option_cases (free_end book text u)
        (λ none_there.
        subst (λ (z : Parsed). Before Cf z.state → EnterOk P S N u s z) (ok_inj (rw none_there at (rw t at e)))
        (missing_ok s _ (rw (t, none_there) refl)) b)
        (λ end there. let g = got _ _ (rw there at (rw t at e)) in
        subst (λ (z : Parsed). Before Cf z.state → EnterOk P S N u s z) (ok_inj g.next)
        (λ b'. let w = make_way text Cf table s g.val (Cell.name u (end - u)) g.ran b' in
        record {
          back = w.back;
          run = identifier gov mark
              (ap (λ v. record { rest = end; level = 255; associativity = Associativity.Both; value = v } ∷ [])
              (made_name text Cf table s g.val u (end - u) g.ran b') ∙ rw (t, there) refl) w.asked;
        }) b))

  reentry_ok : (inner : Option Runner) (P Q : Path) (S : List (List (Parse ℕ))) (N u i : ℕ) (f : Use)
      (l : List (Parse ℕ)) (e : Error) (s t : State) → governor P N u ≡ same_start i f Q →
      trees text Cf l ≡ sift (keeps f) (nth (map (trees text Cf) S) i) → t.asked ≡ ask i s.asked → Before Cf s →
      EnterOk P S N u s (reentry book text inner l e t)
  unfolding reentry
  reentry_ok inner P Q S N u i f [] e s t gov is marks b = record { back = b; run = again gov is marks }
  reentry_ok inner P Q S N u i f (p ∷ ps) e s t gov is marks b = record { back = b; run = again gov is marks }

  reentry_state : (inner : Option Runner) (l : List (Parse ℕ)) (e : Error) (t : State) →
      (reentry book text inner l e t).state ≡ t
  unfolding reentry
  reentry_state inner [] e t = refl
  reentry_state inner (p ∷ ps) e t = refl

  module _ (inner : Option Runner) (goods : (f : Runner) → inner ≡ Some f → Good f) where
    kept_trees : (S : List (List (Parse ℕ))) (i : ℕ) (f : Use) →
        trees text Cf (kept f (get_or S i [])) ≡ sift (keeps f) (nth (map (trees text Cf) S) i)
    kept_trees S i f =
        ap (trees text Cf) (kept_sift f (get_or S i [])) ∙ sym (sift_trees (tree_for text Cf) f (get_or S i []))
        ∙ sym (ap (sift (keeps f)) (nth_map (tree (tree_for text Cf)) S i))

    enter_from : (P : Path) (S : List (List (Parse ℕ))) (N u : ℕ) (s t : State) (r : Parsed) → Way Cf s t →
        EnterOk P S N u t r → EnterOk P S N u s r
    enter_from P S N u s t r w o =
        record {
          back = w.back;
          run = subst (λ A. Enters book text P (map (trees text Cf) S) A N u (trees text Cf r.set) r.state.asked)
              w.asked o.run;
        }

    call_ok : (P : Path) (S : List (List (Parse ℕ))) (N u : ℕ) (s : State) (a r : Parsed) → CallOk P S N u s a →
        parsed a.set a.failure (with_asked a.state (others a.state.asked)) ≡ r →
        EnterOk P S N u s r
    call_ok P S N u s a r o is = subst (λ z. EnterOk P S N u s z) is (record { back = o.back; run = o.run })

    pub enter_ok : (P : Path) (S : List (List (Parse ℕ))) (N u : ℕ) (s : State) (r : Parsed) →
        enter book text inner P S N u s ≡ ok r → Before Cf r.state → EnterOk P S N u s r
    unfolding enter
    enter_ok P S N u s₀ r e b =
        after _ _ e (λ s ran next.
        governor_cases (governor P N u)
        (λ m gov. nested_run book text inner s _ (rw gov at next) (λ f inside_it ran_it.
        by_test (has_mark book 2 N)
        (λ mark.
        let o = identifier_ok P S N u m gov mark s r (rw mark at ran_it) b in
        enter_from P S N u s₀ s r (spend_way s₀ s ran o.back) o)
        (λ mark. after _ _ (rw mark at ran_it) (λ a called is.
        let o =
        run_call_ok f (goods f inside_it) P S N u m s a gov mark called
        (subst (λ (z : Parsed). Before Cf z.state) (sym (ok_inj is)) b) in
        enter_from P S N u s₀ s r (spend_way s₀ s ran o.back) (call_ok P S N u s a r o (ok_inj is))))))
        (λ i f Q gov. let is = ok_inj (rw gov at next) in
        let b₁ : Before Cf s =
        subst (λ (z : State). Before Cf z) (reentry_state inner _ _ _)
        (subst (λ (z : Parsed). Before Cf z.state) (sym is) b) in
        let w = spend_way s₀ s ran b₁ in
        enter_from P S N u s₀ s r w
        (subst (λ z. EnterOk P S N u s z) is (reentry_ok inner P Q S N u i f _ _ s _ gov (kept_trees S i f) refl b₁))))
