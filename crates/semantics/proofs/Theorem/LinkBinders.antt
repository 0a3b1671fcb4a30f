-- The run does what the relation says, continued: a binder's names, its closing and its body. The names are in the
-- steps left as they are in the relation's; the chain of their kinds is a cell. What follows the body is LinkTail's.
use Rattle.std.specs.Prelude.{◌≡◌, ℕ, leb}
use Rattle.std.proofs.Math.Path.{refl, ap, subst}
use Rattle.std.proofs.Common.{sym, ◌∙◌}
use Rattle.std.proofs.Math.Bool.{true}
use mathlib.Core.List.{List, [], ◌∷◌, ◌++◌, map}
use Rattle.std.specs.Prelude.{Option, None, Some}
use Rattle.characters.specs.Cases.{by_test}
use Rattle.characters.specs.Skipping.{skip_from}
use Rattle.book.specs.Book.{Entry, Book}
use Rattle.book.specs.declared.records.Step.{Step}
use Rattle.semantics.specs.Numbers.{most_declared}
use Rattle.semantics.specs.Values.{Tree, Trees, no_trees, ◌▸◌, Parse}
use Rattle.semantics.specs.Uses.{behind_any, Scope, scope_of}
use Rattle.semantics.specs.Tokens.{Read, character_end, declaration_at}
use Rattle.semantics.specs.Steps.{Taken, step_at, After, goes, halts, after_element, Todo, taking, naming, closing}
use Rattle.semantics.specs.Cells.{Cell}
use Rattle.semantics.specs.Run.{ok, ◌>>=◌, State, Parsed, Made, Call, Runner, make, declared_names, open_scope}
use Rattle.semantics.specs.Run.{body_after, opens, declares, name_choice, spend}
use Rattle.semantics.proofs.Theorem.Lists.{Joins}
use Rattle.semantics.proofs.Theorem.BigStep.{around, plain, Left, inside, Enters, Steps, s_names, s_body}
use Rattle.semantics.proofs.Theorem.BigStep.{s_no_name, s_name, s_unopening, s_opening, with_name}
use Rattle.semantics.proofs.Theorem.Results.{met_ok, ok_inj, after, option_cases, after_cases, nested_run}
use Rattle.semantics.proofs.Theorem.Results.{chosen_same}
use Rattle.semantics.proofs.Theorem.Sets.{joins_nil, joins_append, joins_two}
use Rattle.semantics.proofs.Theorem.Table.{Table}
use Rattle.semantics.proofs.Theorem.Made.{tree_for, trees_for, Before, Way, way_refl, way_then, make_way, made_empty}
use Rattle.semantics.proofs.Theorem.Made.{made_kind, made_chain, made_list, made_absent, Stands, with_cell_ok}
use Rattle.semantics.proofs.Theorem.Link.{trees, todo_for, open_for, Finds as FindsOf, RunOk as RunOkOf}
use Rattle.semantics.proofs.Theorem.Link.{Good as GoodOf, finds_from, spend_way}
use Rattle.semantics.proofs.Theorem.LinkTail.{EachFinds, plain_next_ok, tail_ok}

open_way : {Cf : List Cell} (opening : Option (List Entry)) (scope : Scope) (s t : State) →
    open_scope opening scope s ≡ ok t → Before Cf t → Way Cf s t
unfolding open_scope
open_way {Cf} None scope s t e b = subst (λ z. Before Cf z → Way Cf s z) (ok_inj e) way_refl b
open_way {Cf} (Some names) scope s t e b =
    by_test (leb (declared_names (names ∷ scope)) most_declared)
    (λ p. subst (λ z. Before Cf z → Way Cf s z) (ok_inj (rw p at e)) way_refl b)
    (λ p. absurd (met_ok (rw p at e)))

module _ (book : Book) (text : List ℕ) (Cf : List Cell) (table : Table text Cf) where
  abbrev Finds : Call → ℕ → List (Todo ℕ) → ℕ → Trees → List (Parse ℕ) → State → List (Parse ℕ) → State → Type 0
  Finds = FindsOf book text Cf table

  abbrev RunOk : Call → ℕ → List (Todo ℕ) → ℕ → ℕ → List (Parse ℕ) → State → List (Parse ℕ) → State → Type 0
  RunOk = RunOkOf book text Cf table

  abbrev Good : Runner → Type 0
  Good = GoodOf book text Cf table

  -- an item is added, then a body is called, and its parses are followed
  record BodyOk (opening : Option (List Entry)) (c : Call) (j M x items : ℕ) (t : Tree) (rest : List (Todo ℕ))
      (set : List (Parse ℕ)) (s : State) (out : List (Parse ℕ)) (u : State) : Type 0 where
    back : Before Cf s
    found : List (Parse ℕ)
    mid : State
    called : Enters book text (behind_any opening (inside book text (open_for text Cf c) j (skip_from text x)))
        (around (open_for text Cf c)) s.asked M (skip_from text x) (trees text Cf found) mid.asked
    finds : (ts : Trees) → Stands text Cf table book j items ts →
        EachFinds book text Cf table c j (plain (map (todo_for text Cf) rest) (ts ▸ t)) found set mid out u

  -- what the relation finds behind a declared name: there is none, and nothing happened; or what is left behind it
  data NameFinds (c : Call) (j : ℕ) (names : List Entry) (kinds close M : ℕ) (rest : List (Todo ℕ)) (x : ℕ) (ts : Trees)
      (set : List (Parse ℕ)) (s : State) (out : List (Parse ℕ)) (u : State) : Type 0 where
    no_name : declaration_at book text (skip_from text x) ≡ None → out ≡ set → u.asked ≡ s.asked →
        NameFinds c j names kinds close M rest x ts set s out u
    one_name : (d : Read Entry) (l : Left) (R : List (Parse Tree)) →
        declaration_at book text (skip_from text x) ≡ Some d →
        with_name book text (after_element text true d.end) d.value names (trees_for text Cf kinds) close M
        (map (todo_for text Cf) rest) ts ≡ l →
        Steps book text (open_for text Cf c) j l.todo l.place l.items s.asked R u.asked →
        Joins (trees text Cf set) R (trees text Cf out) → NameFinds c j names kinds close M rest x ts set s out u

  record DeclaresOk (c : Call) (j : ℕ) (names : List Entry) (kinds close M : ℕ) (rest : List (Todo ℕ)) (x items : ℕ)
      (set : List (Parse ℕ)) (s : State) (out : List (Parse ℕ)) (u : State) : Type 0 where
    back : Before Cf s
    finds : (ts : Trees) → Stands text Cf table book j items ts →
        NameFinds c j names kinds close M rest x ts set s out u

  -- a name that is there: its kind joins the chain, and what is left behind it is the same in the relation
  named_ok : (c : Call) (j : ℕ) (names : List Entry) (kinds close M : ℕ) (rest : List (Todo ℕ)) (x items : ℕ)
      (set : List (Parse ℕ)) (s₀ s : State) (r : Parsed) (d : Read Entry) (k m : Made) (todo : Todo ℕ) (a : After)
      (y : ℕ) → spend s₀ ≡ ok s → declaration_at book text (skip_from text x) ≡ Some d →
      make text (Cell.number 0 d.value.label) s ≡ ok k →
      make text (Cell.chain kinds k.cell) k.state ≡ ok m → after_element text true d.end ≡ a →
      ((ts : Trees) → trees_for text Cf m.cell ≡ trees_for text Cf kinds ▸ Tree.number d.value.label →
      with_name book text a d.value names (trees_for text Cf kinds) close M (map (todo_for text Cf) rest) ts
      ≡ record { todo = map (todo_for text Cf) (todo ∷ rest); place = y; items = ts }) →
      RunOk c j (todo ∷ rest) y items set m.state r.set r.state →
      DeclaresOk c j names kinds close M rest x items set s₀ r.set r.state
  named_ok c j names kinds close M rest x items set s₀ s r d k m todo a y spent there numbered linked on same w =
      let v₂ = make_way text Cf table k.state m (Cell.chain kinds k.cell) linked w.back in
      let v₁ = make_way text Cf table s k (Cell.number 0 d.value.label) numbered v₂.back in
      let v₀ = spend_way book text Cf table s₀ s spent v₁.back in
      let kind = made_kind text Cf table s k d.value.label numbered v₂.back in
      let chain =
      made_chain text Cf table k.state m kinds k.cell linked w.back
      ∙ ap (λ t. trees_for text Cf kinds ▸ t) kind in
      let way = way_then v₀ (way_then v₁ v₂) in
      record {
        back = way.back;
        finds = λ ts h. let g = finds_from book text Cf table way (w.finds ts h) in
            one_name d _ g.R there
            (ap (λ z. with_name book text z d.value names (trees_for text Cf kinds) close M
            (map (todo_for text Cf) rest) ts) on ∙ same ts chain) g.run g.joins;
      }

  -- both sides of a choice between the closing and one more name
  with_name_lem : {c : Call} {j : ℕ} {names : List Entry} {kinds close M : ℕ} {rest : List (Todo ℕ)} {x : ℕ}
      {ts : Trees}
      {set mid out : List (Parse ℕ)} {s t u : State} →
      Finds c j (closing names kinds close M ∷ rest) x ts set s mid t →
      NameFinds c j names kinds close M rest x ts mid t out u →
      Finds c j (naming names kinds close M ∷ rest) x ts set s out u
  with_name_lem {c} {j} {names} {kinds} {close} {M} {rest} {x} {ts} {set} {mid} {out} {s} {t} {u} f (no_name e is same)
      =
      record {
        R = f.R;
        run = s_no_name e (subst (λ B. Steps book text (open_for text Cf c) j (map (todo_for text Cf)
            (closing names kinds close M ∷ rest)) x ts s.asked f.R B) (sym same) f.run);
        joins = subst (λ l. Joins (trees text Cf set) f.R (trees text Cf l)) (sym is) f.joins;
      }
  with_name_lem f (one_name d l R e is g joins) = record {
    R = f.R ++ R;
    run = s_name e is f.run g (joins_append f.R R);
    joins = joins_two f.joins joins;
  }

  module _ (inner : Option Runner) (goods : (f : Runner) → inner ≡ Some f → Good f) where
    body_ok : (opening : Option (List Entry)) (c : Call) (j M item : ℕ) (t : Tree) (rest : List (Todo ℕ)) (x items : ℕ)
        (set : List (Parse ℕ)) (s : State) (r : Parsed) →
        body_after book text inner opening c j M item rest x items set s ≡ ok r → Before Cf r.state →
        (Before Cf s → tree_for text Cf item ≡ t) → BodyOk opening c j M x items t rest set s r.set r.state
    unfolding body_after
    body_ok opening c j M item t rest x items set s r e b means =
        after _ _ e (λ m made e₁. after _ _ e₁ (λ u opened e₂. after _ _ e₂ (λ a entered went.
        let k = tail_ok book text Cf table inner goods opening c j M x m.cell _ _
        (plain_next_ok book text Cf table c j rest m.cell) set u a r entered went b in
        let v = open_way opening (scope_of c.path) m.state u opened k.back in
        let back =
        (with_cell_ok text Cf table book j items item (tree_for text Cf item) s m made v.back refl).way.back in
        let w = with_cell_ok text Cf table book j items item t s m made v.back (means back) in
        record {
          back = back;
          found = k.found;
          mid = k.mid;
          called = subst (λ B. Enters book text
              (behind_any opening (inside book text (open_for text Cf c) j (skip_from text x)))
              (around (open_for text Cf c)) B M (skip_from text x) (trees text Cf k.found) k.mid.asked)
              (v.asked ∙ w.way.asked) k.called;
          finds = λ ts h. k.finds (ts ▸ t) (w.stands ts h);
        })))

    pub opens_ok : (c : Call) (j : ℕ) (names : List Entry) (kinds close M : ℕ) (rest : List (Todo ℕ)) (x items : ℕ)
        (set : List (Parse ℕ)) (s : State) (r : Parsed) →
        opens book text inner c j names kinds close M rest x items set s ≡ ok r → Before Cf r.state →
        RunOk c j (closing names kinds close M ∷ rest) x items set s r.set r.state
    unfolding opens
    opens_ok c j names kinds close M rest x items set s r e b =
        after _ _ e (λ l made ran.
        option_cases (character_end text close x)
        (λ unclosed. subst (λ (z : Parsed). Before Cf z.state →
        RunOk c j (closing names kinds close M ∷ rest) x items set s z.set z.state) (ok_inj (rw unclosed at ran))
        (λ b'. let v = make_way text Cf table s l (Cell.list kinds) made b' in
        record {
          back = v.back;
          finds =
              λ ts h. finds_from book text Cf table v (record
              { R = []; run = s_unopening unclosed; joins = joins_nil });
        }) b)
        (λ y there.
        let w =
        body_ok (Some names) c j M l.cell (Tree.list (trees_for text Cf kinds)) rest y items set l.state r
        (rw there at ran) b (λ b'. made_list text Cf table s l kinds made b') in
        let v = make_way text Cf table s l (Cell.list kinds) made w.back in
        record {
          back = v.back;
          finds =
              λ ts h. let g = w.finds ts h in
              finds_from book text Cf table v
              (record { R = g.R; run = s_opening there w.called g.run; joins = g.joins });
        }))

    declares_ok : (c : Call) (j : ℕ) (names : List Entry) (kinds close M : ℕ) (rest : List (Todo ℕ)) (x items : ℕ)
        (set : List (Parse ℕ)) (s : State) (r : Parsed) →
        declares book text inner c j names kinds close M rest x items set s ≡ ok r → Before Cf r.state →
        DeclaresOk c j names kinds close M rest x items set s r.set r.state
    unfolding declares
    declares_ok c j names kinds close M rest x items set s₀ r e b =
        after _ _ e (λ s spent e₁. nested_run book text inner s _ e₁ (λ f inside_it ran.
        option_cases (declaration_at book text (skip_from text x))
        (λ missing. subst (λ (z : Parsed). Before Cf z.state →
        DeclaresOk c j names kinds close M rest x items set s₀ z.set z.state) (ok_inj (rw missing at ran))
        (λ b'. let v = spend_way book text Cf table s₀ s spent b' in
        record { back = v.back; finds = λ ts h. no_name missing refl v.asked }) b)
        (λ d there. after _ _ (rw there at ran) (λ k numbered e₂. after _ _ e₂ (λ m linked more.
        let named = names ++ (d.value ∷ []) in
        after_cases (after_element text true d.end)
        (λ y on.
        named_ok c j names kinds close M rest x items set s₀ s r d k m (naming named m.cell close M) (goes y) y spent
        there numbered linked on
        (λ ts chain. ap (λ l.
        record { todo = naming named l close M ∷ map (todo_for text Cf) rest; place = y; items = ts }) (sym chain))
        (goods f inside_it c j (naming named m.cell close M ∷ rest) y items set m.state r (rw on at more) b))
        (λ y on.
        named_ok c j names kinds close M rest x items set s₀ s r d k m (closing named m.cell close M)
        (halts y) y spent
        there numbered linked on
        (λ ts chain. ap (λ l.
        record { todo = closing named l close M ∷ map (todo_for text Cf) rest; place = y; items = ts }) (sym chain))
        (goods f inside_it c j (closing named m.cell close M ∷ rest) y items set m.state r
        (rw on at more) b)))))))

    pub name_choice_ok : (c : Call) (j : ℕ) (names : List Entry) (kinds close M : ℕ) (rest : List (Todo ℕ))
        (x items : ℕ)
        (set : List (Parse ℕ)) (s : State) (r : Parsed) →
        name_choice book text inner c j names kinds close M rest x items set s ≡ ok r → Before Cf r.state →
        RunOk c j (naming names kinds close M ∷ rest) x items set s r.set r.state
    unfolding name_choice
    name_choice_ok c j names kinds close M rest x items set s₀ r e b =
        after _ _ e (λ s spent e₁. after _ _ e₁ (λ a opened e₂. after _ _ e₂ (λ d declared is.
        subst (λ (z : Parsed). Before Cf z.state →
        RunOk c j (naming names kinds close M ∷ rest) x items set s₀ z.set z.state) (ok_inj is)
        (chosen_same c (skip_from text x) a.failure d
        (λ out t. Before Cf t → RunOk c j (naming names kinds close M ∷ rest) x items set s₀ out t)
        (λ b'.
        let t = declares_ok c j names kinds close M rest x items a.set a.state d declared b' in
        let w = opens_ok c j names kinds close M rest x items set s a opened t.back in
        let v = spend_way book text Cf table s₀ s spent w.back in
        record {
          back = v.back;
          finds = λ ts h. finds_from book text Cf table v (with_name_lem (w.finds ts h) (t.finds ts h));
        })) b)))

    pub names_ok : (c : Call) (j : ℕ) (step : Step) (close M : ℕ) (rest : List (Todo ℕ)) (x y items : ℕ)
        (set : List (Parse ℕ)) (s : State) (r : Parsed) →
        step_at book text (scope_of c.path) step x ≡ Taken.names close M y →
        (make text Cell.empty s
        >>= (λ e. name_choice book text inner c j [] e.cell close M rest y items set e.state)) ≡ ok r →
        Before Cf r.state → RunOk c j (taking step ∷ rest) x items set s r.set r.state
    names_ok c j step close M rest x y items set s r takes e b =
        after _ _ e (λ m made ran.
        let w = name_choice_ok c j [] m.cell close M rest y items set m.state r ran b in
        let v = make_way text Cf table s m Cell.empty made w.back in
        record {
          back = v.back;
          finds = λ ts h.
              begun (made_empty text Cf table s m made w.back) (finds_from book text Cf table v (w.finds ts h));
        })
      where
        begun : {n : ℕ} {ts : Trees} → trees_for text Cf n ≡ no_trees →
            Finds c j (naming [] n close M ∷ rest) y ts set s r.set r.state →
            Finds c j (taking step ∷ rest) x ts set s r.set r.state
        begun {ts = ts} empty g = record {
          R = g.R;
          run = s_names takes (subst (λ l. Steps book text (open_for text Cf c) j (naming [] l close M
              ∷ map (todo_for text Cf) rest) y ts s.asked g.R r.state.asked) empty g.run);
          joins = g.joins;
        }

    pub body_alone_ok : (c : Call) (j M : ℕ) (step : Step) (rest : List (Todo ℕ)) (x items : ℕ) (set : List (Parse ℕ))
        (s : State) (r : Parsed) → step_at book text (scope_of c.path) step x ≡ Taken.body M →
        (make text Cell.absent s
        >>= (λ a. body_after book text inner None c j M a.cell rest x items set a.state)) ≡ ok r →
        Before Cf r.state → RunOk c j (taking step ∷ rest) x items set s r.set r.state
    body_alone_ok c j M step rest x items set s r takes e b =
        after _ _ e (λ a made ran.
        let w =
        body_ok None c j M a.cell Tree.absent rest x items set a.state r ran b
        (λ b'. made_absent text Cf table s a made b') in
        let v = make_way text Cf table s a Cell.absent made w.back in
        record {
          back = v.back;
          finds =
              λ ts h. let g = w.finds ts h in
              finds_from book text Cf table v
              (record { R = g.R; run = s_body takes w.called g.run; joins = g.joins });
        })
