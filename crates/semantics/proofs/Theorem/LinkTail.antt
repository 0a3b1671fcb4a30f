-- The run does what the relation says, continued: what follows a child's parses, given that what is left of a variant
-- is run well (Link). A parse is followed by the steps behind the child (`plain_next_ok`), or by a list's next element
-- (`list-next-ok`); a child's call is followed by what follows each of its parses (`tail_ok`).
use Rattle.std.specs.Prelude.{◌≡◌, Bool, ℕ}
use Rattle.std.proofs.Math.Path.{refl, ap, subst}
use Rattle.std.proofs.Common.{sym, ◌∙◌}
use mathlib.Core.List.{List, [], ◌∷◌, ◌++◌, map}
use Rattle.std.specs.Prelude.{Option, Some}
use Rattle.characters.specs.Skipping.{skip_from}
use Rattle.book.specs.Book.{Entry, Book}
use Rattle.semantics.specs.Values.{Tree, Trees, ◌▸◌, Parse}
use Rattle.semantics.specs.Uses.{behind_any}
use Rattle.semantics.specs.Steps.{After, goes, halts, after_element, Todo, elements, ending}
use Rattle.semantics.specs.Cells.{Cell}
use Rattle.semantics.specs.Errors.{Error}
use Rattle.semantics.specs.Run.{ok, State, Parsed, Made, Call, Runner, Next, make, with_cell, plain_next, list_next}
use Rattle.semantics.specs.Run.{enter_child, nested, follow_more, follow, followed}
use Rattle.semantics.proofs.Theorem.Lists.{Joins}
use Rattle.semantics.proofs.Theorem.BigStep.{around, Follows, plain, listing as listed, Left, inside, onward}
use Rattle.semantics.proofs.Theorem.BigStep.{resume, Enters, Steps, Each, e_none, e_one}
use Rattle.semantics.proofs.Theorem.Results.{ok_inj, after, option_cases, after_cases, nested_run}
use Rattle.semantics.proofs.Theorem.Sets.{joins_nil, joins_append, joins_two, tree}
use Rattle.semantics.proofs.Theorem.Failures.{enter_fails}
use Rattle.semantics.proofs.Theorem.Table.{Table}
use Rattle.semantics.proofs.Theorem.Made.{tree_for, trees_for, Before, make_way, made_chain, Stands, with_cell_ok}
use Rattle.semantics.proofs.Theorem.Link.{trees, todo_for, open_for, Finds as FindsOf, RunOk as RunOkOf}
use Rattle.semantics.proofs.Theorem.Link.{Good as GoodOf, finds_from, enter_ok}

module _ (book : Book) (text : List ℕ) (Cf : List Cell) (table : Table text Cf) where
  abbrev Finds : Call → ℕ → List (Todo ℕ) → ℕ → Trees → List (Parse ℕ) → State → List (Parse ℕ) → State → Type 0
  Finds = FindsOf book text Cf table

  abbrev RunOk : Call → ℕ → List (Todo ℕ) → ℕ → ℕ → List (Parse ℕ) → State → List (Parse ℕ) → State → Type 0
  RunOk = RunOkOf book text Cf table

  abbrev Good : Runner → Type 0
  Good = GoodOf book text Cf table

  -- what the relation finds behind one parse, and behind several
  pub record NextFinds (c : Call) (j : ℕ) (k : Follows) (q : Parse ℕ) (set : List (Parse ℕ)) (s : State)
      (out : List (Parse ℕ)) (t : State) : Type 0 where
    pub R : List (Parse Tree)
    pub run : Steps book text (open_for text Cf c) j (resume book text k (tree (tree_for text Cf) q)).todo
        (resume book text k (tree (tree_for text Cf) q)).place
        (resume book text k (tree (tree_for text Cf) q)).items s.asked R t.asked
    pub joins : Joins (trees text Cf set) R (trees text Cf out)

  pub record NextOk (c : Call) (j items : ℕ) (k : Trees → Follows) (q : Parse ℕ) (set : List (Parse ℕ)) (s : State)
      (out : List (Parse ℕ)) (t : State) : Type 0 where
    pub back : Before Cf s
    pub finds : (ts : Trees) → Stands text Cf table book j items ts → NextFinds c j (k ts) q set s out t

  abbrev pub GoodNext : Call → ℕ → ℕ → (Trees → Follows) → Next → Type 0
  GoodNext c j items k next =
      (q : Parse ℕ) (s : State) (f : Runner) (set : List (Parse ℕ)) (r : Parsed) → Good f → next q s f set ≡ ok r →
      Before Cf r.state → NextOk c j items k q set s r.set r.state

  pub record EachFinds (c : Call) (j : ℕ) (k : Follows) (qs set : List (Parse ℕ)) (s : State) (out : List (Parse ℕ))
      (t : State) : Type 0 where
    pub R : List (Parse Tree)
    pub run : Each book text (open_for text Cf c) j k (trees text Cf qs) s.asked R t.asked
    pub joins : Joins (trees text Cf set) R (trees text Cf out)

  record EachOk (c : Call) (j items : ℕ) (k : Trees → Follows) (qs set : List (Parse ℕ)) (s : State)
      (out : List (Parse ℕ)) (t : State) : Type 0 where
    back : Before Cf s
    finds : (ts : Trees) → Stands text Cf table book j items ts → EachFinds c j (k ts) qs set s out t

  no_parses : (c : Call) (j items : ℕ) (k : Trees → Follows) (set : List (Parse ℕ)) (s : State) → Before Cf s →
      EachOk c j items k [] set s set s
  no_parses c j items k set s b =
      record { back = b; finds = λ ts h. record { R = []; run = e_none; joins = joins_nil } }

  one_then :
      (c : Call) (j items : ℕ) (k : Trees → Follows) (q : Parse ℕ) (qs set mid out : List (Parse ℕ)) (s t u : State) →
      NextOk c j items k q set s mid t →
      EachOk c j items k qs mid t out u → EachOk c j items k (q ∷ qs) set s out u
  one_then c j items k q qs set mid out s t u a b =
      record { back = a.back; finds = λ ts h. both (a.finds ts h) (b.finds ts h) }
    where
      both : {l : Follows} → NextFinds c j l q set s mid t → EachFinds c j l qs mid t out u →
          EachFinds c j l (q ∷ qs) set s out u
      both f g = record {
        R = f.R ++ g.R;
        run = e_one f.run g.run (joins_append f.R g.R);
        joins = joins_two f.joins g.joins;
      }

  -- a child's call, behind an opening or none, and what follows its parses
  pub record TailOk (opening : Option (List Entry)) (c : Call) (j M x items : ℕ) (k : Trees → Follows)
      (set : List (Parse ℕ)) (s : State) (out : List (Parse ℕ)) (t : State) : Type 0 where
    pub back : Before Cf s
    pub found : List (Parse ℕ)
    pub mid : State
    pub called : Enters book text (behind_any opening (inside book text (open_for text Cf c) j (skip_from text x)))
        (around (open_for text Cf c)) s.asked M (skip_from text x) (trees text Cf found) mid.asked
    pub finds : (ts : Trees) → Stands text Cf table book j items ts → EachFinds c j (k ts) found set mid out t

  -- ---- One parse
  -- the item is added, and the steps go on
  pub plain_next_ok : (c : Call) (j : ℕ) (rest : List (Todo ℕ)) (items : ℕ) →
      GoodNext c j items (plain (map (todo_for text Cf) rest)) (plain_next book text c j rest items)
  unfolding plain_next
  plain_next_ok c j rest items q s f set r good e b =
      after _ _ e (λ m made ran. added m made (good c j rest q.rest m.cell set m.state r ran b))
    where
      added : (m : Made) → with_cell book text j items q.value s ≡ ok m →
          RunOk c j rest q.rest m.cell set m.state r.set r.state →
          NextOk c j items (plain (map (todo_for text Cf) rest)) q set s r.set r.state
      added m made w =
          let v =
          with_cell_ok text Cf table book j items q.value (tree_for text Cf q.value) s m made w.back refl in
          record {
            back = v.way.back;
            finds = λ ts h. let g = finds_from book text Cf table v.way (w.finds (ts ▸ tree_for text Cf q.value)
                (v.stands ts h)) in record { R = g.R; run = g.run; joins = g.joins };
          }

  -- the element is added, and the list goes on or ends
  module _ (c : Call) (j : ℕ) (comma : Bool) (M values : ℕ) (close : Option ℕ) (rest : List (Todo ℕ))
      (items : ℕ) (q : Parse ℕ) where
    abbrev list_follows : Trees → Follows
    list_follows ts = listed comma M (trees_for text Cf values) close (map (todo_for text Cf) rest) ts

    abbrev behind : Trees → After → Left
    behind ts a =
        onward book text a (tree_for text Cf q.value) comma M (trees_for text Cf values) close
        (map (todo_for text Cf) rest) ts

    -- what is left behind it is the same in the relation
    element_ok : (set : List (Parse ℕ)) (s : State) (m : Made) (r : Parsed) (todo : Todo ℕ) (a : After) (y : ℕ) →
        make text (Cell.chain values q.value) s ≡ ok m →
        after_element text comma q.rest ≡ a →
        ((ts : Trees) → trees_for text Cf m.cell ≡ trees_for text Cf values ▸ tree_for text Cf q.value →
        behind ts a ≡ record { todo = map (todo_for text Cf) (todo ∷ rest); place = y; items = ts }) →
        RunOk c j (todo ∷ rest) y items set m.state r.set r.state →
        NextOk c j items list_follows q set s r.set r.state
    element_ok set s m r todo a y made there same w =
        let v = make_way text Cf table s m (Cell.chain values q.value) made w.back in
        let chain = made_chain text Cf table s m values q.value made w.back in
        record {
          back = v.back;
          finds = λ ts h. left_so (finds_from book text Cf table v (w.finds ts h)) (same ts chain);
        }
      where
        left_so : {ts : Trees} → Finds c j (todo ∷ rest) y ts set s r.set r.state →
            behind ts a ≡ record { todo = map (todo_for text Cf) (todo ∷ rest); place = y; items = ts } →
            NextFinds c j (list_follows ts) q set s r.set r.state
        left_so {ts} g is = record {
          R = g.R;
          run = subst (λ (l : Left). Steps book text (open_for text Cf c) j l.todo l.place l.items s.asked
              g.R r.state.asked) (sym (ap (behind ts) there ∙ is)) g.run;
          joins = g.joins;
        }

  pub list_next_ok :
      (c : Call) (j : ℕ) (comma : Bool) (M values : ℕ) (close : Option ℕ) (rest : List (Todo ℕ)) (items : ℕ) →
      GoodNext c j items (λ ts. listed comma M (trees_for text Cf values) close (map (todo_for text Cf) rest) ts)
      (list_next book text c j comma M values close rest items)
  unfolding list_next
  list_next_ok c j comma M values close rest items q s f set r good e b =
      after _ _ e (λ m made ran.
      after_cases (after_element text comma q.rest)
      (λ y there.
      element_ok c j comma M values close rest items q set s m r
      (elements comma M m.cell close) (goes y) y made there
      (λ ts chain. ap (λ l.
      record { todo = elements comma M l close ∷ map (todo_for text Cf) rest; place = y; items = ts }) (sym chain))
      (good c j (elements comma M m.cell close ∷ rest) y items set m.state r (rw there at ran) b))
      (λ y there.
      element_ok c j comma M values close rest items q set s m r (ending m.cell close) (halts y) y made there
      (λ ts chain. ap (λ l. record { todo = ending l close ∷ map (todo_for text Cf) rest; place = y; items = ts })
      (sym chain)) (good c j (ending m.cell close ∷ rest) y items set m.state r (rw there at ran) b)))

  -- ---- All the parses
  module _ (inner : Option Runner) (goods : (f : Runner) → inner ≡ Some f → Good f) where
    first_ok : (c : Call) (j items : ℕ) (k : Trees → Follows) (next : Next) → GoodNext c j items k next →
        (q : Parse ℕ) (qs set : List (Parse ℕ)) (s : State) (a r : Parsed) →
        nested book text inner s (λ f. next q s f set) ≡ ok a →
        EachOk c j items k qs a.set a.state r.set r.state →
        EachOk c j items k (q ∷ qs) set s r.set r.state
    first_ok c j items k next good q qs set s a r ran w =
        nested_run book text inner s _ ran (λ f there first_ran.
        one_then c j items k q qs set a.set r.set s a.state r.state
        (good q s f set a (goods f there) first_ran w.back) w)

    follow_more_ok : (c : Call) (j items : ℕ) (k : Trees → Follows) (next : Next) → GoodNext c j items k next →
        (qs set : List (Parse ℕ)) (d : Option Error) (s : State) (r : Parsed) →
        follow_more book text inner next qs set d s ≡ ok r → Before Cf r.state →
        EachOk c j items k qs set s r.set r.state
    unfolding follow_more
    follow_more_ok c j items k next good [] set d s r e b =
        subst (λ (z : Parsed). Before Cf z.state → EachOk c j items k [] set s z.set z.state) (ok_inj e)
        (no_parses c j items k set s) b
    follow_more_ok c j items k next good (q ∷ qs) set d s r e b =
        after _ _ e (λ a ran others. first_ok c j items k next good q qs set s a r ran
        (follow_more_ok c j items k next good qs a.set _ a.state r others b))

    follow_ok : (c : Call) (j items : ℕ) (k : Trees → Follows) (next : Next) → GoodNext c j items k next →
        (qs set : List (Parse ℕ)) (s : State) (r : Parsed) →
        follow book text inner next qs set s ≡ ok r → Before Cf r.state →
        EachOk c j items k qs set s r.set r.state
    unfolding follow
    follow_ok c j items k next good [] set s r e b =
        subst (λ (z : Parsed). Before Cf z.state → EachOk c j items k [] set s z.set z.state) (ok_inj e)
        (no_parses c j items k set s) b
    follow_ok c j items k next good (q ∷ qs) set s r e b =
        after _ _ e (λ a ran others. first_ok c j items k next good q qs set s a r ran
        (follow_more_ok c j items k next good qs a.set a.failure a.state r others b))

    followed_ok : (c : Call) (j items : ℕ) (k : Trees → Follows) (next : Next) → GoodNext c j items k next →
        (set : List (Parse ℕ)) (a r : Parsed) → ((e : Error) → a.failure ≡ Some e → a.set ≡ []) →
        followed book text inner next set a ≡ ok r → Before Cf r.state →
        EachOk c j items k a.set set a.state r.set r.state
    unfolding followed
    followed_ok c j items k next good set a r fails e b =
        option_cases a.failure
        (λ fine. follow_ok c j items k next good a.set set a.state r (rw fine at e) b)
        (λ d failed.
        subst (λ (z : Parsed). Before Cf z.state → EachOk c j items k a.set set a.state z.set z.state)
        (ok_inj (rw failed at e))
        (λ b'. subst (λ l. EachOk c j items k l set a.state set a.state) (sym (fails d failed))
        (no_parses c j items k set a.state b')) b)

    pub tail_ok : (opening : Option (List Entry)) (c : Call) (j M x items : ℕ) (k : Trees → Follows) (next : Next) →
        GoodNext c j items k next → (set : List (Parse ℕ)) (s : State) (a r : Parsed) →
        enter_child book text inner opening c j M x s ≡ ok a → followed book text inner next set a ≡ ok r →
        Before Cf r.state → TailOk opening c j M x items k set s r.set r.state
    unfolding enter_child
    tail_ok opening c j M x items k next good set s a r e₁ e₂ b =
        with_rest (followed_ok c j items k next good set a r
        (enter_fails book text inner _ _ M (skip_from text x) s a e₁).fails e₂ b)
      where
        with_rest : EachOk c j items k a.set set a.state r.set r.state →
            TailOk opening c j M x items k set s r.set r.state
        with_rest w =
            let o = enter_ok book text Cf table inner goods _ _ M (skip_from text x) s a e₁ w.back in
            record { back = o.back; found = a.set; mid = a.state; called = o.run; finds = w.finds }
