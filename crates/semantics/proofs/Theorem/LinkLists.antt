-- The run does what the relation says, continued: a list's end, and the choices between going on without a child and
-- with one, which are a list's elements and an optional child. What follows the child is LinkTail's.
use Rattle.std.specs.Prelude.{◌≡◌, refl, Bool, ℕ}
use Rattle.std.proofs.Math.Path.{subst}
use mathlib.Core.List.{List, [], ◌∷◌, ◌++◌, map}
use Rattle.std.specs.Prelude.{Option, None, Some}
use Rattle.characters.specs.Skipping.{skip_from}
use Rattle.book.specs.Book.{Book}
use Rattle.book.specs.declared.records.Step.{Step}
use Rattle.semantics.specs.Values.{Tree, Trees, no_trees, ◌▸◌, Parse}
use Rattle.semantics.specs.Uses.{scope_of}
use Rattle.semantics.specs.Steps.{Taken, step_at, closed, Todo, taking, elements, ending}
use Rattle.semantics.specs.Cells.{Cell}
use Rattle.semantics.specs.Run.{ok, ◌>>=◌, State, Parsed, Made, Call, Runner, Go, make, with_cell, stops, or_absent}
use Rattle.semantics.specs.Run.{choice, listing}
use Rattle.semantics.proofs.Theorem.Lists.{Joins}
use Rattle.semantics.proofs.Theorem.BigStep.{around, Follows, plain, listing as listed, inside, Enters, Steps}
use Rattle.semantics.proofs.Theorem.BigStep.{s_optional, s_list, s_unopened, s_elements, s_unclosed, s_ending}
use Rattle.semantics.proofs.Theorem.BigStep.{Each}
use Rattle.semantics.proofs.Theorem.Results.{ok_inj, after, option_cases, chosen_same}
use Rattle.semantics.proofs.Theorem.Sets.{joins_nil, joins_append, joins_two}
use Rattle.semantics.proofs.Theorem.Table.{Table}
use Rattle.semantics.proofs.Theorem.Made.{tree_for, trees_for, Before, make_way, made_empty, made_list, made_absent}
use Rattle.semantics.proofs.Theorem.Made.{Stands, with_cell_ok}
use Rattle.semantics.proofs.Theorem.Link.{trees, todo_for, open_for, Finds as FindsOf, RunOk as RunOkOf}
use Rattle.semantics.proofs.Theorem.Link.{Good as GoodOf, finds_from, spend_way}
use Rattle.semantics.proofs.Theorem.LinkTail.{EachFinds, plain_next_ok, list_next_ok, tail_ok}

module _ (book : Book) (text : List ℕ) (Cf : List Cell) (table : Table text Cf) where
  abbrev Finds : Call → ℕ → List (Todo ℕ) → ℕ → Trees → List (Parse ℕ) → State → List (Parse ℕ) → State → Type 0
  Finds = FindsOf book text Cf table

  abbrev RunOk : Call → ℕ → List (Todo ℕ) → ℕ → ℕ → List (Parse ℕ) → State → List (Parse ℕ) → State → Type 0
  RunOk = RunOkOf book text Cf table

  abbrev Good : Runner → Type 0
  Good = GoodOf book text Cf table

  -- a run of what is left, on this level
  abbrev pub GoodGo : Call → ℕ → List (Todo ℕ) → Go → Type 0
  GoodGo c j rest go =
      (x items : ℕ) (set : List (Parse ℕ)) (s : State) (r : Parsed) → go x items set s ≡ ok r → Before Cf r.state →
      RunOk c j rest x items set s r.set r.state

  record ItemOk (c : Call) (j : ℕ) (rest : List (Todo ℕ)) (x items : ℕ) (t : Tree) (set : List (Parse ℕ)) (s : State)
      (out : List (Parse ℕ)) (u : State) : Type 0 where
    back : Before Cf s
    finds : (ts : Trees) → Stands text Cf table book j items ts → Finds c j rest x (ts ▸ t) set s out u

  -- an item is added, and what is left goes on: the first side of a choice
  with_item_ok : (c : Call) (j : ℕ) (rest : List (Todo ℕ)) (go : Go) → GoodGo c j rest go →
      (x items item : ℕ) (t : Tree) (set : List (Parse ℕ)) (s : State) (m : Made) (r : Parsed) →
      with_cell book text j items item s ≡ ok m → go x m.cell set m.state ≡ ok r → Before Cf r.state →
      (Before Cf s → tree_for text Cf item ≡ t) → ItemOk c j rest x items t set s r.set r.state
  with_item_ok c j rest go good x items item t set s m r made ran b means =
      added (good x m.cell set m.state r ran b)
    where
      added : RunOk c j rest x m.cell set m.state r.set r.state →
          ItemOk c j rest x items t set s r.set r.state
      added w =
          let back =
          (with_cell_ok text Cf table book j items item (tree_for text Cf item) s m made w.back refl).way.back in
          let v = with_cell_ok text Cf table book j items item t s m made w.back (means back) in
          record {
            back = back;
            finds = λ ts h. finds_from book text Cf table v.way (w.finds (ts ▸ t) (v.stands ts h));
          }

  pub stops_ok : (c : Call) (j values : ℕ) (close : Option ℕ) (rest : List (Todo ℕ)) (go : Go) → GoodGo c j rest go →
      (x items : ℕ) (set : List (Parse ℕ)) (s : State) (r : Parsed) →
      stops book text j values close go x items set s ≡ ok r → Before Cf r.state →
      RunOk c j (ending values close ∷ rest) x items set s r.set r.state
  unfolding stops
  stops_ok c j values close rest go good x items set s r e b =
      after _ _ e (λ l made ran.
      option_cases (closed text close x)
      (λ unclosed. subst (λ (z : Parsed). Before Cf z.state →
      RunOk c j (ending values close ∷ rest) x items set s z.set z.state) (ok_inj (rw unclosed at ran))
      (λ b'. let v = make_way text Cf table s l (Cell.list values) made b' in
      record {
        back = v.back;
        finds =
            λ ts h. finds_from book text Cf table v (record { R = []; run = s_unclosed unclosed; joins = joins_nil });
      }) b)
      (λ y there. after _ _ (rw there at ran) (λ m with_it went.
      let w =
      with_item_ok c j rest go good y items l.cell (Tree.list (trees_for text Cf values)) set
      l.state m r with_it went b
      (λ b'. made_list text Cf table s l values made b') in
      let v = make_way text Cf table s l (Cell.list values) made w.back in
      record {
        back = v.back;
        finds =
            λ ts h. let g = finds_from book text Cf table v (w.finds ts h) in
            record { R = g.R; run = s_ending there g.run; joins = g.joins };
      })))

  pub unopened_ok : (c : Call) (j : ℕ) (step : Step) (rest : List (Todo ℕ)) (go : Go) → GoodGo c j rest go →
      (x y items : ℕ) (set : List (Parse ℕ)) (s : State) (r : Parsed) →
      step_at book text (scope_of c.path) step x ≡ Taken.unopened y →
      (make text Cell.empty s >>= (λ e. stops book text j e.cell None go y items set e.state)) ≡ ok r →
      Before Cf r.state →
      RunOk c j (taking step ∷ rest) x items set s r.set r.state
  unfolding stops closed
  unopened_ok c j step rest go good x y items set s r takes e b =
      after _ _ e (λ m made e₁. after _ _ e₁ (λ l listed_it e₂. after _ _ e₂ (λ n with_it went.
      let w =
      with_item_ok c j rest go good y items l.cell (Tree.list (trees_for text Cf m.cell)) set
      l.state n r with_it went b
      (λ b'. made_list text Cf table m.state l m.cell listed_it b') in
      let v = make_way text Cf table m.state l (Cell.list m.cell) listed_it w.back in
      let u = make_way text Cf table s m Cell.empty made v.back in
      record {
        back = u.back;
        finds =
            λ ts h. none_there (made_empty text Cf table s m made v.back)
            (finds_from book text Cf table u (finds_from book text Cf table v (w.finds ts h)));
      })))
    where
      none_there : {ts values : Trees} → values ≡ no_trees →
          Finds c j rest y (ts ▸ Tree.list values) set s r.set r.state →
          Finds c j (taking step ∷ rest) x ts set s r.set r.state
      none_there {ts} empty g = record {
        R = g.R;
        run = s_unopened takes (subst (λ l. Steps book text (open_for text Cf c) j (map (todo_for text Cf) rest) y
            (ts ▸ Tree.list l) s.asked g.R r.state.asked) empty g.run);
        joins = g.joins;
      }

  -- ---- A choice: without a child, and with one
  -- both sides of a choice: what the first finds, then a child and what follows it
  record BothFind (c : Call) (j M x : ℕ) (k : Follows) (first : List Bool → List (Parse Tree) → List Bool → Type 0)
      (set : List (Parse ℕ)) (s : State) (out : List (Parse ℕ)) (u : State) : Type 0 where
    B₁ : List Bool
    B₂ : List Bool
    Q : List (Parse Tree)
    R₁ : List (Parse Tree)
    R₂ : List (Parse Tree)
    one : first s.asked R₁ B₁
    called : Enters book text (inside book text (open_for text Cf c) j (skip_from text x)) (around (open_for text Cf c))
        B₁ M (skip_from text x) Q B₂
    each : Each book text (open_for text Cf c) j k Q B₂ R₂ u.asked
    joins : Joins (trees text Cf set) (R₁ ++ R₂) (trees text Cf out)

  both : {c : Call} {j M x : ℕ} {k : Follows} {todo : List (Todo ℕ)} {y : ℕ} {ts : Trees} {set mid : List (Parse ℕ)}
      {s t : State} {found : List (Parse ℕ)} {v : State} {out : List (Parse ℕ)} {u : State} →
      Finds c j todo y ts set s mid t →
      Enters book text (inside book text (open_for text Cf c) j (skip_from text x)) (around (open_for text Cf c))
      t.asked M (skip_from text x) (trees text Cf found) v.asked →
      EachFinds book text Cf table c j k found mid v out u →
      BothFind c j M x k (Steps book text (open_for text Cf c) j (map (todo_for text Cf) todo) y ts) set s out u
  both {t = t} {found = found} {v = v} f called g = record {
    B₁ = t.asked;
    B₂ = v.asked;
    Q = trees text Cf found;
    R₁ = f.R;
    R₂ = g.R;
    one = f.run;
    called = called;
    each = g.run;
    joins = joins_two f.joins g.joins;
  }

  module _ (inner : Option Runner) (goods : (f : Runner) → inner ≡ Some f → Good f) where
    pub choice_ok : (c : Call) (j : ℕ) (comma : Bool) (M values : ℕ) (close : Option ℕ) (rest : List (Todo ℕ))
        (go : Go) → GoodGo c j rest go → (x items : ℕ) (set : List (Parse ℕ))
        (s : State) (r : Parsed) → choice book text inner c j comma M values close rest go x items set s ≡ ok r →
        Before Cf r.state → RunOk c j (elements comma M values close ∷ rest) x items set s r.set r.state
    unfolding choice
    choice_ok c j comma M values close rest go good x items set s₀ r e b =
        after _ _ e
        (λ s spent e₁. after _ _ e₁ (λ a stopped e₂. after _ _ e₂ (λ d entered e₃. after _ _ e₃ (λ l went is.
        subst (λ (z : Parsed). Before Cf z.state →
        RunOk c j (elements comma M values close ∷ rest) x items set s₀ z.set z.state) (ok_inj is)
        (chosen_same c (skip_from text x) a.failure l
        (λ out t. Before Cf t → RunOk c j (elements comma M values close ∷ rest) x items set s₀ out t)
        (λ b'. let t = tail_ok book text Cf table inner goods None c j M x items _ _
        (list_next_ok book text Cf table c j comma M values close rest items) a.set
        a.state d l entered went b' in
        let w = stops_ok c j values close rest go good x items set s a stopped t.back in
        let v = spend_way book text Cf table s₀ s spent w.back in
        record {
          back = v.back;
          finds =
              λ ts h. finds_from book text Cf table v (more_or_stop (both (w.finds ts h) t.called (t.finds ts h)));
        })) b))))
      where
        more_or_stop : {ts : Trees} {s : State} {out : List (Parse ℕ)} {u : State} →
            BothFind c j M x (listed comma M (trees_for text Cf values) close (map (todo_for text Cf) rest) ts)
            (Steps book text (open_for text Cf c) j
            (ending (trees_for text Cf values) close ∷ map (todo_for text Cf) rest)
            x ts) set s out u → Finds c j (elements comma M values close ∷ rest) x ts set s out u
        more_or_stop z = record {
          R = z.R₁ ++ z.R₂;
          run = s_elements z.one z.called z.each (joins_append z.R₁ z.R₂);
          joins = z.joins;
        }

    pub or_absent_ok : (c : Call) (j M : ℕ) (step : Step) (rest : List (Todo ℕ)) (go : Go) → GoodGo c j rest go →
        (x items : ℕ) (set : List (Parse ℕ)) (s : State) (r : Parsed) →
        step_at book text (scope_of c.path) step x ≡ Taken.optional M →
        or_absent book text inner c j M rest go x items set s ≡ ok r →
        Before Cf r.state → RunOk c j (taking step ∷ rest) x items set s r.set r.state
    unfolding or_absent
    or_absent_ok c j M step rest go good x items set s r takes e b =
        after _ _ e (λ absent made e₁. after _ _ e₁ (λ m with_it e₂.
        after _ _ e₂ (λ a went_first e₃. after _ _ e₃ (λ d entered e₄. after _ _ e₄ (λ l went is.
        subst (λ (z : Parsed). Before Cf z.state → RunOk c j (taking step ∷ rest) x items set s z.set z.state)
        (ok_inj is)
        (chosen_same c (skip_from text x) a.failure l
        (λ out t. Before Cf t → RunOk c j (taking step ∷ rest) x items set s out t)
        (λ b'.
        let t = tail_ok book text Cf table inner goods None c j M x items _ _
        (plain_next_ok book text Cf table c j rest items) a.set a.state d l entered went b' in
        let w =
        with_item_ok c j rest go good x items absent.cell Tree.absent set absent.state m a with_it went_first
        t.back (λ b''. made_absent text Cf table s absent made b'') in
        let v = make_way text Cf table s absent Cell.absent made w.back in
        record {
          back = v.back;
          finds = λ ts h.
              finds_from book text Cf table v (one_or_absent (both (w.finds ts h) t.called (t.finds ts h)));
        })) b)))))
      where
        one_or_absent : {ts : Trees} {t : State} {out : List (Parse ℕ)} {u : State} →
            BothFind c j M x (plain (map (todo_for text Cf) rest) ts)
            (Steps book text (open_for text Cf c) j (map (todo_for text Cf) rest) x (ts ▸ Tree.absent)) set t out u →
            Finds c j (taking step ∷ rest) x ts set t out u
        one_or_absent z = record {
          R = z.R₁ ++ z.R₂;
          run = s_optional takes z.one z.called z.each (joins_append z.R₁ z.R₂);
          joins = z.joins;
        }

    pub listing_ok :
        (c : Call) (j : ℕ) (step : Step) (comma : Bool) (M : ℕ) (close : Option ℕ) (rest : List (Todo ℕ)) (go : Go) →
        GoodGo c j rest go → (x y items : ℕ) (set : List (Parse ℕ))
        (s : State) (r : Parsed) → step_at book text (scope_of c.path) step x ≡ Taken.list comma M close y →
        listing book text inner c j comma M close rest go y items set s ≡ ok r → Before Cf r.state →
        RunOk c j (taking step ∷ rest) x items set s r.set r.state
    unfolding listing
    listing_ok c j step comma M close rest go good x y items set s r takes e b =
        after _ _ e (λ m made ran.
        let w = choice_ok c j comma M m.cell close rest go good y items set m.state r ran b in
        let v = make_way text Cf table s m Cell.empty made w.back in
        record {
          back = v.back;
          finds = λ ts h.
              begun (made_empty text Cf table s m made w.back) (finds_from book text Cf table v (w.finds ts h));
        })
      where
        begun : {n : ℕ} {ts : Trees} → trees_for text Cf n ≡ no_trees →
            Finds c j (elements comma M n close ∷ rest) y ts set s r.set r.state →
            Finds c j (taking step ∷ rest) x ts set s r.set r.state
        begun {ts = ts} empty g = record {
          R = g.R;
          run = s_list takes (subst (λ l. Steps book text (open_for text Cf c) j (elements comma M l close
              ∷ map (todo_for text Cf) rest) y ts s.asked g.R r.state.asked) empty g.run);
          joins = g.joins;
        }
