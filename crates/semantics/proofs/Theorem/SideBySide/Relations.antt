-- What two runs side by side have to do with each other: the relations of an instance and the laws that it owes
-- (`Laws`), and what they give for one part of the run after the other.
--
-- A result is what both runs see alike, and a state of each (`put`). So what comes next is handed one set and one
-- failure for both runs, and no equation between two.
--
-- Letters are those of Run. Of two that differ in their number, 1 is the first run's and 2 the second's; A is what is
-- around a call.
use Rattle.std.specs.Prelude.{◌≡◌, refl, Bool, false, ℕ, suc, ltb, length, get_or}
use mathlib.Core.List.{List, [], ◌∷◌, ◌++◌}
use Rattle.std.specs.Prelude.{Option, None, Some}
use Rattle.characters.specs.Cases.{by_test}
use Rattle.characters.specs.Skipping.{skip_from}
use Rattle.book.specs.Book.{Entry, Book}
use Rattle.book.specs.declared.records.Step.{Step}
use Rattle.semantics.specs.Numbers.{most_parses, too_deep, too_many_parses}
use Rattle.semantics.specs.Values.{Parse}
use Rattle.semantics.specs.Uses.{Use, use_of, within, Path, behind_any, Scope, scope_of, minimum, same_start}
use Rattle.semantics.specs.Uses.{governor, keeps}
use Rattle.semantics.specs.Tokens.{Read, free_end, claimed, declaration_at}
use Rattle.semantics.specs.Steps.{Token, Taken, step_at, goes, halts, after_element, closed, Todo}
use Rattle.semantics.specs.Cells.{Cell}
use Rattle.semantics.specs.Errors.{Error}
use Rattle.semantics.specs.Run.{Result, met, ok, ◌>>=◌, State, Parsed, parsed, Made, made, Call, call, Runner, Go}
use Rattle.semantics.specs.Run.{Next, has, kept, add, add_all, ask, newest, others, with_asked, spend, make}

-- ---- Results: a state; a cell and a state; or a set, a failure and a state
pub data Kind : Type 0 where
  of_state of_cell of_set : Kind

abbrev pub Of : Kind → Type 0
Of of_state = State
Of of_cell = Made
Of of_set = Parsed

-- what both runs see alike
abbrev pub Seen : Kind → Type 0
Seen of_state = Unit {0}
Seen of_cell = ℕ
Seen of_set = List (Parse ℕ) × Option Error

abbrev pub put : (K : Kind) → Seen K → State → Of K
put of_state w s = s
put of_cell w s = made w s
put of_set w s = parsed w.0 w.1 s

-- the rests of a set are places that an instance follows
unfoldable pub Good : (ℕ → Type 0) → List (Parse ℕ) → Type 0
Good Place [] = Unit {0}
Good Place (p ∷ ps) = Place p.rest × Good Place ps

-- what is known of what both see
abbrev pub Known : (ℕ → Type 0) → (K : Kind) → Seen K → Type 0
Known Place of_state w = Unit {0}
Known Place of_cell w = Unit {0}
Known Place of_set w = Good Place w.0

-- ---- What is around a call
pub record Context : Type 0 where
  pub path : Path
  pub stored : List (List (Parse ℕ))

-- around a child at v: its parent too, a use of N at u with variant j and this stored set
abbrev pub inside : Book → ℕ → ℕ → ℕ → ℕ → List (Parse ℕ) → Context → Context
inside book N u j v mine A = record { path = within (use_of book N u j v) ∷ A.path; stored = mine ∷ A.stored }

-- around a body, too: the opening that it stands behind, if there is one
abbrev pub behind_opening : Option (List Entry) → Context → Context
behind_opening opening A = record { path = behind_any opening A.path; stored = A.stored }

-- what the governors of a use say in two contexts: the same minimum; or the same stored parses of one call, for which
-- both ask. Q₁ and Q₂ are what is around the governors, which a run does not look at
pub data Governed (Place : ℕ → Type 0) (States : State → State → Type 0) (A₁ A₂ : Context) (N u : ℕ) : Type 0 where
  minimums : (m : ℕ) → governor A₁.path N u ≡ minimum m → governor A₂.path N u ≡ minimum m →
      Governed Place States A₁ A₂ N u
  reentries : (i : ℕ) (f : Use) (Q₁ Q₂ : Path) →
      governor A₁.path N u ≡ same_start i f Q₁ → governor A₂.path N u ≡ same_start i f Q₂ →
      get_or A₂.stored i [] ≡ get_or A₁.stored i [] → Good Place (get_or A₁.stored i []) →
      ((s₁ s₂ : State) → States s₁ s₂ →
      States (with_asked s₁ (ask i s₁.asked)) (with_asked s₂ (ask i s₂.asked))) →
      Governed Place States A₁ A₂ N u

-- ---- What an instance says. k is the number of calls opened since the two runs began to be alike
pub record Laws (book : Book) (text : List ℕ) : Type 1 where
  -- the places that are followed
  pub Place : ℕ → Type 0
  pub States : ℕ → State → State → Type 0
  pub Around : ℕ → Context → Context → Type 0
  -- whether the second run may have more levels of nesting
  pub Deeper : Type 0
  -- what two parts that began with these states ended with, where k calls are open
  pub Side : ℕ → (K : Kind) → State → State → Result (Of K) → Result (Of K) → Type 0
  -- two parts, and what follows each; k calls are open in between, and l at the end
  pub then : (k l : ℕ) (K J : Kind) (s₁ s₂ : State) (m₁ m₂ : Result (Of K)) (f₁ f₂ : Of K → Result (Of J)) →
      Side k K s₁ s₂ m₁ m₂ →
      ((w : Seen K) (t₁ t₂ : State) → Known Place K w → States k t₁ t₂ →
      Side l J t₁ t₂ (f₁ (put K w t₁)) (f₂ (put K w t₂))) →
      Side l J s₁ s₂ (m₁ >>= f₁) (m₂ >>= f₂)
  pub done : (k : ℕ) (K : Kind) (w : Seen K) (s₁ s₂ : State) → Known Place K w → States k s₁ s₂ →
      Side k K s₁ s₂ (ok (put K w s₁)) (ok (put K w s₂))
  -- a part may begin with other marks
  pub marked : (k : ℕ) (K : Kind) (s₁ s₂ : State) (b₁ b₂ : List Bool) (m₁ m₂ : Result (Of K)) →
      Side k K (with_asked s₁ b₁) (with_asked s₂ b₂) m₁ m₂ → Side k K s₁ s₂ m₁ m₂
  -- both meet a limit; only the first has no level of nesting left
  pub limit : (k : ℕ) (K : Kind) (n : ℕ) (s₁ s₂ : State) → States k s₁ s₂ →
      Side k K s₁ s₂ (met n s₁.units) (met n s₂.units)
  pub deeper : Deeper → (k : ℕ) (K : Kind) (s₁ s₂ : State) (m : Result (Of K)) → States k s₁ s₂ →
      Side k K s₁ s₂ (met too_deep s₁.units) m
  -- units and cells
  pub spends : (k : ℕ) (s₁ s₂ : State) → States k s₁ s₂ → Side k of_state s₁ s₂ (spend s₁) (spend s₂)
  pub makes : (k : ℕ) (c : Cell) (s₁ s₂ : State) → States k s₁ s₂ →
      Side k of_cell s₁ s₂ (make text c s₁) (make text c s₂)
  -- marks: a call opens, its own is looked at, it closes
  pub opens : (k : ℕ) (s₁ s₂ : State) → States k s₁ s₂ →
      States (suc k) (with_asked s₁ (false ∷ s₁.asked)) (with_asked s₂ (false ∷ s₂.asked))
  pub newests : (k : ℕ) (s₁ s₂ : State) → States (suc k) s₁ s₂ → newest s₂.asked ≡ newest s₁.asked
  pub closes : (k : ℕ) (s₁ s₂ : State) → States (suc k) s₁ s₂ →
      States k (with_asked s₁ (others s₁.asked)) (with_asked s₂ (others s₂.asked))
  -- what is around: one call more, or an opening that was read; a use's governor, its scope, and its claim
  pub within : (k : ℕ) (A₁ A₂ : Context) (N u j v : ℕ) (mine : List (Parse ℕ)) → Around k A₁ A₂ →
      Place u → Place v → Good Place mine →
      Around (suc k) (inside book N u j v mine A₁) (inside book N u j v mine A₂)
  pub behind : (k : ℕ) (A₁ A₂ : Context) (opening : Option (List Entry)) → Around k A₁ A₂ →
      Around k (behind_opening opening A₁) (behind_opening opening A₂)
  pub governed : (k : ℕ) (A₁ A₂ : Context) (N u : ℕ) → Around k A₁ A₂ → Place u →
      Governed Place (States k) A₁ A₂ N u
  pub scopes : (k : ℕ) (A₁ A₂ : Context) → Around k A₁ A₂ → scope_of A₂.path ≡ scope_of A₁.path
  pub claims : (k : ℕ) (A₁ A₂ : Context) (u : ℕ) → Around k A₁ A₂ → Place u →
      claimed book text A₂.path u ≡ claimed book text A₁.path u
  -- from a place that is followed the text leads to such places
  pub skips : (x : ℕ) → Place x → Place (skip_from text x)
  pub frees : (x y : ℕ) → Place x → free_end book text x ≡ Some y → Place y
  pub takes : (scope : Scope) (step : Step) (x : ℕ) (t : Token) → Place x →
      step_at book text scope step x ≡ Taken.token t → Place t.next
  pub lists : (scope : Scope) (step : Step) (x : ℕ) (comma : Bool) (M : ℕ) (close : Option ℕ) (y : ℕ) → Place x →
      step_at book text scope step x ≡ Taken.list comma M close y → Place y
  pub unopens : (scope : Scope) (step : Step) (x y : ℕ) → Place x →
      step_at book text scope step x ≡ Taken.unopened y → Place y
  pub names_from : (scope : Scope) (step : Step) (x close M y : ℕ) → Place x →
      step_at book text scope step x ≡ Taken.names close M y → Place y
  pub declares : (x : ℕ) (d : Read Entry) → Place x → declaration_at book text x ≡ Some d → Place d.end
  pub goes_on_lem : (comma : Bool) (x y : ℕ) → Place x → after_element text comma x ≡ goes y → Place y
  pub halts_at : (comma : Bool) (x y : ℕ) → Place x → after_element text comma x ≡ halts y → Place y
  pub closes_at : (close : Option ℕ) (x y : ℕ) → Place x → closed text close x ≡ Some y → Place y

-- ---- Sets
module _ (Place : ℕ → Type 0) where
  pub good_none : Good Place []
  unfolding Good
  good_none = tt

  pub good_one : (p : Parse ℕ) → Place p.rest → Good Place (p ∷ [])
  unfolding Good
  good_one p h = (h, tt)

  good_more : (set : List (Parse ℕ)) (p : Parse ℕ) → Good Place set → Place p.rest → Good Place (set ++ (p ∷ []))
  unfolding Good
  good_more [] p g h = (h, tt)
  good_more (q ∷ set) p g h = (g.0, good_more set p g.1 h)

  pub good_kept : (f : Use) (l : List (Parse ℕ)) → Good Place l → Good Place (kept f l)
  unfolding Good kept
  good_kept f [] g = tt
  good_kept f (p ∷ ps) g =
      by_test (keeps f p)
      (λ t. rw t (g.0, good_kept f ps g.1))
      (λ t. rw t (good_kept f ps g.1))

  -- an addition depends on the set alone: both runs have the same result, or both meet 22
  module _ (X : Type 0) where
    add_cases : (set : List (Parse ℕ)) (p : Parse ℕ) → Good Place set → Place p.rest →
        ((more : List (Parse ℕ)) → Good Place more → ((s : State) → add s set p ≡ ok more) → X) →
        (((s : State) → add s set p ≡ met too_many_parses s.units) → X) → X
    unfolding add
    add_cases set p g h one over =
        by_test (has set p)
        (λ t. one set g (λ s. rw t refl))
        (λ t. by_test (ltb (length set) most_parses)
        (λ u. one (set ++ (p ∷ [])) (good_more set p g h) (λ s. rw (t, u) refl))
        (λ u. over (λ s. rw (t, u) refl)))

    add_all_cases : (ps set : List (Parse ℕ)) → Good Place set → Good Place ps →
        ((more : List (Parse ℕ)) → Good Place more → ((s : State) → add_all s set ps ≡ ok more) → X) →
        (((s : State) → add_all s set ps ≡ met too_many_parses s.units) → X) → X
    unfolding Good add_all ◌>>=◌
    add_all_cases [] set g h one over = one set g (λ s. refl)
    add_all_cases (p ∷ ps) set g h one over =
        add_cases set p g h.0
        (λ more good is. add_all_cases ps more good h.1
        (λ all good_all are. one all good_all (λ s. rw (is s) (are s)))
        (λ full. over (λ s. rw (is s) (full s))))
        (λ full. over (λ s. rw (full s) refl))

module _ {book : Book} {text : List ℕ} (L : Laws book text) where
  -- ---- States and calls of both runs
  pub record Pair (k : ℕ) : Type 0 where
    pub first : State
    pub second : State
    pub alike : L.States k first second

  abbrev pub pair : {k : ℕ} (s₁ s₂ : State) → L.States k s₁ s₂ → Pair k
  pair s₁ s₂ s = record { first = s₁; second = s₂; alike = s }

  -- as a call opens
  abbrev pub opened : {k : ℕ} → Pair k → Pair (suc k)
  opened {k} s =
      pair (with_asked s.first (false ∷ s.first.asked)) (with_asked s.second (false ∷ s.second.asked))
      (L.opens k s.first s.second s.alike)

  -- a call of both runs has the same nonterminal, start and stored set in each
  pub record Calls (k : ℕ) : Type 0 where
    pub first : Context
    pub second : Context
    pub around : L.Around k first second
    pub nonterminal : ℕ
    pub start : ℕ
    pub place : L.Place start
    pub mine : List (Parse ℕ)
    pub good : Good L.Place mine

  abbrev pub calls : {k : ℕ} (A₁ A₂ : Context) → L.Around k A₁ A₂ → (N u : ℕ) → L.Place u →
      (mine : List (Parse ℕ)) → Good L.Place mine → Calls k
  calls A₁ A₂ around N u place mine good =
      record {
        first = A₁;
        second = A₂;
        around = around;
        nonterminal = N;
        start = u;
        place = place;
        mine = mine;
        good = good;
      }

  abbrev pub first_call : {k : ℕ} → Calls k → Call
  first_call c = call c.first.path c.first.stored c.nonterminal c.start c.mine

  abbrev pub second_call : {k : ℕ} → Calls k → Call
  second_call c = call c.second.path c.second.stored c.nonterminal c.start c.mine

  -- what two parts that began with a pair of states ended with
  abbrev pub Alike : {k : ℕ} (K : Kind) (s : Pair k) → Result (Of K) → Result (Of K) → Type 0
  Alike {k} K s m₁ m₂ = L.Side k K s.first s.second m₁ m₂

  -- ---- What a part of the run is given to run
  abbrev pub AlikeRunner : Runner → Runner → Type 0
  AlikeRunner f g =
      (k : ℕ) (c : Calls k) (j : ℕ) (todo : List (Todo ℕ)) (x items : ℕ) (set : List (Parse ℕ)) (s : Pair (suc k)) →
      L.Place x → Good L.Place set →
      Alike of_set s (f (first_call c) j todo x items set s.first) (g (second_call c) j todo x items set s.second)

  -- the runners one level further in, if there are any
  abbrev pub AlikeInner : Option Runner → Option Runner → Type 0
  AlikeInner None None = Unit {0}
  AlikeInner None (Some g) = L.Deeper
  AlikeInner (Some f) None = ⊥
  AlikeInner (Some f) (Some g) = AlikeRunner f g

  abbrev pub AlikeGo : ℕ → Go → Go → Type 0
  AlikeGo k f g =
      (x items : ℕ) (set : List (Parse ℕ)) (s : Pair k) → L.Place x → Good L.Place set →
      Alike of_set s (f x items set s.first) (g x items set s.second)

  abbrev pub AlikeNext : ℕ → Next → Next → Type 0
  AlikeNext k m n =
      (q : Parse ℕ) (s : Pair k) (f g : Runner) (set : List (Parse ℕ)) → AlikeRunner f g →
      L.Place q.rest → Good L.Place set → Alike of_set s (m q s.first f set) (n q s.second g set)

  -- ---- One part after the other
  module _ {k : ℕ} (s : Pair k) where
    pub state_then : {m₁ m₂ : Result State} (f₁ f₂ : State → Result Parsed) → Alike of_state s m₁ m₂ →
        ((t : Pair k) → Alike of_set t (f₁ t.first) (f₂ t.second)) → Alike of_set s (m₁ >>= f₁) (m₂ >>= f₂)
    state_then f₁ f₂ m f = L.then k k of_state of_set _ _ _ _ f₁ f₂ m (λ w t₁ t₂ g t. f (pair t₁ t₂ t))

    pub cell_then : {J : Kind} {m₁ m₂ : Result Made} (f₁ f₂ : Made → Result (Of J)) → Alike of_cell s m₁ m₂ →
        ((n : ℕ) (t : Pair k) → Alike J t (f₁ (made n t.first)) (f₂ (made n t.second))) →
        Alike J s (m₁ >>= f₁) (m₂ >>= f₂)
    cell_then f₁ f₂ m f = L.then k k of_cell _ _ _ _ _ f₁ f₂ m (λ n t₁ t₂ g t. f n (pair t₁ t₂ t))

    pub set_then : {m₁ m₂ : Result Parsed} (f₁ f₂ : Parsed → Result Parsed) → Alike of_set s m₁ m₂ →
        ((set : List (Parse ℕ)) (e : Option Error) (t : Pair k) → Good L.Place set →
        Alike of_set t (f₁ (parsed set e t.first)) (f₂ (parsed set e t.second))) →
        Alike of_set s (m₁ >>= f₁) (m₂ >>= f₂)
    set_then f₁ f₂ m f =
        L.then k k of_set of_set _ _ _ _ f₁ f₂ m (λ w t₁ t₂ g t. f w.0 w.1 (pair t₁ t₂ t) g)

    pub state_done : Alike of_state s (ok s.first) (ok s.second)
    state_done = L.done k of_state tt _ _ tt s.alike

    pub cell_done : (n : ℕ) → Alike of_cell s (ok (made n s.first)) (ok (made n s.second))
    cell_done n = L.done k of_cell n _ _ tt s.alike

    pub set_done : (set : List (Parse ℕ)) (e : Option Error) → Good L.Place set →
        Alike of_set s (ok (parsed set e s.first)) (ok (parsed set e s.second))
    set_done set e g = L.done k of_set (set, e) _ _ g s.alike

    pub limit_alike : (n : ℕ) → Alike of_set s (met n s.first.units) (met n s.second.units)
    limit_alike n = L.limit k of_set n _ _ s.alike

    pub spend_alike : Alike of_state s (spend s.first) (spend s.second)
    spend_alike = L.spends k _ _ s.alike

    pub make_alike : (c : Cell) → Alike of_cell s (make text c s.first) (make text c s.second)
    make_alike c = L.makes k c _ _ s.alike

    pub add_then : (set : List (Parse ℕ)) (p : Parse ℕ) (f₁ f₂ : List (Parse ℕ) → Result Parsed) →
        Good L.Place set → L.Place p.rest →
        ((more : List (Parse ℕ)) → Good L.Place more → Alike of_set s (f₁ more) (f₂ more)) →
        Alike of_set s (add s.first set p >>= f₁) (add s.second set p >>= f₂)
    unfolding ◌>>=◌
    add_then set p f₁ f₂ good place f =
        add_cases L.Place _ set p good place
        (λ more good_all is. rw (is s.first, is s.second) (f more good_all))
        (λ full. rw (full s.first, full s.second) (limit_alike too_many_parses))

    pub add_all_then : (set ps : List (Parse ℕ)) (f₁ f₂ : List (Parse ℕ) → Result Parsed) →
        Good L.Place set → Good L.Place ps →
        ((more : List (Parse ℕ)) → Good L.Place more → Alike of_set s (f₁ more) (f₂ more)) →
        Alike of_set s (add_all s.first set ps >>= f₁) (add_all s.second set ps >>= f₂)
    unfolding ◌>>=◌
    add_all_then set ps f₁ f₂ good places f =
        add_all_cases L.Place _ ps set good places
        (λ more good_all is. rw (is s.first, is s.second) (f more good_all))
        (λ full. rw (full s.first, full s.second) (limit_alike too_many_parses))
