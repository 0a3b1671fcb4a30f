-- The run meets no other limit than 20 to 23 and 41. A part of the run is limited where no other number comes out of
-- it. The parts that meet a limit themselves are `spend` (20), `nested` (21), `add` and `rounds` (22), `make` (23) and
-- `open_scope` (41); every other part hands on what it meets. So each is limited if what it runs is: the runner one
-- level further in, what is left on the same level (a `Go`), and what follows a parse (a `Next`). The law of a part has
-- the part's own shape, and the whole is by the levels of nesting.
use Rattle.std.specs.Prelude.{◌≡◌, Bool, leb, ltb, eqb, length}
use Rattle.std.proofs.Math.Path.{refl}
use Rattle.std.proofs.Common.{sym, subst}
use Rattle.std.proofs.Math.Bool.{true}
use mathlib.Core.List.{List, [], ◌∷◌}
use Rattle.std.specs.Prelude.{Option, None, Some}
use Prim.Native.Nat.{ℕ, zero, suc}
use Rattle.characters.specs.Cases.{by_test}
use Rattle.characters.specs.Classes.{between}
use Rattle.characters.specs.Skipping.{skip_from}
use Rattle.book.specs.Book.{Entry, Book, nth_variant, step_number}
use Rattle.book.specs.declared.records.Step.{Step}
use Rattle.semantics.specs.Numbers.{most_declared, too_many_names, is_limit}
use Rattle.semantics.specs.Values.{Parse}
use Rattle.semantics.specs.Uses.{Path, Scope, scope_of, has_mark, governor}
use Rattle.semantics.specs.Tokens.{Item, character_end, free_end, claimed, declaration_at}
use Rattle.semantics.specs.Steps.{step_at, after_element, closed, Todo, taking, elements, ending, naming, closing}
use Rattle.semantics.specs.Cells.{Cell, find_cell}
use Rattle.semantics.specs.Errors.{Error}
use Rattle.semantics.specs.Run.{Result, met, ok, ◌>>=◌, State, Parsed, Call, Runner, Go, Next, has, all_in, newest}
use Rattle.semantics.specs.Run.{add, add_all, spend, make, declared_names, open_scope, begin, with_cell}
use Rattle.semantics.specs.Run.{with_token, complete, variants, one_run, rounds, run_call, named, run_identifier}
use Rattle.semantics.specs.Run.{plain_next, list_next, stops, nested, enter, enter_child}
use Rattle.semantics.specs.Run.{follow_more, follow, followed, step_unit, or_absent, choice, listing, body_after}
use Rattle.semantics.specs.Run.{opens, declares, name_choice, steps, runner, run}
use Rattle.semantics.proofs.Theorem.Results.{met_ok, option_cases, list_cases, governor_cases, after_cases}
use Rattle.semantics.proofs.Theorem.Results.{taken_cases}

-- no other limit than those of the run
pub record Limited {A : Type 0} (x : Result A) : Type 0 where
  pub limits : (number units : ℕ) → x ≡ met number units → is_limit number ≡ true

met_number : {A : Type 0} {n w number units : ℕ} → ◌≡◌ {A = Result A} (met n w) (met number units) → n ≡ number
met_number e = cc

-- a limit of the run
meets : {A : Type 0} (n w : ℕ) → is_limit n ≡ true → Limited {A = A} (met n w)
meets n w b = record { limits = λ number units e. subst (λ z. is_limit z ≡ true) (met_number e) b }

-- a result is no limit
done : {A : Type 0} {a : A} → Limited (ok a)
done = record { limits = λ number units e. absurd (met_ok (sym e)) }

-- two parts one after the other
then : {A B : Type 0} (m : Result A) (f : A → Result B) → Limited m → ((a : A) → Limited (f a)) → Limited (m >>= f)
unfolding ◌>>=◌
then (met n w) f h k = meets n w (h.limits n w refl)
then (ok a) f h k = k a

-- ---- What a part of the run is given to run
abbrev LimitedRunner : Runner → Type 0
LimitedRunner f =
    (c : Call) (j : ℕ) (todo : List (Todo ℕ)) (x items : ℕ) (set : List (Parse ℕ)) (s : State) →
    Limited (f c j todo x items set s)

-- the runner one level further in, if there is one
abbrev LimitedInner : Option Runner → Type 0
LimitedInner None = Unit {0}
LimitedInner (Some f) = LimitedRunner f

abbrev LimitedGo : Go → Type 0
LimitedGo go = (x items : ℕ) (set : List (Parse ℕ)) (s : State) → Limited (go x items set s)

abbrev LimitedNext : Next → Type 0
LimitedNext next =
    (q : Parse ℕ) (s : State) (f : Runner) (set : List (Parse ℕ)) → LimitedRunner f → Limited (next q s f set)

-- ---- Sets, units, cells and scopes
add_limited : (s : State) (set : List (Parse ℕ)) (p : Parse ℕ) → Limited (add s set p)
unfolding add
add_limited s set p =
    by_test (has set p) (λ t. rw t done)
    (λ t. by_test (ltb (length set) 64) (λ u. rw (t, u) done) (λ u. rw (t, u) (meets 22 s.units refl)))

add_all_limited : (s : State) (set ps : List (Parse ℕ)) → Limited (add_all s set ps)
unfolding add_all
add_all_limited s set [] = done
add_all_limited s set (p ∷ ps) = then _ _ (add_limited s set p) (λ more. add_all_limited s more ps)

spend_limited : (s : State) → Limited (spend s)
unfolding spend
spend_limited s = by_test (ltb 0 s.units) (λ t. rw t done) (λ t. rw t (meets 20 0 refl))

make_limited : (text : List ℕ) (c : Cell) (s : State) → Limited (make text c s)
unfolding make
make_limited text c s =
    by_test (eqb (find_cell text c 1 s.cells) 0)
    (λ t. by_test (ltb (length s.cells) 4096) (λ u. rw (t, u) done) (λ u. rw (t, u) (meets 23 s.units refl)))
    (λ t. rw t done)

open_scope_limited : (opening : Option (List Entry)) (scope : Scope) (s : State) → Limited (open_scope opening scope s)
unfolding open_scope
open_scope_limited None scope s = done
open_scope_limited (Some names) scope s =
    by_test (leb (declared_names (names ∷ scope)) most_declared)
    (λ t. rw t done)
    (λ t. rw t (meets too_many_names s.units refl))

module _ (book : Book) (text : List ℕ) where
  -- ---- A variant's cells
  begin_limited : (j : ℕ) (s : State) → Limited (begin book text j s)
  unfolding begin
  begin_limited j s = by_test (nth_variant book j).passing (λ t. rw t done) (λ t. rw t (make_limited text Cell.empty s))

  with_cell_limited : (j items item : ℕ) (s : State) → Limited (with_cell book text j items item s)
  unfolding with_cell
  with_cell_limited j items item s =
      by_test (nth_variant book j).passing (λ t. rw t done) (λ t. rw t (make_limited text (Cell.chain items item) s))

  with_token_limited : (j items : ℕ) (item : Option Item) (s : State) → Limited (with_token book text j items item s)
  unfolding with_token
  with_token_limited j items None s = done
  with_token_limited j items (Some item) s =
      then _ _ (make_limited text _ s) (λ m. with_cell_limited j items m.cell m.state)

  complete_limited : (j x items : ℕ) (set : List (Parse ℕ)) (s : State) → Limited (complete book text j x items set s)
  unfolding complete
  complete_limited j x items set s =
      then _ _
      (by_test (nth_variant book j).passing (λ t. rw t done) (λ t. rw t (make_limited text (Cell.variant j items) s)))
      (λ m. then _ _ (add_limited m.state set _) (λ more. done))

  -- ---- A call
  module _ (f : Runner) (h : LimitedRunner f) where
    variants_limited : (c : Call) (m n j : ℕ) (set : List (Parse ℕ)) (e : Option Error) (s : State) →
        Limited (variants book text f c m n j set e s)
    unfolding variants
    variants_limited c m zero j set e s = done
    variants_limited c m (suc n) j set e s =
        by_test (leb m (nth_variant book j).level)
        (λ t. rw t (then _ _ (begin_limited j s) (λ b.
        then _ _ (h c j _ _ _ set _) (λ r. variants_limited c m n (suc j) r.set _ r.state))))
        (λ t. rw t (variants_limited c m n (suc j) set e s))

    one_run_limited : (c : Call) (m : ℕ) (s : State) → Limited (one_run book text f c m s)
    unfolding one_run
    one_run_limited c m s = variants_limited c m _ _ [] None s

    rounds_limited : (n : ℕ) (c : Call) (m : ℕ) (s : State) → Limited (rounds book text n f c m s)
    unfolding rounds
    rounds_limited zero c m s = meets 22 s.units refl
    rounds_limited (suc n) c m s =
        then _ _ (one_run_limited c m s) (λ r.
        by_test (all_in c.mine r.set)
        (λ t. rw t done)
        (λ t. rw t (then _ _ (add_all_limited r.state c.mine r.set) (λ all. rounds_limited n _ m r.state))))

    run_call_limited : (c : Call) (m : ℕ) (s : State) → Limited (run_call book text f c m s)
    unfolding run_call
    run_call_limited c m s =
        then _ _ (one_run_limited c m s) (λ r.
        list_cases r.set
        (λ empty. rw empty done)
        (λ p ps there.
        by_test (newest r.state.asked) (λ t. rw (there, t) (rounds_limited 65 _ m r.state))
        (λ t. rw (there, t) done)))

  identifier_limited : (c : Call) (s : State) → Limited (run_identifier book text c s)
  unfolding run_identifier named
  identifier_limited c s =
      by_test (claimed book text c.path c.start)
      (λ t. rw t done)
      (λ t. option_cases (free_end book text c.start)
      (λ missing. rw (t, missing) done)
      (λ end there. rw (t, there) (then _ _ (make_limited text _ s) (λ m. done))))

  -- ---- What follows a parse
  plain_next_limited : (c : Call) (j : ℕ) (rest : List (Todo ℕ)) (items : ℕ) →
      LimitedNext (plain_next book text c j rest items)
  unfolding plain_next
  plain_next_limited c j rest items q s f set h =
      then _ _ (with_cell_limited j items q.value s) (λ m. h c j rest q.rest m.cell set m.state)

  list_next_limited :
      (c : Call) (j : ℕ) (comma : Bool) (M values : ℕ) (close : Option ℕ) (rest : List (Todo ℕ)) (items : ℕ) →
      LimitedNext (list_next book text c j comma M values close rest items)
  unfolding list_next
  list_next_limited c j comma M values close rest items q s f set h =
      then _ _ (make_limited text _ s) (λ m.
      after_cases (after_element text comma q.rest)
      (λ y on. rw on (h c j _ y items set m.state))
      (λ y ends. rw ends (h c j _ y items set m.state)))

  stops_limited : (j values : ℕ) (close : Option ℕ) (go : Go) → LimitedGo go →
      LimitedGo (stops book text j values close go)
  unfolding stops
  stops_limited j values close go h x items set s =
      then _ _ (make_limited text _ s) (λ l.
      option_cases (closed text close x)
      (λ unclosed. rw unclosed done)
      (λ y ends.
      rw ends (then _ _ (with_cell_limited j items l.cell l.state) (λ m. h y m.cell set m.state))))

  -- ---- One level of nesting
  nested_limited : (inner : Option Runner) → LimitedInner inner → (s : State) (k : Runner → Result Parsed) →
      ((f : Runner) → LimitedRunner f → Limited (k f)) → Limited (nested book text inner s k)
  unfolding nested
  nested_limited None i s k h = meets 21 s.units refl
  nested_limited (Some f) i s k h = h f i

  module _ (inner : Option Runner) (limited : LimitedInner inner) where
    enter_limited : (P : Path) (S : List (List (Parse ℕ))) (N u : ℕ) (s : State) →
        Limited (enter book text inner P S N u s)
    unfolding enter
    enter_limited P S N u s₀ =
        then _ _ (spend_limited s₀) (λ s.
        governor_cases (governor P N u)
        (λ m gov. rw gov (nested_limited inner limited s _ (λ f h.
        by_test (has_mark book 2 N)
        (λ mark. rw mark (identifier_limited _ s))
        (λ mark. rw mark (then _ _ (run_call_limited f h _ m _) (λ r. done))))))
        (λ i f Q gov. rw gov done))

    enter_child_limited : (opening : Option (List Entry)) (c : Call) (j M x : ℕ) (s : State) →
        Limited (enter_child book text inner opening c j M x s)
    unfolding enter_child
    enter_child_limited opening c j M x s = enter_limited _ _ M _ s

    follow_more_limited : (next : Next) → LimitedNext next → (qs set : List (Parse ℕ)) (d : Option Error) (s : State) →
        Limited (follow_more book text inner next qs set d s)
    unfolding follow_more
    follow_more_limited next h [] set d s = done
    follow_more_limited next h (q ∷ qs) set d s =
        then _ _ (nested_limited inner limited s _ (λ f g. h q s f set g))
        (λ a. follow_more_limited next h qs a.set _ a.state)

    follow_limited : (next : Next) → LimitedNext next → (qs set : List (Parse ℕ)) (s : State) →
        Limited (follow book text inner next qs set s)
    unfolding follow
    follow_limited next h [] set s = done
    follow_limited next h (q ∷ qs) set s =
        then _ _ (nested_limited inner limited s _ (λ f g. h q s f set g))
        (λ a. follow_more_limited next h qs a.set a.failure a.state)

    followed_limited : (next : Next) → LimitedNext next → (set : List (Parse ℕ)) (r : Parsed) →
        Limited (followed book text inner next set r)
    unfolding followed
    followed_limited next h set r =
        option_cases r.failure (λ found. rw found (follow_limited next h r.set set r.state))
        (λ e fails. rw fails done)

    step_unit_limited : (step : Step) (s : State) → Limited (step_unit book text inner step s)
    unfolding step_unit
    step_unit_limited step s = by_test (between 10 11 (step_number step)) (λ t. rw t done) (λ t. rw t (spend_limited s))

    or_absent_limited : (c : Call) (j M : ℕ) (rest : List (Todo ℕ)) (go : Go) → LimitedGo go →
        LimitedGo (or_absent book text inner c j M rest go)
    unfolding or_absent
    or_absent_limited c j M rest go h x items set s =
        then _ _ (make_limited text Cell.absent s) (λ absent.
        then _ _ (with_cell_limited j items absent.cell absent.state) (λ m.
        then _ _ (h x m.cell set m.state) (λ a.
        then _ _ (enter_child_limited None c j M x a.state) (λ r.
        then _ _ (followed_limited _ (plain_next_limited c j rest items) a.set r) (λ b. done)))))

    choice_limited :
        (c : Call) (j : ℕ) (comma : Bool) (M values : ℕ) (close : Option ℕ) (rest : List (Todo ℕ)) (go : Go) →
        LimitedGo go → LimitedGo (choice book text inner c j comma M values close rest go)
    unfolding choice
    choice_limited c j comma M values close rest go h x items set s₀ =
        then _ _ (spend_limited s₀) (λ s.
        then _ _ (stops_limited j values close go h x items set s) (λ a.
        then _ _ (enter_child_limited None c j M x a.state) (λ r.
        then _ _ (followed_limited _ (list_next_limited c j comma M values close rest items) a.set r) (λ b. done))))

    listing_limited : (c : Call) (j : ℕ) (comma : Bool) (M : ℕ) (close : Option ℕ) (rest : List (Todo ℕ)) (go : Go) →
        LimitedGo go → LimitedGo (listing book text inner c j comma M close rest go)
    unfolding listing
    listing_limited c j comma M close rest go h x items set s =
        then _ _ (make_limited text Cell.empty s)
        (λ e. choice_limited c j comma M e.cell close rest go h x items set e.state)

    -- a binder
    module _ (c : Call) (j : ℕ) where
      body_after_limited : (opening : Option (List Entry)) (M item : ℕ) (rest : List (Todo ℕ)) →
          LimitedGo (body_after book text inner opening c j M item rest)
      unfolding body_after
      body_after_limited opening M item rest x items set s₀ =
          then _ _ (with_cell_limited j items item s₀) (λ m.
          then _ _ (open_scope_limited opening (scope_of c.path) m.state) (λ s.
          then _ _ (enter_child_limited opening c j M x s)
          (λ r. followed_limited _ (plain_next_limited c j rest m.cell) set r)))

      module _ (names : List Entry) (kinds close M : ℕ) (rest : List (Todo ℕ)) where
        opens_limited : LimitedGo (opens book text inner c j names kinds close M rest)
        unfolding opens
        opens_limited x items set s =
            then _ _ (make_limited text _ s) (λ l.
            option_cases (character_end text close x)
            (λ unclosed. rw unclosed done)
            (λ y ends. rw ends (body_after_limited (Some names) M l.cell rest y items set l.state)))

        declares_limited : LimitedGo (declares book text inner c j names kinds close M rest)
        unfolding declares
        declares_limited x items set s₀ =
            then _ _ (spend_limited s₀) (λ s.
            nested_limited inner limited s _ (λ f h.
            option_cases (declaration_at book text (skip_from text x))
            (λ missing. rw missing done)
            (λ d there. rw there (then _ _ (make_limited text _ s) (λ k.
            then _ _ (make_limited text _ k.state) (λ m.
            after_cases (after_element text true d.end)
            (λ y on. rw on (h c j _ y items set m.state))
            (λ y ends. rw ends (h c j _ y items set m.state))))))))

        name_choice_limited : LimitedGo (name_choice book text inner c j names kinds close M rest)
        unfolding name_choice
        name_choice_limited x items set s₀ =
            then _ _ (spend_limited s₀) (λ s.
            then _ _ (opens_limited x items set s) (λ a.
            then _ _ (declares_limited x items a.set a.state) (λ b. done)))

    taking_limited : (c : Call) (j : ℕ) (step : Step) (rest : List (Todo ℕ)) →
        LimitedGo (steps book text inner c j rest) → LimitedGo (steps book text inner c j (taking step ∷ rest))
    unfolding steps
    taking_limited c j step rest h x items set s₀ =
        then _ _ (step_unit_limited step s₀) (λ s.
        taken_cases (step_at book text (scope_of c.path) step x)
        (λ takes. rw takes done)
        (λ t takes.
        rw takes (then _ _ (with_token_limited j items t.item s) (λ m. h t.next m.cell set m.state)))
        (λ M takes. rw takes
        (then _ _ (enter_child_limited None c j M x s)
        (λ r. followed_limited _ (plain_next_limited c j rest items) set r)))
        (λ M takes. rw takes (or_absent_limited c j M rest _ h x items set s))
        (λ comma M close y takes. rw takes (listing_limited c j comma M close rest _ h y items set s))
        (λ y takes. rw takes
        (then _ _ (make_limited text Cell.empty s) (λ e. stops_limited j e.cell None _ h y items set e.state)))
        (λ close M y takes. rw takes
        (then _ _ (make_limited text Cell.empty s)
        (λ e. name_choice_limited c j [] e.cell close M rest y items set e.state)))
        (λ M takes. rw takes
        (then _ _ (make_limited text Cell.absent s)
        (λ a. body_after_limited c j None M a.cell rest x items set a.state))))

    steps_limited : LimitedRunner (steps book text inner)
    unfolding steps
    steps_limited c j [] x items set s = complete_limited j x items set s
    steps_limited c j (elements comma M values close ∷ rest) x items set s =
        choice_limited c j comma M values close rest _ (steps_limited c j rest) x items set s
    steps_limited c j (ending values close ∷ rest) x items set s =
        stops_limited j values close _ (steps_limited c j rest) x items set s
    steps_limited c j (naming names kinds close M ∷ rest) x items set s =
        name_choice_limited c j names kinds close M rest x items set s
    steps_limited c j (closing names kinds close M ∷ rest) x items set s =
        opens_limited c j names kinds close M rest x items set s
    steps_limited c j (taking step ∷ rest) x items set s =
        taking_limited c j step rest (steps_limited c j rest) x items set s

-- ---- The whole run
runner_limited : (book : Book) (text : List ℕ) (n : ℕ) → LimitedInner (runner book text n)
unfolding runner
runner_limited book text zero = tt
runner_limited book text (suc n) = steps_limited book text (runner book text n) (runner_limited book text n)

pub run_limits : (book : Book) (text : List ℕ) (allowance start number units : ℕ) →
    run book text allowance start ≡ met number units → is_limit number ≡ true
unfolding run
run_limits book text allowance start number units e =
    (enter_limited book text (runner book text 200) (runner_limited book text 200) [] [] start _ _).limits number units
    e
