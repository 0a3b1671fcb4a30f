-- Two runs side by side: what follows a parse, one level of nesting with the steps of a variant, and so the runners.
-- A level is alike if the level inside it is; the whole is by the levels of nesting.
use Rattle.std.specs.Prelude.{◌≡◌, Bool, leb, get_or}
use Rattle.std.proofs.Math.Bool.{true}
use mathlib.Core.List.{List, [], ◌∷◌}
use Rattle.std.specs.Prelude.{Option, None, Some}
use Prim.Native.Nat.{ℕ, zero, suc, ◌≤◌}
use Rattle.std.proofs.Common.{arith}
use Rattle.characters.specs.Cases.{by_test}
use Rattle.characters.specs.Classes.{between}
use Rattle.characters.specs.Skipping.{skip_from}
use Rattle.book.specs.Book.{Entry, Book, step_number}
use Rattle.book.specs.declared.records.Step.{Step}
use Rattle.semantics.specs.Numbers.{most_declared, too_deep, too_many_names}
use Rattle.semantics.specs.Values.{Parse}
use Rattle.semantics.specs.Uses.{Scope, scope_of, has_mark}
use Rattle.semantics.specs.Tokens.{character_end, declaration_at}
use Rattle.semantics.specs.Steps.{step_at, after_element, closed, Todo, taking, elements, ending, naming, closing}
use Rattle.semantics.specs.Cells.{Cell}
use Rattle.semantics.specs.Errors.{Error}
use Rattle.semantics.specs.Run.{Result, ok, Parsed, parsed, Runner, Go, Next, kept, declared_names, open_scope}
use Rattle.semantics.specs.Run.{chosen, plain_next, list_next, stops, nested, reentry, enter, enter_child}
use Rattle.semantics.specs.Run.{follow_more, follow, followed, step_unit, or_absent, choice, listing, body_after}
use Rattle.semantics.specs.Run.{opens, declares, name_choice, steps, runner}
use Rattle.semantics.proofs.Theorem.Results.{option_cases, after_cases, taken_cases}
use Rattle.semantics.proofs.Theorem.SideBySide.Relations.{of_state, of_set, Good, Context, minimums, reentries}
use Rattle.semantics.proofs.Theorem.SideBySide.Relations.{Laws, Pair, pair, Calls, calls, first_call, second_call}
use Rattle.semantics.proofs.Theorem.SideBySide.Relations.{Alike, AlikeRunner, AlikeInner, AlikeGo, AlikeNext}
use Rattle.semantics.proofs.Theorem.SideBySide.Relations.{good_none, good_kept, state_then, cell_then, set_then}
use Rattle.semantics.proofs.Theorem.SideBySide.Relations.{state_done, set_done, spend_alike, make_alike}
use Rattle.semantics.proofs.Theorem.SideBySide.Calls.{with_cell_alike, with_token_alike, complete_alike}
use Rattle.semantics.proofs.Theorem.SideBySide.Calls.{open_call_alike, identifier_alike}

module _ {book : Book} {text : List ℕ} (L : Laws book text) where
  -- ---- What follows a parse
  module _ {k : ℕ} (c : Calls L k) where
    plain_next_alike : (j : ℕ) (rest : List (Todo ℕ)) (items : ℕ) →
        AlikeNext L (suc k) (plain_next book text (first_call L c) j rest items)
        (plain_next book text (second_call L c) j rest items)
    unfolding plain_next
    plain_next_alike j rest items q s f g set h place good =
        cell_then L s _ _ (with_cell_alike L j items q.value s)
        (λ n t. h k c j rest q.rest n set t place good)

    list_next_alike :
        (j : ℕ) (comma : Bool) (M values : ℕ) (close : Option ℕ) (rest : List (Todo ℕ)) (items : ℕ) →
        AlikeNext L (suc k) (list_next book text (first_call L c) j comma M values close rest items)
        (list_next book text (second_call L c) j comma M values close rest items)
    unfolding list_next
    list_next_alike j comma M values close rest items q s f g set h place good =
        cell_then L s _ _ (make_alike L s _) (λ n t.
        after_cases (after_element text comma q.rest)
        (λ y on. rw on (h k c j _ y items set t (L.goes_on_lem comma q.rest y place on) good))
        (λ y ends. rw ends (h k c j _ y items set t (L.halts_at comma q.rest y place ends) good)))

    -- both sides of a choice
    chosen_alike : (at : ℕ) (a : Option Error) (set : List (Parse ℕ)) (e : Option Error) (s : Pair L (suc k)) →
        Good L.Place set →
        Alike L of_set s (ok (chosen (first_call L c) at a (parsed set e s.first)))
        (ok (chosen (second_call L c) at a (parsed set e s.second)))
    unfolding chosen
    chosen_alike at None set e s good = set_done L s set None good
    chosen_alike at (Some d) set None s good = set_done L s set None good
    chosen_alike at (Some d) set (Some e) s good = set_done L s set _ good

  stops_alike : {k : ℕ} (j values : ℕ) (close : Option ℕ) (f g : Go) → AlikeGo L k f g →
      AlikeGo L k (stops book text j values close f) (stops book text j values close g)
  unfolding stops
  stops_alike j values close f g h x items set s place good =
      cell_then L s _ _ (make_alike L s _) (λ l t.
      option_cases (closed text close x)
      (λ unclosed. rw unclosed (set_done L t set _ good))
      (λ y ends. rw ends (cell_then L t _ _ (with_cell_alike L j items l t)
      (λ n r. h y n set r (L.closes_at close x y place ends) good))))

  -- a scope opens, in both runs or in neither
  open_scope_alike : {k : ℕ} (opening : Option (List Entry)) (scope : Scope) (s : Pair L k) →
      Alike L of_state s (open_scope opening scope s.first) (open_scope opening scope s.second)
  unfolding open_scope
  open_scope_alike None scope s = state_done L s
  open_scope_alike {k} (Some names) scope s =
      by_test (leb (declared_names (names ∷ scope)) most_declared)
      (λ t. rw t (state_done L s))
      (λ t. rw t (L.limit k of_state too_many_names _ _ s.alike))

  -- ---- One level of nesting
  nested_alike : (i₁ i₂ : Option Runner) → AlikeInner L i₁ i₂ → {k : ℕ} (s : Pair L k)
      (f₁ f₂ : Runner → Result Parsed) → ((f g : Runner) → AlikeRunner L f g → Alike L of_set s (f₁ f) (f₂ g)) →
      Alike L of_set s (nested book text i₁ s.first f₁) (nested book text i₂ s.second f₂)
  unfolding nested
  nested_alike None None i {k} s f₁ f₂ h = L.limit k of_set too_deep _ _ s.alike
  nested_alike None (Some g) i {k} s f₁ f₂ h = L.deeper i k of_set _ _ _ s.alike
  nested_alike (Some f) None i s f₁ f₂ h = absurd i
  nested_alike (Some f) (Some g) i s f₁ f₂ h = h f g i

  module _ (i₁ i₂ : Option Runner) (inner : AlikeInner L i₁ i₂) where
    reentry_alike : {k : ℕ} (l : List (Parse ℕ)) (e : Error) (s : Pair L k) → Good L.Place l →
        Alike L of_set s (ok (reentry book text i₁ l e s.first)) (ok (reentry book text i₂ l e s.second))
    unfolding reentry
    reentry_alike [] e s good = set_done L s [] (Some e) good
    reentry_alike (p ∷ ps) e s good = set_done L s (p ∷ ps) None good

    pub enter_alike : {k : ℕ} (A₁ A₂ : Context) (N u : ℕ) → L.Around k A₁ A₂ → L.Place u → (s : Pair L k) →
        Alike L of_set s (enter book text i₁ A₁.path A₁.stored N u s.first)
        (enter book text i₂ A₂.path A₂.stored N u s.second)
    unfolding enter
    enter_alike {k} A₁ A₂ N u around place s₀ =
        state_then L s₀ _ _ (spend_alike L s₀) (λ s.
        elim (L.governed k A₁ A₂ N u around place) [
          | minimums m is₁ is₂ ↦ rw (is₁, is₂) (nested_alike i₁ i₂ inner s _ _ (λ f g h.
              let c = calls L A₁ A₂ around N u place [] (good_none L.Place) in
              by_test (has_mark book 2 N)
              (λ t. rw t (identifier_alike L c s))
              (λ t. rw t (open_call_alike L f g h c m s))))
          | reentries i f Q₁ Q₂ is₁ is₂ same good asks ↦ rw (is₁, is₂, same)
              (L.marked k of_set s.first s.second _ _ _ _
              (reentry_alike (kept f (get_or A₁.stored i [])) _
              (pair L _ _ (asks s.first s.second s.alike))
              (good_kept L.Place f _ good)))
        ])

    enter_child_alike : {k : ℕ} (opening : Option (List Entry)) (c : Calls L k) (j M x : ℕ) (s : Pair L (suc k)) →
        L.Place x →
        Alike L of_set s (enter_child book text i₁ opening (first_call L c) j M x s.first)
        (enter_child book text i₂ opening (second_call L c) j M x s.second)
    unfolding enter_child
    enter_child_alike {k} opening c j M x s place =
        let v = L.skips x place in
        enter_alike _ _ M _
        (L.behind (suc k) _ _ opening
        (L.within k c.first c.second c.nonterminal c.start j (skip_from text x) c.mine
        c.around c.place v c.good))
        v s

    -- what follows each parse of a child
    module _ {k : ℕ} (n₁ n₂ : Next) (h : AlikeNext L k n₁ n₂) where
      follow_more_alike : (qs set : List (Parse ℕ)) (d : Option Error) (s : Pair L k) →
          Good L.Place qs → Good L.Place set →
          Alike L of_set s (follow_more book text i₁ n₁ qs set d s.first)
          (follow_more book text i₂ n₂ qs set d s.second)
      unfolding follow_more Good
      follow_more_alike [] set d s places good = set_done L s set d good
      follow_more_alike (q ∷ qs) set d s places good =
          set_then L s _ _ (nested_alike i₁ i₂ inner s _ _ (λ f g i. h q s f g set i places.0 good))
          (λ more e t good_all. follow_more_alike qs more _ t places.1 good_all)

      follow_alike : (qs set : List (Parse ℕ)) (s : Pair L k) → Good L.Place qs → Good L.Place set →
          Alike L of_set s (follow book text i₁ n₁ qs set s.first) (follow book text i₂ n₂ qs set s.second)
      unfolding follow Good
      follow_alike [] set s places good = set_done L s set None good
      follow_alike (q ∷ qs) set s places good =
          set_then L s _ _ (nested_alike i₁ i₂ inner s _ _ (λ f g i. h q s f g set i places.0 good))
          (λ more e t good_all. follow_more_alike qs more e t places.1 good_all)

      followed_alike : (set found : List (Parse ℕ)) (e : Option Error) (s : Pair L k) →
          Good L.Place set → Good L.Place found →
          Alike L of_set s (followed book text i₁ n₁ set (parsed found e s.first))
          (followed book text i₂ n₂ set (parsed found e s.second))
      unfolding followed
      followed_alike set found None s good places = follow_alike found set s places good
      followed_alike set found (Some e) s good places = set_done L s set (Some e) good

    step_unit_alike : {k : ℕ} (step : Step) (s : Pair L k) →
        Alike L of_state s (step_unit book text i₁ step s.first) (step_unit book text i₂ step s.second)
    unfolding step_unit
    step_unit_alike step s =
        by_test (between 10 11 (step_number step))
        (λ t. rw t (state_done L s))
        (λ t. rw t (spend_alike L s))

    module _ {k : ℕ} (c : Calls L k) (j : ℕ) where
      same_scope : scope_of (second_call L c).path ≡ scope_of (first_call L c).path
      same_scope = L.scopes k c.first c.second c.around

      or_absent_alike : (M : ℕ) (rest : List (Todo ℕ)) (f g : Go) → AlikeGo L (suc k) f g →
          AlikeGo L (suc k) (or_absent book text i₁ (first_call L c) j M rest f)
          (or_absent book text i₂ (second_call L c) j M rest g)
      unfolding or_absent
      or_absent_alike M rest f g h x items set s place good =
          cell_then L s _ _ (make_alike L s Cell.absent) (λ absent t.
          cell_then L t _ _ (with_cell_alike L j items absent t) (λ m v.
          set_then L v _ _ (h x m set v place good) (λ without d a good_a.
          set_then L a _ _ (enter_child_alike None c j M x a place) (λ found e r good_r.
          set_then L r _ _ (followed_alike _ _ (plain_next_alike c j rest items) without found e r good_a good_r)
          (λ all i b good_b. chosen_alike c (skip_from text x) d all i b good_b)))))

      choice_alike : (comma : Bool) (M values : ℕ) (close : Option ℕ) (rest : List (Todo ℕ)) (f g : Go) →
          AlikeGo L (suc k) f g →
          AlikeGo L (suc k) (choice book text i₁ (first_call L c) j comma M values close rest f)
          (choice book text i₂ (second_call L c) j comma M values close rest g)
      unfolding choice
      choice_alike comma M values close rest f g h x items set s place good =
          state_then L s _ _ (spend_alike L s) (λ t.
          set_then L t _ _ (stops_alike j values close f g h x items set t place good) (λ stopped d a good_a.
          set_then L a _ _ (enter_child_alike None c j M x a place) (λ found e r good_r.
          set_then L r _ _
          (followed_alike _ _ (list_next_alike c j comma M values close rest items) stopped found e r good_a good_r)
          (λ all i b good_b. chosen_alike c (skip_from text x) d all i b good_b))))

      listing_alike : (comma : Bool) (M : ℕ) (close : Option ℕ) (rest : List (Todo ℕ)) (f g : Go) →
          AlikeGo L (suc k) f g →
          AlikeGo L (suc k) (listing book text i₁ (first_call L c) j comma M close rest f)
          (listing book text i₂ (second_call L c) j comma M close rest g)
      unfolding listing
      listing_alike comma M close rest f g h x items set s place good =
          cell_then L s _ _ (make_alike L s Cell.empty)
          (λ e t. choice_alike comma M e close rest f g h x items set t place good)

      -- a binder
      body_after_alike : (opening : Option (List Entry)) (M item : ℕ) (rest : List (Todo ℕ)) →
          AlikeGo L (suc k) (body_after book text i₁ opening (first_call L c) j M item rest)
          (body_after book text i₂ opening (second_call L c) j M item rest)
      unfolding body_after
      body_after_alike opening M item rest x items set s place good =
          cell_then L s _ _ (with_cell_alike L j items item s) (λ m t.
          rw same_scope (state_then L t _ _ (open_scope_alike opening _ t) (λ v.
          set_then L v _ _ (enter_child_alike opening c j M x v place)
          (λ found e r good_r. followed_alike _ _ (plain_next_alike c j rest m) set found e r good good_r))))

      module _ (names : List Entry) (kinds close M : ℕ) (rest : List (Todo ℕ)) where
        opens_alike :
            AlikeGo L (suc k) (opens book text i₁ (first_call L c) j names kinds close M rest)
            (opens book text i₂ (second_call L c) j names kinds close M rest)
        unfolding opens closed
        opens_alike x items set s place good =
            cell_then L s _ _ (make_alike L s _) (λ l t.
            option_cases (character_end text close x)
            (λ unclosed. rw unclosed (set_done L t set _ good))
            (λ y ends. rw ends
            (body_after_alike (Some names) M l rest y items set t (L.closes_at (Some close) x y place ends) good)))

        declares_alike :
            AlikeGo L (suc k) (declares book text i₁ (first_call L c) j names kinds close M rest)
            (declares book text i₂ (second_call L c) j names kinds close M rest)
        unfolding declares
        declares_alike x items set s place good =
            state_then L s _ _ (spend_alike L s) (λ t.
            nested_alike i₁ i₂ inner t _ _ (λ f g h.
            option_cases (declaration_at book text (skip_from text x))
            (λ missing. rw missing (set_done L t set _ good))
            (λ d there.
            let ended = L.declares (skip_from text x) d (L.skips x place) there in
            rw there (cell_then L t _ _ (make_alike L t _) (λ kind v.
            cell_then L v _ _ (make_alike L v _) (λ m r.
            after_cases (after_element text true d.end)
            (λ y on. rw on (h k c j _ y items set r (L.goes_on_lem true d.end y ended on) good))
            (λ y ends. rw ends (h k c j _ y items set r (L.halts_at true d.end y ended ends) good))))))))

        name_choice_alike :
            AlikeGo L (suc k) (name_choice book text i₁ (first_call L c) j names kinds close M rest)
            (name_choice book text i₂ (second_call L c) j names kinds close M rest)
        unfolding name_choice
        name_choice_alike x items set s place good =
            state_then L s _ _ (spend_alike L s) (λ t.
            set_then L t _ _ (opens_alike x items set t place good) (λ stopped d a good_a.
            set_then L a _ _ (declares_alike x items stopped a place good_a)
            (λ all i b good_b. chosen_alike c (skip_from text x) d all i b good_b)))

      abbrev StepsAlike : List (Todo ℕ) → Type 0
      StepsAlike todo =
          AlikeGo L (suc k) (steps book text i₁ (first_call L c) j todo) (steps book text i₂ (second_call L c) j todo)

      taking_alike : (step : Step) (rest : List (Todo ℕ)) → StepsAlike rest → StepsAlike (taking step ∷ rest)
      unfolding steps
      taking_alike step rest h x items set s place good =
          state_then L s _ _ (step_unit_alike step s) (λ t.
          let scope = scope_of (first_call L c).path in
          taken_cases (step_at book text scope step x)
          (λ is. rw (same_scope, is, same_scope) (set_done L t set _ good))
          (λ a is. rw (same_scope, is) (cell_then L t _ _ (with_token_alike L j items a.item t)
          (λ n r. h a.next n set r (L.takes scope step x a place is) good)))
          (λ M is. rw (same_scope, is) (set_then L t _ _ (enter_child_alike None c j M x t place)
          (λ found e r good_r. followed_alike _ _ (plain_next_alike c j rest items) set found e r good good_r)))
          (λ M is. rw (same_scope, is) (or_absent_alike M rest _ _ h x items set t place good))
          (λ comma M close y is. rw (same_scope, is)
          (listing_alike comma M close rest _ _ h y items set t (L.lists scope step x comma M close y place is) good))
          (λ y is. rw (same_scope, is) (cell_then L t _ _ (make_alike L t Cell.empty)
          (λ e r. stops_alike j e None _ _ h y items set r (L.unopens scope step x y place is) good)))
          (λ close M y is. rw (same_scope, is) (cell_then L t _ _ (make_alike L t Cell.empty)
          (λ e r. name_choice_alike [] e close M rest y items set r (L.names_from scope step x close M y place is)
          good)))
          (λ M is. rw (same_scope, is) (cell_then L t _ _ (make_alike L t Cell.absent)
          (λ absent r. body_after_alike None M absent rest x items set r place good))))

      todo_alike : (todo : List (Todo ℕ)) → StepsAlike todo
      unfolding steps
      todo_alike [] x items set s place good = complete_alike L j x items set s place good
      todo_alike (elements comma M values close ∷ rest) x items set s place good =
          choice_alike comma M values close rest _ _ (todo_alike rest) x items set s place good
      todo_alike (ending values close ∷ rest) x items set s place good =
          stops_alike j values close _ _ (todo_alike rest) x items set s place good
      todo_alike (naming names kinds close M ∷ rest) x items set s place good =
          name_choice_alike names kinds close M rest x items set s place good
      todo_alike (closing names kinds close M ∷ rest) x items set s place good =
          opens_alike names kinds close M rest x items set s place good
      todo_alike (taking step ∷ rest) x items set s place good =
          taking_alike step rest (todo_alike rest) x items set s place good

    steps_alike : AlikeRunner L (steps book text i₁) (steps book text i₂)
    steps_alike k c j todo x items set s place good = todo_alike c j todo x items set s place good

  -- ---- So many levels of nesting
  pub runner_alike : (n : ℕ) → AlikeInner L (runner book text n) (runner book text n)
  unfolding runner
  runner_alike zero = tt
  runner_alike (suc n) = steps_alike (runner book text n) (runner book text n) (runner_alike n)

  pub runner_deeper : L.Deeper → (n m : ℕ) → n ≤ m → AlikeInner L (runner book text n) (runner book text m)
  unfolding runner
  runner_deeper d zero zero h = tt
  runner_deeper d zero (suc m) h = d
  runner_deeper d (suc n) zero h = absurd (omega arith)
  runner_deeper d (suc n) (suc m) h =
      steps_alike (runner book text n) (runner book text m) (runner_deeper d n m (omega arith))
