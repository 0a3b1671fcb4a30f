-- The error of a re-entry, and that of a claimed name, are never seen: with any errors in their place, of whatever kind
-- and argument, the run is the same (`run_with_lem`).
--
-- The plan. What is left of a variant gives the same parses in the same state, and failures that its call can't tell
-- apart (`Like`): a re-entry, and a claimed name, fail at the start of the call that asked. So the call gives the very
-- same (`Same`), since it counts only what stands beyond its start. Each part of the run has one law: calls and
-- children have theirs in ErrorLaws/UnseenCalls, binders in ErrorLaws/UnseenBinders, choices and steps here.
use Rattle.std.specs.Prelude.{◌≡◌, Bool}
use Rattle.std.proofs.Common.{ap, arith}
use mathlib.Core.List.Memᴰ
use mathlib.Core.List.{List, [], ◌∷◌}
use Rattle.std.specs.Prelude.{Option, None}
use Prim.Native.Nat.{ℕ, zero, suc, ◌≤◌}
use Rattle.characters.specs.Skipping.{skip_from}
use Rattle.characters.proofs.SkippingLaws.{skip_twice}
use Rattle.book.specs.Book.{Book}
use Rattle.book.specs.declared.records.Step.{Step}
use Rattle.semantics.specs.Numbers.{most_nesting}
use Rattle.semantics.specs.Uses.{scope_of}
use Rattle.semantics.specs.Steps.{step_at, Todo, taking, elements, ending, naming, closing}
use Rattle.semantics.specs.Cells.{Cell}
use Rattle.semantics.specs.Errors.{Error}
use Rattle.semantics.specs.Run.{Call, Runner, Go, spend, make, with_cell, with_token, plain_next, list_next}
use Rattle.semantics.specs.Run.{step_unit, or_absent, choice, listing, steps, runner, run}
use Rattle.semantics.specs.Answer.{at_end}
use Rattle.semantics.proofs.Theorem.Results.{taken_cases}
use Rattle.semantics.proofs.ErrorLaws.Places.{step_forward}
use Rattle.semantics.proofs.ErrorLaws.Gives.{Ready, around_none}
use Rattle.semantics.proofs.ErrorLaws.Told.{or_absent_with, choice_with, steps_with, runner_with, run_with}
use Rattle.semantics.proofs.ErrorLaws.Like.{both_same, like_result, same_is, like_next, like_bind, LikeRunner}
use Rattle.semantics.proofs.ErrorLaws.Like.{LikeInner, deepest, deeper, LikeGo}
use Rattle.semantics.proofs.ErrorLaws.UnseenCalls.{complete_like, plain_next_like, list_next_like, stops_like}
use Rattle.semantics.proofs.ErrorLaws.UnseenCalls.{enter_same, child_followed_like, sides_like}
use Rattle.semantics.proofs.ErrorLaws.UnseenBinders.{body_like, opens_like, name_choice_like}

module _ (book : Book) (text : List ℕ) where
  -- ---- One level of nesting
  module _ (told : ℕ → ℕ → Error) (there : (u N : ℕ) → (told u N).place ≡ u) (inner inner' : Option Runner)
      (likes : LikeInner text inner inner') where
    module _ (c : Call) (h : Ready text c) where
      module _ (j : ℕ) (rest : List (Todo ℕ)) (go go' : Go) (like : LikeGo text c go go') where
        or_absent_like : (M : ℕ) →
            LikeGo text c (or_absent_with told book text inner c j M rest go)
            (or_absent book text inner' c j M rest go')
        unfolding or_absent_with or_absent
        or_absent_like M x items set s l b =
            like_next text (make text Cell.absent s) _ _ (λ absent missing.
            like_next text (with_cell book text j items absent.cell absent.state) _ _ (λ m linked.
            like_bind text _ _ (like x m.cell set m.state l b) (λ more s' d e b' k.
            sides_like book text told there inner inner' likes c h j M x (plain_next book text c j rest items)
            (plain_next_like book text c h j rest items) more s' l b' k)))

        choice_like : (comma : Bool) (M values : ℕ) (close : Option ℕ) →
            LikeGo text c (choice_with told book text inner c j comma M values close rest go)
            (choice book text inner' c j comma M values close rest go')
        unfolding choice_with choice
        choice_like comma M values close x items set s₀ l b =
            like_next text (spend s₀) _ _ (λ s spent.
            like_bind text _ _ (stops_like book text c h j values close go go' like x items set s l b)
            (λ more s' d e b' k.
            sides_like book text told there inner inner' likes c h j M x
            (list_next book text c j comma M values close rest items)
            (list_next_like book text c h j comma M values close rest items) more s' l b' k))

      take_like : (j : ℕ) (step : Step) (rest : List (Todo ℕ)) →
          LikeGo text c (steps_with told book text inner c j rest) (steps book text inner' c j rest) →
          LikeGo text c (steps_with told book text inner c j (taking step ∷ rest))
          (steps book text inner' c j (taking step ∷ rest))
      unfolding steps_with steps step_unit listing
      take_like j step rest like x items set s₀ l b =
          like_next text (step_unit book text inner step s₀) _ _ (λ s unit.
          taken_cases (step_at book text (scope_of c.path) step x)
          (λ takes. rw takes (like_result b (both_same _)))
          (λ t takes. let on : x ≤ t.next = step_forward book text (scope_of c.path) x step takes in
          rw takes (like_next text (with_token book text j items t.item s) _ _ (λ m linked.
          like t.next m.cell set m.state (omega arith) b)))
          (λ M takes. rw takes (child_followed_like book text told there inner inner' likes c h None j M x
          (plain_next book text c j rest items) (plain_next_like book text c h j rest items) set s l b))
          (λ M takes. rw takes (or_absent_like j rest _ _ like M x items set s l b))
          (λ comma M close y takes. let on : x ≤ y = step_forward book text (scope_of c.path) x step takes in
          rw takes (like_next text (make text Cell.empty s) _ _ (λ e begun.
          choice_like j rest _ _ like comma M e.cell close y items set e.state (omega arith) b)))
          (λ y takes. let on : x ≤ y = step_forward book text (scope_of c.path) x step takes in
          rw takes (like_next text (make text Cell.empty s) _ _ (λ e begun.
          stops_like book text c h j e.cell None _ _ like y items set e.state (omega arith) b)))
          (λ close M y takes. let on : x ≤ y = step_forward book text (scope_of c.path) x step takes in
          rw takes (like_next text (make text Cell.empty s) _ _ (λ e begun.
          name_choice_like book text told there inner inner' likes c h j rest [] e.cell close M y items set
          e.state (omega arith) b)))
          (λ M takes. rw takes (like_next text (make text Cell.absent s) _ _ (λ a missing.
          body_like book text told there inner inner' likes c h j rest None M a.cell x items set a.state l b))))

    steps_like : LikeRunner text (steps_with told book text inner) (steps book text inner')
    unfolding steps_with steps
    steps_like c j [] x items set s h l b = complete_like book text j x items set s l b
    steps_like c j (elements comma M values close ∷ rest) x items set s h l b =
        choice_like c h j rest _ _ (λ y is u t k m. steps_like c j rest y is u t h k m) comma M
        values close x items set s l b
    steps_like c j (ending values close ∷ rest) x items set s h l b =
        stops_like book text c h j values close _ _ (λ y is u t k m. steps_like c j rest y is u t h k m) x items set s
        l b
    steps_like c j (naming names kinds close M ∷ rest) x items set s h l b =
        name_choice_like book text told there inner inner' likes c h j rest names kinds close M x items set s l b
    steps_like c j (closing names kinds close M ∷ rest) x items set s h l b =
        opens_like book text told there inner inner' likes c h j rest names kinds close M x items set s l b
    steps_like c j (taking step ∷ rest) x items set s h l b =
        take_like c h j step rest (λ y is u t k m. steps_like c j rest y is u t h k m) x items set s l b

  -- ---- The whole run
  module _ (told : ℕ → ℕ → Error) (there : (u N : ℕ) → (told u N).place ≡ u) where
    runner_like : (n : ℕ) → LikeInner text (runner_with told book text n) (runner book text n)
    unfolding runner_with runner
    runner_like zero = deepest
    runner_like (suc n) =
        deeper (steps_like told there (runner_with told book text n) (runner book text n) (runner_like n))

    -- whatever is told of re-entries and claimed names, at their places, the run is the same
    pub run_with_lem : (units start : ℕ) → run_with told book text units start ≡ run book text units start
    unfolding run_with run
    run_with_lem units start =
        same_is text
        (enter_same book text told there (runner_with told book text most_nesting) (runner book text most_nesting)
        (runner_like most_nesting) [] [] start (skip_from text 0) (around_none text (skip_twice text 0))
        (λ f m e. Memᴰ.not-nil m) _)

    -- and so is the answer
    pub answer_with_lem : (cells parses : List ℕ) (start allowance : ℕ) →
        at_end cells parses text allowance (run_with told book text allowance start)
        ≡ at_end cells parses text allowance (run book text allowance start)
    answer_with_lem cells parses start allowance = ap (at_end cells parses text allowance)
        (run_with_lem allowance start)
