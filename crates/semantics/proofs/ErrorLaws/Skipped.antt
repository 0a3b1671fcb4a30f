-- Where the errors of a run stand.
--
-- The plan. A call begins at a skipped place, and no use around it begins later (`Around`); its steps, and the rests of
-- its parses, never lie before its start (`Behind`). So errors, which stand at the start of a call, at the place of a
-- choice or where a step was wanted, stand at skipped places (`Fails`; all of these are in ErrorLaws/Gives). And a use
-- around a call that begins where the call's child does begins where the call itself does (`child_at_start`). Each part
-- of the run has one law, in the order in which it is defined: calls and children have theirs in
-- ErrorLaws/SkippedCalls, binders in ErrorLaws/SkippedBinders, choices and steps here.
use Rattle.std.specs.Prelude.{◌≡◌, Bool}
use Rattle.std.proofs.Math.Path.{subst}
use mathlib.Core.List.{List, [], ◌∷◌}
use Rattle.std.specs.Prelude.{Option, None, Some}
use Prim.Native.Nat.{ℕ, zero, suc, ◌≤◌}
use Rattle.std.proofs.Common.{arith}
use Rattle.characters.specs.Skipping.{skip_from}
use Rattle.characters.proofs.SkippingLaws.{skip_twice}
use Rattle.book.specs.Book.{Book}
use Rattle.book.specs.declared.records.Step.{Step}
use Rattle.semantics.specs.Numbers.{most_nesting}
use Rattle.semantics.specs.Uses.{scope_of}
use Rattle.semantics.specs.Steps.{step_at, Todo, taking, elements, ending, naming, closing}
use Rattle.semantics.specs.Errors.{Error}
use Rattle.semantics.specs.Run.{ok, Parsed, Call, Runner, Go, plain_next, list_next, or_absent, choice, listing}
use Rattle.semantics.specs.Run.{steps, runner, run}
use Rattle.semantics.proofs.Theorem.Results.{none_some, some_inj, after, taken_cases}
use Rattle.semantics.proofs.ErrorLaws.Places.{step_forward, step_error_place}
use Rattle.semantics.proofs.ErrorLaws.Gives.{Skipped, Fails, an_error, Gives, Ready, gives_ok, gives_error}
use Rattle.semantics.proofs.ErrorLaws.Gives.{around_none}
use Rattle.semantics.proofs.ErrorLaws.SkippedCalls.{Good, GoodGo, complete_gives, plain_next_good, list_next_good}
use Rattle.semantics.proofs.ErrorLaws.SkippedCalls.{stops_give, enter_gives, child_gives, sides_give}
use Rattle.semantics.proofs.ErrorLaws.SkippedBinders.{body_gives, opens_give, name_choice_gives}

module _ (book : Book) (text : List ℕ) where
  -- ---- One level of nesting
  module _ (inner : Option Runner) (goods : (f : Runner) → inner ≡ Some f → Good book text f) where
    module _ (c : Call) (h : Ready text c) where
      module _ (j : ℕ) (rest : List (Todo ℕ)) (go : Go) (good : GoodGo book text c go) where
        or_absent_gives : (M : ℕ) → GoodGo book text c (or_absent book text inner c j M rest go)
        unfolding or_absent
        or_absent_gives M x items set s r l b e =
            after _ _ e (λ absent missing e₁. after _ _ e₁ (λ m linked e₂.
            after _ _ e₂ (λ a ran e₃. after _ _ e₃ (λ o entered e₄. after _ _ e₄ (λ d tried is.
            let g = good x m.cell set m.state a l b ran in
            gives_ok text is
            (sides_give book text inner goods c h j M x (plain_next book text c j rest items) a.state a o d
            (plain_next_good book text c h j rest items) l g entered tried))))))

        choice_gives : (comma : Bool) (M values : ℕ) (close : Option ℕ) →
            GoodGo book text c (choice book text inner c j comma M values close rest go)
        unfolding choice
        choice_gives comma M values close x items set s₀ r l b e =
            after _ _ e
            (λ s spent e₁. after _ _ e₁ (λ a stopped e₂. after _ _ e₂ (λ o entered e₃. after _ _ e₃ (λ d tried is.
            let g = stops_give book text c h j values close go good x items set s a l b stopped in
            gives_ok text is
            (sides_give book text inner goods c h j M x (list_next book text c j comma M values close rest items)
            a.state a o d (list_next_good book text c h j comma M values close rest items) l g entered tried)))))

        listing_gives : (comma : Bool) (M : ℕ) (close : Option ℕ) →
            GoodGo book text c (listing book text inner c j comma M close rest go)
        unfolding listing
        listing_gives comma M close x items set s r l b e =
            after _ _ e (λ m begun next. choice_gives comma M m.cell close x items set m.state r l b next)

      take_gives : (j : ℕ) (step : Step) (rest : List (Todo ℕ)) → GoodGo book text c (steps book text inner c j rest) →
          GoodGo book text c (steps book text inner c j (taking step ∷ rest))
      unfolding steps
      take_gives j step rest good x items set s₀ r l b e =
          after _ _ e (λ s unit ran.
          taken_cases (step_at book text (scope_of c.path) step x)
          (λ takes.
          let there = step_error_place book text (scope_of c.path) step (skip_from text x) in
          gives_ok text (rw takes at ran) (gives_error text b (rw there (skip_twice text x))))
          (λ t takes. let on : x ≤ t.next = step_forward book text (scope_of c.path) x step takes in
          after _ _ (rw takes at ran) (λ m linked more. good t.next m.cell set m.state r (omega arith) b more))
          (λ M takes. after _ _ (rw takes at ran) (λ a entered next.
          child_gives book text inner goods c h None j M x _ (plain_next_good book text c h j rest items) set s a r l b
          entered next))
          (λ M takes. or_absent_gives j rest _ good M x items set s r l b (rw takes at ran))
          (λ comma M close y takes. let on : x ≤ y = step_forward book text (scope_of c.path) x step takes in
          listing_gives j rest _ good comma M close y items set s r (omega arith) b (rw takes at ran))
          (λ y takes. let on : x ≤ y = step_forward book text (scope_of c.path) x step takes in
          after _ _ (rw takes at ran) (λ m begun next.
          stops_give book text c h j m.cell None _ good y items set m.state r (omega arith) b next))
          (λ close M y takes. let on : x ≤ y = step_forward book text (scope_of c.path) x step takes in
          after _ _ (rw takes at ran) (λ m begun next.
          name_choice_gives book text inner goods c h j rest [] m.cell close M y items set m.state r (omega arith)
          b next))
          (λ M takes. after _ _ (rw takes at ran) (λ m missing next.
          body_gives book text inner goods c h j rest None M m.cell x items set m.state r l b next)))

    steps_give : Good book text (steps book text inner)
    unfolding steps
    steps_give c j [] x items set s r h l b e = complete_gives book text j x items set s r l b e
    steps_give c j (elements comma M values close ∷ rest) x items set s r h l b e =
        choice_gives c h j rest (steps book text inner c j rest)
        (λ y is u t r l b e. steps_give c j rest y is u t r h l b e) comma M values close x items set s r l b e
    steps_give c j (ending values close ∷ rest) x items set s r h l b e =
        stops_give book text c h j values close (steps book text inner c j rest)
        (λ y is u t r l b e. steps_give c j rest y is u t r h l b e) x items set s r l b e
    steps_give c j (naming names kinds close M ∷ rest) x items set s r h l b e =
        name_choice_gives book text inner goods c h j rest names kinds close M x items set s r l b e
    steps_give c j (closing names kinds close M ∷ rest) x items set s r h l b e =
        opens_give book text inner goods c h j rest names kinds close M x items set s r l b e
    steps_give c j (taking step ∷ rest) x items set s r h l b e =
        take_gives c h j step rest (λ y is u t r l b e. steps_give c j rest y is u t r h l b e) x items set s r l b e

  -- ---- The whole run
  runner_good : (n : ℕ) (f : Runner) → runner book text n ≡ Some f → Good book text f
  unfolding runner
  runner_good zero f e = absurd (none_some e)
  runner_good (suc n) f e = subst (Good book text) (some_inj e) (steps_give (runner book text n) (runner_good n))

  -- every error of a run stands at a skipped place
  pub run_error_skipped : (units start : ℕ) (r : Parsed) (e : Error) → run book text units start ≡ ok r →
      r.failure ≡ Some e → skip_from text e.place ≡ e.place
  unfolding run
  run_error_skipped units start r e ran failed = told (subst (Fails text) failed g.failure)
    where
      g : Gives text (skip_from text 0) r
      g =
          enter_gives book text (runner book text most_nesting) (runner_good most_nesting) [] [] start
          (skip_from text 0) _ r (around_none text (skip_twice text 0)) ran

      told : {e : Error} → Fails text (Some e) → Skipped text e.place
      told (an_error k) = k
