-- Of binders: that errors stand at skipped places, and parses end behind the call's start. The plan is in
-- ErrorLaws/Skipped.
use Rattle.std.specs.Prelude.{◌≡◌, List, [], ◌∷◌, ◌++◌, ℕ}
use Rattle.std.proofs.Math.Bool.{true}
use Rattle.std.specs.Prelude.{Option, Some}
use Rattle.std.proofs.Common.{arith}
use Rattle.characters.specs.Skipping.{skip_from}
use Rattle.characters.proofs.SkippingLaws.{skip_forward, skip_twice}
use Rattle.book.specs.Book.{Entry, Book}
use Rattle.semantics.specs.Tokens.{character_end, declaration_at}
use Rattle.semantics.specs.Steps.{Todo, naming, closing}
use Rattle.semantics.specs.Run.{Call, Runner, body_after, opens, declares, name_choice}
use Rattle.semantics.proofs.Theorem.Results.{after, option_cases, nested_run}
use Rattle.semantics.proofs.ErrorLaws.Places.{character_forward, declaration_forward, declaration_error_skipped}
use Rattle.semantics.proofs.ErrorLaws.Gives.{Ready, gives_ok, gives_error, chosen_gives}
use Rattle.semantics.proofs.ErrorLaws.SkippedCalls.{Good, GoodGo, plain_next_good, after_gives, child_gives}

module _ (book : Book) (text : List ℕ) (inner : Option Runner)
    (goods : (f : Runner) → inner ≡ Some f → Good book text f)
    (c : Call) (h : Ready text c) (j : ℕ) (rest : List (Todo ℕ)) where
  pub body_gives : (opening : Option (List Entry)) (M item : ℕ) →
      GoodGo book text c (body_after book text inner opening c j M item rest)
  unfolding body_after
  body_gives opening M item x items set s r l b e =
      after _ _ e (λ m linked e₁. after _ _ e₁ (λ t opened e₂. after _ _ e₂ (λ a entered next.
      child_gives book text inner goods c h opening j M x _ (plain_next_good book text c h j rest m.cell)
      set t a r l b entered next)))

  module _ (names : List Entry) (kinds close M : ℕ) where
    pub opens_give : GoodGo book text c (opens book text inner c j names kinds close M rest)
    unfolding opens
    opens_give x items set s r l b e =
        after _ _ e (λ m listed next.
        option_cases (character_end text close x)
        (λ unclosed. gives_ok text (rw unclosed at next) (gives_error text b (skip_twice text x)))
        (λ y there. let on = character_forward text close x y there in
        body_gives (Some names) M m.cell y items set m.state r (omega arith) b (rw there at next)))

    declares_give : GoodGo book text c (declares book text inner c j names kinds close M rest)
    unfolding declares
    declares_give x items set s₀ r l b e =
        after _ _ e (λ s spent next. nested_run book text inner s _ next (λ f there ran.
        option_cases (declaration_at book text (skip_from text x))
        (λ missing. gives_ok text (rw missing at ran)
        (gives_error text b (declaration_error_skipped book text (skip_from text x) (skip_twice text x))))
        (λ d found.
        let on = skip_forward text x in
        let behind = declaration_forward book text (skip_from text x) d found in
        after _ _ (rw found at ran) (λ k kind e₁. after _ _ e₁ (λ m linked e₂.
        after_gives book text c h f j (naming (names ++ (d.value ∷ [])) m.cell close M ∷ rest)
        (closing (names ++ (d.value ∷ [])) m.cell close M ∷ rest) true d.end items set m.state r
        (goods f there) (omega arith) b e₂)))))

    pub name_choice_gives : GoodGo book text c (name_choice book text inner c j names kinds close M rest)
    unfolding name_choice
    name_choice_gives x items set s₀ r l b e =
        after _ _ e (λ s spent e₁. after _ _ e₁ (λ a opened e₂. after _ _ e₂ (λ d declared is.
        let g = opens_give x items set s a l b opened in
        gives_ok text is
        (chosen_gives text c (skip_from text x) a.failure d (skip_twice text x) g.failure
        (declares_give x items a.set a.state d l g.set declared)))))
