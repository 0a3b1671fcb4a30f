-- Of binders: with any errors in place of those of re-entries and claimed names they are the same, but for failures
-- that the call can't tell apart. The plan is in ErrorLaws/Unseen.
use Rattle.std.specs.Prelude.{◌≡◌, List, [], ◌∷◌, ◌++◌, ℕ}
use Rattle.std.proofs.Math.Bool.{true}
use Rattle.std.specs.Prelude.{Option, Some}
use Rattle.std.proofs.Common.{arith}
use Rattle.characters.specs.Skipping.{skip_from}
use Rattle.characters.proofs.SkippingLaws.{skip_forward}
use Rattle.book.specs.Book.{Entry, Book}
use Rattle.semantics.specs.Uses.{scope_of}
use Rattle.semantics.specs.Tokens.{character_end, declaration_at}
use Rattle.semantics.specs.Steps.{Todo, naming, closing}
use Rattle.semantics.specs.Cells.{Cell}
use Rattle.semantics.specs.Errors.{Error}
use Rattle.semantics.specs.Run.{Call, Runner, spend, make, open_scope, with_cell, plain_next}
use Rattle.semantics.specs.Run.{body_after, opens, declares, name_choice}
use Rattle.semantics.proofs.Theorem.Results.{option_cases}
use Rattle.semantics.proofs.ErrorLaws.Places.{character_forward, declaration_forward}
use Rattle.semantics.proofs.ErrorLaws.Gives.{Ready}
use Rattle.semantics.proofs.ErrorLaws.Told.{body_after_with, opens_with, name_choice_with}
use Rattle.semantics.proofs.ErrorLaws.Like.{both_same, like_result, like_next, like_bind, LikeInner, LikeGo}
use Rattle.semantics.proofs.ErrorLaws.UnseenCalls.{chosen_like, plain_next_like, after_like, nested_like}
use Rattle.semantics.proofs.ErrorLaws.UnseenCalls.{child_followed_like}

module _ (book : Book) (text : List ℕ) (told : ℕ → ℕ → Error) (there : (u N : ℕ) → (told u N).place ≡ u)
    (inner inner' : Option Runner) (likes : LikeInner text inner inner')
    (c : Call) (h : Ready text c) (j : ℕ) (rest : List (Todo ℕ)) where
  pub body_like : (opening : Option (List Entry)) (M item : ℕ) →
      LikeGo text c (body_after_with told book text inner opening c j M item rest)
      (body_after book text inner' opening c j M item rest)
  unfolding body_after_with body_after
  body_like opening M item x items set s l b =
      like_next text (with_cell book text j items item s) _ _ (λ m linked.
      like_next text (open_scope opening (scope_of c.path) m.state) _ _ (λ t opened.
      child_followed_like book text told there inner inner' likes c h opening j M x
      (plain_next book text c j rest m.cell) (plain_next_like book text c h j rest m.cell) set t l b))

  module _ (names : List Entry) (kinds close M : ℕ) where
    pub opens_like : LikeGo text c (opens_with told book text inner c j names kinds close M rest)
        (opens book text inner' c j names kinds close M rest)
    unfolding opens_with opens
    opens_like x items set s l b =
        like_next text (make text (Cell.list kinds) s) _ _ (λ m listed.
        option_cases (character_end text close x)
        (λ unclosed. rw unclosed (like_result b (both_same _)))
        (λ y closed. let on = character_forward text close x y closed in
        rw closed (body_like (Some names) M m.cell y items set m.state (omega arith) b)))

    declares_like : LikeGo text c (declares book text inner c j names kinds close M rest)
        (declares book text inner' c j names kinds close M rest)
    unfolding declares
    declares_like x items set s₀ l b =
        like_next text (spend s₀) _ _ (λ s spent.
        nested_like book text told there inner inner' likes s _ _ (λ f g like.
        option_cases (declaration_at book text (skip_from text x))
        (λ missing. rw missing (like_result b (both_same _)))
        (λ d found.
        let on = skip_forward text x in
        let behind = declaration_forward book text (skip_from text x) d found in
        rw found (like_next text (make text (Cell.number 0 d.value.label) s) _ _ (λ k kind.
        like_next text (make text (Cell.chain kinds k.cell) k.state) _ _ (λ m linked.
        after_like book text c h f g j (naming (names ++ (d.value ∷ [])) m.cell close M ∷ rest)
        (closing (names ++ (d.value ∷ [])) m.cell close M ∷ rest) true d.end items set m.state like
        (omega arith) b))))))

    pub name_choice_like : LikeGo text c (name_choice_with told book text inner c j names kinds close M rest)
        (name_choice book text inner' c j names kinds close M rest)
    unfolding name_choice_with name_choice
    name_choice_like x items set s₀ l b =
        let on = skip_forward text x in
        like_next text (spend s₀) _ _ (λ s spent.
        like_bind text _ _ (opens_like x items set s l b) (λ more s' d e b' k.
        like_bind text _ _ (declares_like x items more s' l b') (λ all s'' d' e' b'' k'.
        chosen_like book text c (skip_from text x) all s'' (omega arith) k b'' k')))
