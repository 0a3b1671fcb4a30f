-- What is held by the run of a binder: of its names, its closing and its body. The plan is in ForwardCalls.
use Rattle.std.specs.Prelude.{◌≡◌, List, [], ◌∷◌, ◌++◌, ℕ, leb}
use Rattle.std.proofs.Common.{subst}
use Rattle.std.proofs.Math.Bool.{true}
use Rattle.std.specs.Prelude.{Option, None, Some}
use Rattle.characters.specs.Cases.{by_test}
use Rattle.characters.specs.Skipping.{skip_from}
use Rattle.book.specs.Book.{Entry, Book, nth_variant}
use Rattle.semantics.specs.Numbers.{most_declared}
use Rattle.semantics.specs.Values.{Parse}
use Rattle.semantics.specs.Uses.{Scope, scope_of}
use Rattle.semantics.specs.Tokens.{character_end, declaration_at}
use Rattle.semantics.specs.Steps.{after_element, Todo, naming, closing}
use Rattle.semantics.specs.Cells.{Cell}
use Rattle.semantics.specs.Run.{ok, ◌>>=◌, State, Parsed, Call, Runner, make, declared_names, open_scope, body_after}
use Rattle.semantics.specs.Run.{opens, declares, name_choice}
use Rattle.semantics.proofs.Theorem.Results.{met_ok, ok_inj, after, option_cases, after_cases, nested_run}
use Rattle.semantics.proofs.Theorem.Tokens.{declared_kind}
use Rattle.semantics.proofs.Theorem.Table.{Item, prefix_refl, chain_still}
use Rattle.semantics.proofs.Theorem.Holding.{Tabled, Grown, Gives, Ready, Wants, grown_refl, grown_then}
use Rattle.semantics.proofs.Theorem.Holding.{gives_from, gives_ok, ready_still, ready_after, gives_set, left_still}
use Rattle.semantics.proofs.Theorem.Holding.{wants_still, BinderLeft, binder_still, left_naming, left_closing}
use Rattle.semantics.proofs.Theorem.HoldingCells.{new_kind, new_empty, new_link, new_list, new_absent}
use Rattle.semantics.proofs.Theorem.HoldingCells.{with_cell_onward}
use Rattle.semantics.proofs.Theorem.ForwardCalls.{PassingChild, spend_grown, chosen_gives, Good, plain_next_good}
use Rattle.semantics.proofs.Theorem.ForwardCalls.{child_gives}

open_grown : {text : List ℕ} (opening : Option (List Entry)) (scope : Scope) (s t : State) → Tabled text s.cells →
    open_scope opening scope s ≡ ok t → Grown text s.cells t.cells
unfolding open_scope
open_grown {text} None scope s t h e = subst (λ (z : State). Grown text s.cells z.cells) (ok_inj e) (grown_refl h)
open_grown {text} (Some names) scope s t h e =
    by_test (leb (declared_names (names ∷ scope)) most_declared)
    (λ p. subst (λ (z : State). Grown text s.cells z.cells) (ok_inj (rw p at e)) (grown_refl h))
    (λ p. absurd (met_ok (rw p at e)))

module _ (book : Book) (text : List ℕ) (passing_ok : PassingChild book) (inner : Option Runner)
    (goods : (f : Runner) → inner ≡ Some f → Good book text f) (c : Call) (j : ℕ) (rest : List (Todo ℕ)) where
  body_gives : (opening : Option (List Entry)) (M item x items : ℕ) (set : List (Parse ℕ)) (s : State) (r : Parsed) →
      Ready text s.cells c set → Wants book text s.cells j rest items → Item text s.cells item →
      ((nth_variant book j).passing ≡ true → ⊥) →
      body_after book text inner opening c j M item rest x items set s ≡ ok r → Gives text s.cells r
  unfolding body_after
  body_gives opening M item x items set s r h w i not_passing e =
      after _ _ e (λ m linked e₁. after _ _ e₁ (λ t opened e₂. after _ _ e₂ (λ a entered next.
      let o = with_cell_onward book text j rest items item s m h.tabled w i linked in
      let way = open_grown opening (scope_of c.path) m.state t o.grown.tabled opened in
      let l = left_still rest m.cell way.prefix o.left in
      let w' : Wants book text t.cells j rest m.cell =
      record { values = l.values; plain = l.plain; passing = λ p. absurd (not_passing p) } in
      let all = grown_then o.grown way in
      gives_from all
      (child_gives book text passing_ok inner goods t.cells opening c j M x _
      (plain_next_good book text t.cells c j rest m.cell w') set t a r
      (prefix_refl t.cells) (ready_still all h) entered next))))

  pub opens_give : (names : List Entry) (kinds close M x items : ℕ) (set : List (Parse ℕ)) (s : State) (r : Parsed) →
      Ready text s.cells c set → BinderLeft book text s.cells j kinds rest items →
      opens book text inner c j names kinds close M rest x items set s ≡ ok r → Gives text s.cells r
  unfolding opens
  opens_give names kinds close M x items set s r h l e =
      after _ _ e (λ a listed next.
      let new = new_list s a h.tabled kinds l.chain listed in
      let h' = ready_still new.grown h in
      gives_from new.grown
      (option_cases (character_end text close x)
      (λ unclosed. gives_ok (rw unclosed at next) (gives_set h'))
      (λ y there.
      body_gives (Some names) M a.cell y items set a.state r h'
      (wants_still rest items new.grown.prefix l.wants) new.item l.not_passing (rw there at next))))

  declares_give : (names : List Entry) (kinds close M x items : ℕ) (set : List (Parse ℕ)) (s : State) (r : Parsed) →
      Ready text s.cells c set → BinderLeft book text s.cells j kinds rest items →
      declares book text inner c j names kinds close M rest x items set s ≡ ok r → Gives text s.cells r
  unfolding declares
  declares_give names kinds close M x items set s₀ r h₀ l₀ e =
      after _ _ e (λ s spent e₁. nested_run book text inner s _ e₁ (λ f there ran.
      let way = spend_grown s₀ s h₀.tabled spent in
      let h = ready_still way h₀ in
      let l = binder_still rest items way.prefix l₀ in
      gives_from way
      (option_cases (declaration_at book text (skip_from text x))
      (λ missing. gives_ok (rw missing at ran) (gives_set h))
      (λ d declared. after _ _ (rw declared at ran) (λ k numbered e₂. after _ _ e₂ (λ m linked more.
      let kind = new_kind s k h.tabled d.value.label
      (declared_kind book text (skip_from text x) d declared) numbered in
      let new =
      new_link k.state m kind.grown.tabled kinds k.cell
      (chain_still text kind.grown.prefix kinds l.chain) kind.item linked in
      let all = grown_then kind.grown new.grown in
      let h' = ready_still all h in
      let l' : BinderLeft book text m.state.cells j m.cell rest items = record {
        chain = new.chain;
        wants = wants_still rest items all.prefix l.wants;
        not_passing = l.not_passing;
      } in
      gives_from all
      (after_cases (after_element text true d.end)
      (λ y on.
      goods f there c j (naming (names ++ (d.value ∷ [])) m.cell close M ∷ rest) y items set m.state r h'
      (left_naming l') (rw on at more))
      (λ y on.
      goods f there c j (closing (names ++ (d.value ∷ [])) m.cell close M ∷ rest) y items set m.state r h'
      (left_closing l') (rw on at more)))))))))

  pub name_choice_gives : (names : List Entry) (kinds close M x items : ℕ) (set : List (Parse ℕ)) (s : State)
      (r : Parsed) → Ready text s.cells c set → BinderLeft book text s.cells j kinds rest items →
      name_choice book text inner c j names kinds close M rest x items set s ≡ ok r → Gives text s.cells r
  unfolding name_choice
  name_choice_gives names kinds close M x items set s₀ r h₀ l₀ e =
      after _ _ e (λ s spent e₁. after _ _ e₁ (λ a opened e₂. after _ _ e₂ (λ b declared is.
      let way = spend_grown s₀ s h₀.tabled spent in
      let h = ready_still way h₀ in
      let l = binder_still rest items way.prefix l₀ in
      let g = opens_give names kinds close M x items set s a h l opened in
      gives_ok is
      (gives_from way
      (chosen_gives c (skip_from text x) a.failure b
      (gives_from g.grown
      (declares_give names kinds close M x items a.set a.state b (ready_after h g)
      (binder_still rest items g.grown.prefix l) declared)))))))

  pub names_give : (close M y items : ℕ) (set : List (Parse ℕ)) (s : State) (r : Parsed) →
      Ready text s.cells c set → Wants book text s.cells j rest items →
      ((nth_variant book j).passing ≡ true → ⊥) →
      (make text Cell.empty s
      >>= (λ m. name_choice book text inner c j [] m.cell close M rest y items set m.state)) ≡ ok r →
      Gives text s.cells r
  names_give close M y items set s r h w not_passing e =
      after _ _ e (λ m begun next.
      let new = new_empty s m h.tabled begun in
      gives_from new.grown
      (name_choice_gives [] m.cell close M y items set m.state r (ready_still new.grown h)
      (record {
        chain = new.chain;
        wants = wants_still rest items new.grown.prefix w;
        not_passing = not_passing;
      }) next))

  pub body_alone_gives : (M x items : ℕ) (set : List (Parse ℕ)) (s : State) (r : Parsed) →
      Ready text s.cells c set → Wants book text s.cells j rest items →
      ((nth_variant book j).passing ≡ true → ⊥) →
      (make text Cell.absent s
      >>= (λ m. body_after book text inner None c j M m.cell rest x items set m.state)) ≡ ok r →
      Gives text s.cells r
  body_alone_gives M x items set s r h w not_passing e =
      after _ _ e (λ m missing next.
      let new = new_absent s m h.tabled missing in
      gives_from new.grown
      (body_gives None M m.cell x items set m.state r (ready_still new.grown h)
      (wants_still rest items new.grown.prefix w) new.item not_passing next))
