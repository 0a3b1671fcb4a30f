-- What a binder's names, its closing and its body leave of the rows. A name is put into row n, which is no call's, and
-- what is left goes on one level further in. Scaffolding: no definition of document 01.
use Rattle.std.proofs.Common.{◌∙◌, arith}
use Rattle.std.proofs.Math.Bool.{true}
use Rattle.std.specs.Prelude.{List, [], ◌∷◌, ◌++◌, ℕ, suc, ◌+◌, ◌<◌, ◌≤◌, leb, length}
use Rattle.std.specs.Prelude.{Option, None, Some}
use Rattle.characters.specs.Cases.{by_test}
use Rattle.characters.specs.Skipping.{skip_from}
use Rattle.book.specs.Book.{Entry, Book}
use Rattle.semantics.specs.Numbers.{most_declared}
use Rattle.semantics.specs.Tokens.{character_end, declaration_at}
use Rattle.semantics.specs.Steps.{after_element, Todo, naming, closing}
use Rattle.semantics.specs.Run.{Result, ◌>>=◌, declared_names}
use Rattle.run_model.specs.Rows.{with_child, on_row, scope_in}
use Rattle.run_model.specs.Model.{RowState, row_state, RowRunner, plain_next_rows, with_declared, open_rows, body_rows}
use Rattle.run_model.specs.Model.{opens_rows, declares_rows, name_choice_rows}
use Rattle.run_model.proofs.Keeps.{KeepsAt, at_refl, at_then, at_below, at_less, On, on_ok, on_bind, on_map}
use Rattle.run_model.proofs.Keeps.{on_option, on_after, on_makes, on_spend, Beside, Calls, Fits, Inner, on_nested}
use Rattle.run_model.proofs.KeepsCalls.{KeepsGo, keeps_plain_next, keeps_child, child_leaves, keeps_followed}

module _ (book : Book) (text : List ℕ) (n : ℕ) (inner : Option RowRunner) (inners : Inner n inner) (room : n ≤ 200)
    (c : ℕ) (below : n < c) (within : c ≤ 200) where
  on_open : {A : Type 0} (Q : A → Type 0) (opening : Option (List Entry)) (s : RowState) (K : RowState → Result A) →
      On Q (K s) → On Q (open_rows book text inner n opening c s >>= K)
  unfolding open_rows ◌>>=◌ On
  on_open Q None s K h = h
  on_open Q (Some names) s K h =
      by_test (leb (length names + declared_names (scope_in text s.rows c)) most_declared)
      (λ t. rw t h) (λ t. rw t tt)

  pub keeps_body : (opening : Option (List Entry)) (j M item : ℕ) (rest : List (Todo ℕ)) →
      KeepsGo n c (body_rows book text inner n opening c j M item rest)
  unfolding body_rows
  keeps_body opening j M item rest x items s h =
      let Q = Beside c (suc n) s.rows in
      on_makes Q _ s _
      (λ cell units cells. on_open Q opening (row_state units cells s.rows) _
      (on_bind (Calls n (on_row s.rows c (with_child (skip_from text x)))) Q _ _
      (keeps_child book text n inner inners room c below within opening M x (row_state units cells s.rows) h)
      (λ r k.
      let d : KeepsAt c (suc n) s.rows r.state.rows =
      child_leaves book text n inner inners room c below within x s.rows r.state.rows h k in
      on_map (Beside c (suc n) r.state.rows) Q _
      (keeps_followed book text n inner inners room c below within (plain_next_rows book text c j rest cell)
      (keeps_plain_next book text n c below within j rest cell) r (d.size ∙ h))
      (λ b l. at_then d l))))

  pub keeps_opens : (j : ℕ) (names : List Entry) (kinds close M : ℕ) (rest : List (Todo ℕ)) →
      KeepsGo n c (opens_rows book text inner n c j names kinds close M rest)
  unfolding opens_rows
  keeps_opens j names kinds close M rest x items s h =
      let Q = Beside c (suc n) s.rows in
      on_makes Q _ s _
      (λ cell units cells. on_option Q (character_end text close x) _ _ (on_ok Q at_refl)
      (λ y. keeps_body (Some names) j M cell rest y items (row_state units cells s.rows) h))

  pub keeps_declares : (j : ℕ) (names : List Entry) (kinds close M : ℕ) (rest : List (Todo ℕ)) →
      KeepsGo n c (declares_rows book text inner n c j names kinds close M rest)
  unfolding declares_rows
  keeps_declares j names kinds close M rest x items s h =
      let Q = Beside c (suc n) s.rows in
      on_spend Q s _
      (λ units cells. on_nested Q book text n inner inners (row_state units cells s.rows) _
      (λ m S e keeping. on_option Q (declaration_at book text (skip_from text x)) _ _ (on_ok Q at_refl)
      (λ d. on_makes Q _ (row_state units cells s.rows) _ (λ cell units₁ cells₁.
      on_makes Q _ (row_state units₁ cells₁ s.rows) _ (λ cell₂ units₂ cells₂.
      let t = with_declared book text inner n (skip_from text x) d (row_state units₂ cells₂ s.rows) in
      let put : KeepsAt c (suc n) s.rows t.rows = at_below c n s.rows _ below in
      let f : Fits c m t.rows = record { below = omega arith; within = within; size = put.size ∙ h } in
      on_map (Beside c (suc m) t.rows) Q _
      (on_after (Beside c (suc m) t.rows) (after_element text true d.end) _ _
      (λ y. keeping.of c j (naming (names ++ (d.value ∷ [])) cell₂ close M ∷ rest) y items t f)
      (λ y. keeping.of c j (closing (names ++ (d.value ∷ [])) cell₂ close M ∷ rest) y items t f))
      (λ o a. at_then put (at_less (omega arith) a)))))))

  pub keeps_name_choice : (j : ℕ) (names : List Entry) (kinds close M : ℕ) (rest : List (Todo ℕ)) →
      KeepsGo n c (name_choice_rows book text inner n c j names kinds close M rest)
  unfolding name_choice_rows
  keeps_name_choice j names kinds close M rest x items s h =
      let Q = Beside c (suc n) s.rows in
      on_spend Q s _
      (λ units cells. on_bind Q Q _ _
      (keeps_opens j names kinds close M rest x items (row_state units cells s.rows) h)
      (λ a k. on_bind (Beside c (suc n) a.state.rows) Q _ _
      (keeps_declares j names kinds close M rest x items a.state (k.size ∙ h))
      (λ b l. on_ok Q (at_then k l))))
