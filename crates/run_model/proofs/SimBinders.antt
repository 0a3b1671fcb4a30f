-- That a binder's names, its closing and its body over the rows give what the definition's give. The names stand in the
-- rows above the free one (Named), and each that is read is put into the free row, which is no call's; the body's call
-- is a child's (SimChild). Scaffolding: no definition of document 01.
use Rattle.std.specs.Prelude.{◌≡◌, refl, Bool, List, [], ◌∷◌, ◌++◌, ℕ, suc, ◌+◌, ◌-◌, ◌<◌, ◌≤◌, leb, length}
use Rattle.std.proofs.Common.{sym, subst, arith}
use Rattle.std.proofs.Math.Path.{ap}
use Rattle.std.proofs.Math.Bool.{true}
use Rattle.std.specs.Prelude.{Option, None, Some}
use Rattle.characters.specs.Cases.{by_test}
use Rattle.characters.specs.Skipping.{skip_from}
use Rattle.book.specs.Book.{Entry, Book}
use Rattle.semantics.specs.Numbers.{most_declared}
use Rattle.semantics.specs.Uses.{scope_of}
use Rattle.semantics.specs.Tokens.{Read, character_end, declaration_at}
use Rattle.semantics.specs.Steps.{after_element, Todo, naming, closing}
use Rattle.semantics.specs.Cells.{Cell}
use Rattle.semantics.specs.Run.{Result, ok, ◌>>=◌, State, Parsed, Call, Runner, plain_next, declared_names, open_scope}
use Rattle.semantics.specs.Run.{body_after, opens, declares, name_choice}
use Rattle.run_model.specs.Rows.{Row, row_of, asked_at, marks_of, scope_in}
use Rattle.run_model.specs.Model.{RowState, row_state, Outcome, RowRunner, plain_next_rows, with_declared, open_rows}
use Rattle.run_model.specs.Model.{body_rows, opens_rows, declares_rows, name_choice_rows}
use Rattle.run_model.proofs.Keeps.{row_put, row_else, at_below, Beside, Inner}
use Rattle.run_model.proofs.KeepsCalls.{keeps_plain_next}
use Rattle.run_model.proofs.KeepsBinders.{keeps_opens, keeps_declares}
use Rattle.run_model.proofs.Views.{open_equal}
use Rattle.run_model.proofs.Named.{NoNames, NamesAt, NamesIn, names_declared}
use Rattle.run_model.proofs.Sim.{state_of, see, then_see, option_see, after_see, plain_make, plain_with, makes_see}
use Rattle.run_model.proofs.Sim.{spend_see, state_at, ran_at, Here, here_keeps, here_shut, Alike, Kin, kin_inner}
use Rattle.run_model.proofs.Sim.{nested_see}
use Rattle.run_model.proofs.SimChild.{OpensAt, names_still, chosen_seen, sim_plain_next, sim_descend}

module _ (book : Book) (text : List ℕ) (n : ℕ) (inner : Option RowRunner) (innerA : Option Runner)
    (kin : Kin book text n inner innerA) (room : n ≤ 200) (C : Call) (c j : ℕ) (below : n < c) (within : c ≤ 200)
    (rest : List (Todo ℕ)) (plain : NoNames rest) where
  inners : Inner n inner
  inners = kin_inner book text n inner innerA kin

  open_see : (opening : Option (List Entry)) (units : ℕ) (cells : List Cell) (T : List Row) (asked : List Bool)
      (L : State → Result Parsed) (K : RowState → Result Outcome) → scope_in text T c ≡ scope_of C.path →
      L (state_of units cells asked) ≡ see (ran_at c) (K (row_state units cells T)) →
      (open_scope opening (scope_of C.path) (state_of units cells asked) >>= L)
      ≡ see (ran_at c) (open_rows book text inner n opening c (row_state units cells T) >>= K)
  unfolding open_scope open_rows declared_names ◌>>=◌ see
  open_see None units cells T asked L K e h = h
  open_see (Some names) units cells T asked L K e h =
      rw e (by_test (leb (length names + declared_names (scope_of C.path)) most_declared)
      (λ t. rw t h) (λ t. rw t))

  pub sim_body : (opening : Option (List Entry)) (M item x items units : ℕ) (cells : List Cell) (T : List Row) →
      Here book text C c (suc n) j T → OpensAt text n T opening →
      body_after book text innerA opening C j M item rest x items (row_of T c).run
      (state_at c (row_state units cells T))
      ≡ see (ran_at c) (body_rows book text inner n opening c j M item rest x items (row_state units cells T))
  unfolding body_after body_rows
  sim_body opening M item x items units cells T h is =
      makes_see (ran_at c) _ (plain_with book text j items item) (row_state units cells T)
      (asked_at (row_of T c) ∷ marks_of T c) _ _
      (λ cell units₁ cells₁.
      open_see opening units₁ cells₁ T (asked_at (row_of T c) ∷ marks_of T c) _ _ h.standing.scope
      (sim_descend book text n inner innerA kin room C c j below within
      (plain_next_rows book text c j rest cell) (plain_next book text C j rest cell)
      (keeps_plain_next book text n c below within j rest cell)
      (sim_plain_next book text n C c j rest plain cell) opening M x units₁ cells₁ T h is))

  pub sim_opens : (names : List Entry) (kinds close M x items units : ℕ) (cells : List Cell) (T : List Row) →
      Here book text C c (suc n) j T → NamesAt text T n names →
      opens book text innerA C j names kinds close M rest x items (row_of T c).run
      (state_at c (row_state units cells T))
      ≡ see (ran_at c) (opens_rows book text inner n c j names kinds close M rest x items (row_state units cells T))
  unfolding opens opens_rows see
  sim_opens names kinds close M x items units cells T h is =
      makes_see (ran_at c) _ (plain_make text (Cell.list kinds)) (row_state units cells T)
      (asked_at (row_of T c) ∷ marks_of T c) _ _
      (λ cell units₁ cells₁. option_see (ran_at c) (character_end text close x) _ _ _ _ (λ z. refl)
      (λ y z. sim_body (Some names) M cell y items units₁ cells₁ T h is))

  -- the row that keeps a name is no call's, and is below those that are
  declared_here : (at : ℕ) (d : Read Entry) (units : ℕ) (cells : List Cell) (T : List Row) →
      Here book text C c (suc n) j T →
      Here book text C c n j (with_declared book text inner n at d (row_state units cells T)).rows
  declared_here at d units cells T h =
      let U = (with_declared book text inner n at d (row_state units cells T)).rows in
      let size : length T ≡ 201 = h.standing.size in
      here_shut book text C c n j U (here_keeps book text C c (suc n) j T U h (at_below c n T _ below))
      (ap (λ r. r.live) (row_put T n _ (omega arith)))

  declared_seen : (at : ℕ) (d : Read Entry) (units : ℕ) (cells : List Cell) (T : List Row) →
      Here book text C c (suc n) j T →
      state_at c (with_declared book text inner n at d (row_state units cells T)) ≡ state_at c (row_state units cells T)
  declared_seen at d units cells T h =
      let U = (with_declared book text inner n at d (row_state units cells T)).rows in
      let r : row_of U c ≡ row_of T c = row_else T n c _ (λ e. omega arith) in
      let marks : marks_of U c ≡ marks_of T c =
      open_equal asked_at T U (200 - c) (suc c) (λ i l. row_else T n i _ (λ e. omega arith)) in
      rw (r, marks)

  -- what follows a name, one level further in
  named_on : (m : ℕ) (S : RowRunner) (R : Runner) → n ≡ suc m → Alike book text m S R →
      (t : Todo ℕ) (at : ℕ) (d : Read Entry) (y items units : ℕ) (cells : List Cell) (T : List Row) →
      Here book text C c (suc n) j T →
      NamesIn text (with_declared book text inner n at d (row_state units cells T)).rows m (t ∷ rest) →
      R C j (t ∷ rest) y items (row_of T c).run (state_at c (row_state units cells T))
      ≡ see (ran_at c) (S c j (t ∷ rest) y items (with_declared book text inner n at d (row_state units cells T)))
  named_on m S R e alike t at d y items units cells T h is =
      let s = with_declared book text inner n at d (row_state units cells T) in
      let r : (row_of s.rows c).run ≡ (row_of T c).run = ap (λ r. r.run) (row_else T n c _ (λ e. omega arith)) in
      rw (r, declared_seen at d units cells T h) at
      (alike.of C c j (t ∷ rest) y items s
      (subst (λ k. Here book text C c k j s.rows) e (declared_here at d units cells T h)) is)

  names_on : (m at : ℕ) (d : Read Entry) (names : List Entry) (units : ℕ) (cells : List Cell) (T : List Row) →
      n ≡ suc m → declaration_at book text at ≡ Some d → Here book text C c (suc n) j T → NamesAt text T n names →
      NamesAt text (with_declared book text inner n at d (row_state units cells T)).rows m (names ++ (d.value ∷ []))
  names_on m at d names units cells T e there h is =
      rw e (names_declared book text T m at d names (omega arith) h.standing.size there (rw e at is))

  sim_declares : (names : List Entry) (kinds close M x items units : ℕ) (cells : List Cell) (T : List Row) →
      Here book text C c (suc n) j T → NamesAt text T n names →
      declares book text innerA C j names kinds close M rest x items (row_of T c).run
      (state_at c (row_state units cells T))
      ≡ see (ran_at c) (declares_rows book text inner n c j names kinds close M rest x items (row_state units cells T))
  unfolding declares declares_rows NamesIn see
  sim_declares names kinds close M x items units cells T h is =
      let asked = asked_at (row_of T c) ∷ marks_of T c in
      let at = skip_from text x in
      spend_see (ran_at c) (row_state units cells T) asked _ _
      (λ units₁. nested_see (ran_at c) book text n inner innerA kin (row_state units₁ cells T) asked _ _
      (λ m S R e keeping alike. option_see (ran_at c) (declaration_at book text at) _ _ _ _ (λ z. refl)
      (λ d there. makes_see (ran_at c) _ (plain_make text (Cell.number 0 d.value.label))
      (row_state units₁ cells T) asked _ _
      (λ cell units₂ cells₂. makes_see (ran_at c) _ (plain_make text (Cell.chain kinds cell))
      (row_state units₂ cells₂ T) asked _ _
      (λ cell₃ units₃ cells₃. after_see (ran_at c) (after_element text true d.end) _ _ _ _
      (λ y. named_on m S R e alike (naming (names ++ (d.value ∷ [])) cell₃ close M) at d y items units₃ cells₃ T h
      (names_on m at d names units₃ cells₃ T e there h is, plain))
      (λ y. named_on m S R e alike (closing (names ++ (d.value ∷ [])) cell₃ close M) at d y items units₃ cells₃ T h
      (names_on m at d names units₃ cells₃ T e there h is, plain)))))))

  pub sim_name_choice : (names : List Entry) (kinds close M x items units : ℕ) (cells : List Cell) (T : List Row) →
      Here book text C c (suc n) j T → NamesAt text T n names →
      name_choice book text innerA C j names kinds close M rest x items (row_of T c).run
      (state_at c (row_state units cells T))
      ≡ see (ran_at c) (name_choice_rows book text inner n c j names kinds close M rest x items
      (row_state units cells T))
  unfolding name_choice name_choice_rows see
  sim_name_choice names kinds close M x items units cells T h is =
      spend_see (ran_at c) (row_state units cells T) (asked_at (row_of T c) ∷ marks_of T c) _ _
      (λ units₁.
      then_see (ran_at c) (ran_at c) (Beside c (suc n) T) _ _ _ _
      (sim_opens names kinds close M x items units₁ cells T h is)
      (keeps_opens book text n inner inners room c below within j names kinds close M rest x items
      (row_state units₁ cells T) h.standing.size)
      (λ a k.
      let U = a.state.rows in
      let g = here_keeps book text C c (suc n) j T U h k in
      then_see (ran_at c) (ran_at c) (Beside c (suc n) U) _ _ _ _
      (sim_declares names kinds close M x items a.state.units a.state.cells U g
      (names_still text n c T U names k is))
      (keeps_declares book text n inner inners room c below within j names kinds close M rest x items
      a.state g.standing.size)
      (λ b l.
      let f = here_keeps book text C c (suc n) j U b.state.rows g l in
      ap ok (chosen_seen book text n inner C c (skip_from text x) a.failure b
      (sym (ap (λ c. c.nonterminal) f.standing.call))))))
