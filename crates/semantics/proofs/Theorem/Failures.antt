-- A use fails exactly where it finds no parse.
use Rattle.std.specs.Prelude.{◌≡◌}
use Rattle.std.proofs.Math.Path.{refl, subst}
use Rattle.std.proofs.Common.{sym, ◌∙◌}
use mathlib.Core.List.{List, [], ◌∷◌, cons≢nil}
use Rattle.std.specs.Prelude.{Option, None, Some}
use Prim.Native.Nat.{ℕ, zero, suc}
use Rattle.characters.specs.Cases.{by_test}
use Rattle.book.specs.Book.{Book}
use Rattle.semantics.specs.Values.{Parse}
use Rattle.semantics.specs.Uses.{Path, has_mark, governor}
use Rattle.semantics.specs.Tokens.{free_end, claimed}
use Rattle.semantics.specs.Errors.{Error}
use Rattle.semantics.specs.Run.{ok, State, Parsed, Call, with_mine, Runner, all_in, newest, rounds, run_call, named}
use Rattle.semantics.specs.Run.{run_identifier, nested, reentry, enter}
use Rattle.semantics.proofs.Theorem.Results.{met_ok, ok_inj, none_some, after, option_cases, list_cases}
use Rattle.semantics.proofs.Theorem.Results.{governor_cases}
use Rattle.semantics.proofs.Theorem.Sets.{add_all_some}

pub record Fails (r : Parsed) : Type 0 where
  pub fails : (e : Error) → r.failure ≡ Some e → r.set ≡ []
  pub finds : r.failure ≡ None → r.set ≡ [] → ⊥

failed : (r : Parsed) (e : Error) → r.failure ≡ Some e → r.set ≡ [] → Fails r
failed r e f n = record { fails = λ d t. n; finds = λ h. absurd (none_some (sym h ∙ f)) }

found : (r : Parsed) → r.failure ≡ None → (r.set ≡ [] → ⊥) → Fails r
found r f n = record { fails = λ d t. absurd (none_some (sym f ∙ t)); finds = λ h. n }

module _ (book : Book) (text : List ℕ) where
  module _ (f : Runner) where
    rounds_fails : (n : ℕ) (c : Call) (m : ℕ) (s : State) (r : Parsed) → rounds book text n f c m s ≡ ok r →
        (c.mine ≡ [] → ⊥) → Fails r
    unfolding rounds
    rounds_fails zero c m s r e some_mine = absurd (met_ok e)
    rounds_fails (suc n) c m s r e some_mine =
        after _ _ e (λ a ran next.
        by_test (all_in c.mine a.set)
        (λ t. subst Fails (ok_inj (rw t at next)) (found _ refl some_mine))
        (λ t. after _ _ (rw t at next) (λ all added again. rounds_fails n (with_mine c all) m a.state r again
        (add_all_some a.state c.mine a.set added some_mine))))

    run_call_fails : (c : Call) (m : ℕ) (s : State) (r : Parsed) → run_call book text f c m s ≡ ok r → Fails r
    unfolding run_call
    run_call_fails c m s r e =
        after _ _ e (λ a ran next.
        list_cases a.set
        (λ empty. subst Fails (ok_inj (rw empty at next)) (failed _ _ refl refl))
        (λ p ps some_found. let not_empty : a.set ≡ [] → ⊥ = λ h. cons≢nil (sym some_found ∙ h) in
        by_test (newest a.state.asked)
        (λ t. rounds_fails 65 (with_mine c a.set) m a.state r (rw t at (rw some_found at next)) not_empty)
        (λ t. subst Fails (ok_inj (rw t at (rw some_found at next))) (found _ refl not_empty))))

  identifier_fails : (c : Call) (s : State) (r : Parsed) → run_identifier book text c s ≡ ok r → Fails r
  unfolding run_identifier named
  identifier_fails c s r e =
      by_test (claimed book text c.path c.start)
      (λ t. subst Fails (ok_inj (rw t at e)) (failed _ _ refl refl))
      (λ t. option_cases (free_end book text c.start)
      (λ none_there. subst Fails (ok_inj (rw none_there at (rw t at e))) (failed _ _ refl refl))
      (λ end there.
      after _ _ (rw there at (rw t at e)) (λ m ran is. subst Fails (ok_inj is) (found _ refl (λ h. cons≢nil h)))))

  module _ (inner : Option Runner) where
    reentry_fails : (l : List (Parse ℕ)) (e : Error) (s : State) → Fails (reentry book text inner l e s)
    unfolding reentry
    reentry_fails [] e s = failed _ e refl refl
    reentry_fails (p ∷ ps) e s = found _ refl (λ h. cons≢nil h)

    pub enter_fails : (P : Path) (S : List (List (Parse ℕ))) (N u : ℕ) (s : State) (r : Parsed) →
        enter book text inner P S N u s ≡ ok r → Fails r
    unfolding enter nested
    enter_fails P S N u s₀ r e =
        after _ _ e (λ s ran next.
        governor_cases (governor P N u)
        (λ m gov. option_cases inner
        (λ over. absurd (met_ok (rw over at (rw gov at next))))
        (λ f there. by_test (has_mark book 2 N)
        (λ mark. identifier_fails _ s r (rw mark at (rw there at (rw gov at next))))
        (λ mark. after _ _ (rw mark at (rw there at (rw gov at next))) (λ a called is.
        let h = run_call_fails f _ m _ a called in
        subst Fails (ok_inj is) (record { fails = h.fails; finds = h.finds })))))
        (λ i f Q gov. subst Fails (ok_inj (rw gov at next)) (reentry_fails _ _ _)))
