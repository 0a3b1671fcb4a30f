-- A fresh use is run a second time, where all cells that its first run made are there: an instance of two runs side by
-- side (SideBySide). The places that are followed are the use's own and those behind it, since places only go forward.
use Rattle.std.specs.Prelude.{◌≡◌, Bool, List, ℕ, zero, ◌≤◌}
use Rattle.std.proofs.Math.Path.{refl}
use Rattle.std.proofs.Common.{subst, arith}
use Rattle.characters.proofs.SkippingLaws.{skip_forward}
use Rattle.book.specs.Book.{Book}
use Rattle.semantics.specs.Uses.{use_of, Scope, Governor, governor}
use Rattle.semantics.specs.Cells.{Cell}
use Rattle.semantics.specs.Run.{ok, State, Parsed, runner, enter}
use Rattle.semantics.proofs.Theorem.Results.{met_ok}
use Rattle.semantics.proofs.Theorem.Tokens.{free_end_within}
use Rattle.semantics.proofs.ErrorLaws.Places.{closed_forward, Onward, after_onward, declaration_forward}
use Rattle.semantics.proofs.ErrorLaws.Places.{step_forward}
use Rattle.semantics.proofs.Theorem.SideBySide.Relations.{of_set, Context, Governed, minimums, reentries, Laws}
use Rattle.semantics.proofs.Theorem.SideBySide.Relations.{pair}
use Rattle.semantics.proofs.Theorem.SideBySide.Steps.{enter_alike, runner_deeper}
use Rattle.semantics.proofs.Theorem.Replay.Fresh.{Fresh}
use Rattle.semantics.proofs.Theorem.Replay.Around.{Marks, ask_marks, Onwards, Around, outside, inside}
use Rattle.semantics.proofs.Theorem.Replay.Around.{around_behind, around_scope, around_claims, Same, least, asked}
use Rattle.semantics.proofs.Theorem.Replay.Around.{around_governor}
use Rattle.semantics.proofs.Theorem.Replay.Results.{Beside, Ended, Replayed, then_replayed, done_replayed}
use Rattle.semantics.proofs.Theorem.Replay.Results.{marked_replayed, spend_replayed, make_replayed}
use Rattle.semantics.proofs.Theorem.Replay.Results.{opens_beside, newest_beside, closes_beside}

module _ (book : Book) (text : List ℕ) (P m u : ℕ) (scope : Scope) where
  further : {x y : ℕ} → u ≤ x → x ≤ y → u ≤ y
  further h g = omega arith

  -- the second run's cells are E, and the marks of the calls around it M
  module _ (E : List Cell) (M : List Bool) where
    governed_by : (k : ℕ) (A₁ A₂ : Context) (N v : ℕ) (g₁ g₂ : Governor) → governor A₁.path N v ≡ g₁ →
        governor A₂.path N v ≡ g₂ → Same book text P m u scope k A₁.stored A₂.stored g₁ g₂ →
        Governed (Onwards u) (Beside u E M k) A₁ A₂ N v
    governed_by k A₁ A₂ N v g₁ g₂ is₁ is₂ (least n) = minimums n is₁ is₂
    governed_by k A₁ A₂ N v g₁ g₂ is₁ is₂ (asked i f Q₁ Q₂ e good h) =
        reentries i f Q₁ Q₂ is₁ is₂ e good (λ s₁ s₂ b.
        record { marks = ask_marks M k i s₁.asked s₂.asked h b.marks; cells = b.cells })

    replay : Laws book text
    replay = record {
      Place = Onwards u;
      States = Beside u E M;
      Around = Around book text P m u scope;
      Deeper = Unit {0};
      Side = Replayed u E M;
      then = then_replayed u E M;
      done = done_replayed u E M;
      marked = marked_replayed u E M;
      limit = λ k K n s₁ s₂ b. record { ended = λ a e. absurd (met_ok e) };
      deeper = λ d k K s₁ s₂ r b. record { ended = λ a e. absurd (met_ok e) };
      spends = spend_replayed u E M;
      makes = λ k c s₁ s₂ b. make_replayed u E M text k c s₁ s₂ b;
      opens = opens_beside u E M;
      newests = newest_beside u E M;
      closes = closes_beside u E M;
      within = λ k A₁ A₂ N x j v mine a px pv good. inside k (use_of book N x j v) mine A₁ A₂ good a;
      behind = around_behind book text P m u scope;
      governed = λ k A₁ A₂ N v a pv.
          governed_by k A₁ A₂ N v _ _ refl refl (around_governor book text P m u scope k A₁ A₂ N v a pv);
      scopes = around_scope book text P m u scope;
      claims = around_claims book text P m u scope;
      skips = λ x p. further p (skip_forward text x);
      frees = λ x y p e. let less = (free_end_within book text x y e).0 in omega arith;
      takes = λ names step x t p e. further p (step_forward book text names x step e);
      lists = λ names step x comma M close y p e. further p (step_forward book text names x step e);
      unopens = λ names step x y p e. further p (step_forward book text names x step e);
      names_from = λ names step x close M y p e. further p (step_forward book text names x step e);
      declares = λ x d p e. let less = declaration_forward book text x d e in omega arith;
      goes_on_lem = λ comma x y p e. further p (subst (Onward text x) e (after_onward text comma x));
      halts_at = λ comma x y p e. further p (subst (Onward text x) e (after_onward text comma x));
      closes_at = λ close x y p e. further p (closed_forward text close x y e);
    }

  -- ---- Two runs of one fresh use
  pub two_runs : (N n more : ℕ) → n ≤ more → (A₁ A₂ : Context) →
      Fresh book text P m u scope A₁.path → Fresh book text P m u scope A₂.path →
      (s₁ s₂ : State) (r : Parsed) → enter book text (runner book text n) A₁.path A₁.stored N u s₁ ≡ ok r →
      Ended u s₂.cells s₂.asked zero of_set s₁ s₂ r
      (enter book text (runner book text more) A₂.path A₂.stored N u s₂)
  unfolding replay Marks
  two_runs N n more h A₁ A₂ f₁ f₂ s₁ s₂ r e =
      let L = replay s₂.cells s₂.asked in
      (enter_alike L (runner book text n) (runner book text more) (runner_deeper L tt n more h) {k = 0} A₁ A₂ N u
      (outside A₁ A₂ f₁ f₂) (omega arith) (pair L s₁ s₂ (record { marks = refl; cells = refl }))).ended r e
