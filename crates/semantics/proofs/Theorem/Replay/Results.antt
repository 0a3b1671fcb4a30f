-- Two runs of one fresh use, of which the second has all cells that the first made: what is shown of each part of the
-- run. The second run's cells are E throughout, and the marks of the calls around it are M.
--
-- If the first run of a part has a result, it only added cells and took units; and if its cells are the first of E, the
-- second run has the same result for the same units, or has run out of units, and then had fewer than the part takes
-- (`Replayed`). The states beside each other say nothing of the first run's cells and of units, so that there is such a
-- state beside any (`beside_any`): what the first run does is known without the second.
use Rattle.std.specs.Prelude.{◌≡◌, Bool, ltb, length}
use Rattle.std.proofs.Math.Path.{refl, ap, subst}
use Rattle.std.proofs.Common.{sym, ◌∙◌, arith}
use Rattle.std.proofs.Math.Bool.{false}
use mathlib.Core.List.{List, [], ◌∷◌, ◌++◌, append_assoc}
use Prim.Native.Nat.{ℕ, suc, ◌+◌, ◌-◌, ◌≤◌, ◌<◌}
use Rattle.std.proofs.Math.Dec.{eqb}
use borrow.Author.Tests.{ltb-true, ltb-false, eqb-true, eqb-false, ne_eqb}
use Rattle.characters.specs.Cases.{by_test}
use Rattle.characters.specs.Spelling.{same}
use Rattle.characters.proofs.SpellingLaws.{same_itself}
use Rattle.semantics.specs.Numbers.{most_cells, no_unit}
use Rattle.semantics.specs.Cells.{Cell, identity_of, find_cell}
use Rattle.semantics.specs.Run.{Result, met, ok, ◌>>=◌, State, Made, with_asked, newest, others, spend, make}
use Rattle.semantics.proofs.Theorem.Results.{met_ok, ok_inj, after}
use Rattle.semantics.proofs.Theorem.Meanings.{Prefix, prefix_refl, prefix_then}
use Rattle.semantics.proofs.Theorem.SideBySide.Relations.{Kind, of_state, of_cell, of_set, Of, Seen, put, Known}
use Rattle.semantics.proofs.Theorem.Replay.Around.{Marks, with_marks, with_marks_lem, Onwards}

-- ---- A result: what is seen of it, its state, and both together
abbrev pub see : (K : Kind) → Of K → Seen K
see of_state a = tt
see of_cell a = a.cell
see of_set a = (a.set, a.failure)

abbrev pub state_of : (K : Kind) → Of K → State
state_of of_state a = a
state_of of_cell a = a.state
state_of of_set a = a.state

both : (K : Kind) (a : Of K) → a ≡ put K (see K a) (state_of K a)
both of_state a = refl
both of_cell a = refl
both of_set a = refl

-- ---- Finding a cell again, among more cells
module _ (text : List ℕ) (c : Cell) where
  find_still : (C more : List Cell) (n : ℕ) → (find_cell text c (suc n) C ≡ 0 → ⊥) →
      find_cell text c (suc n) (C ++ more) ≡ find_cell text c (suc n) C
  unfolding find_cell
  find_still [] more n h = absurd (h refl)
  find_still (b ∷ C) more n h =
      by_test (same (identity_of text c) (identity_of text b))
      (λ t. rw (t, find_cell) refl)
      (λ t. rw (t, find_cell) (find_still C more (suc n) (rw (t, find_cell) at h)))

  find_new : (C more : List Cell) (n : ℕ) → find_cell text c (suc n) C ≡ 0 →
      find_cell text c (suc n) (C ++ (c ∷ more)) ≡ suc n + length C
  unfolding find_cell
  find_new [] more n h = rw (same_itself (identity_of text c), find_cell) (omega arith)
  find_new (b ∷ C) more n h =
      by_test (same (identity_of text c) (identity_of text b))
      (λ t. let z : suc n ≡ 0 = rw (t, find_cell) at h in absurd (omega arith))
      (λ t. rw (t, find_cell) (find_new C more (suc n) (rw (t, find_cell) at h) ∙ omega arith))

  -- one that was there, and one that was made
  found_again : (C E : List Cell) → (find_cell text c 1 C ≡ 0 → ⊥) → Prefix C E →
      find_cell text c 1 E ≡ find_cell text c 1 C
  found_again C E h p = ap (λ (z : List Cell). find_cell text c 1 z) p.is ∙ find_still C p.more 0 h

  made_again : (C E : List Cell) → find_cell text c 1 C ≡ 0 → Prefix (C ++ (c ∷ [])) E →
      find_cell text c 1 E ≡ suc (length C)
  made_again C E h p =
      ap (λ (z : List Cell). find_cell text c 1 z) (p.is ∙ append_assoc C (c ∷ []) p.more)
      ∙ find_new C p.more 0 h ∙ omega arith

module _ (u : ℕ) (E : List Cell) (M : List Bool) where
  -- ---- States and results of both runs
  pub record Beside (k : ℕ) (s₁ s₂ : State) : Type 0 where
    pub marks : Marks M k s₁.asked s₂.asked
    pub cells : s₂.cells ≡ E

  -- how the second run of a part ended, where the first ended with a state t₁ and what is seen is w: it has run out of
  -- units, and would have needed more; or it has the same result, for the same units
  pub data Second (k : ℕ) (K : Kind) (s₁ s₂ t₁ : State) (w : Seen K) : Result (Of K) → Type 0 where
    out : s₂.units + t₁.units < s₁.units → Second k K s₁ s₂ t₁ w (met no_unit 0)
    ran : (t₂ : State) → Beside k t₁ t₂ → s₁.units + t₂.units ≡ s₂.units + t₁.units →
        Second k K s₁ s₂ t₁ w (ok (put K w t₂))

  -- the first run of a part ended with the result a
  pub record Ended (k : ℕ) (K : Kind) (s₁ s₂ : State) (a : Of K) (m : Result (Of K)) : Type 0 where
    pub known : Known (Onwards u) K (see K a)
    pub prefix : Prefix s₁.cells (state_of K a).cells
    pub fewer : (state_of K a).units ≤ s₁.units
    pub second : Prefix (state_of K a).cells E → Second k K s₁ s₂ (state_of K a) (see K a) m

  pub record Replayed (k : ℕ) (K : Kind) (s₁ s₂ : State) (m₁ m₂ : Result (Of K)) : Type 0 where
    pub ended : (a : Of K) → m₁ ≡ ok a → Ended k K s₁ s₂ a m₂

  -- a state beside any other
  abbrev any_beside : ℕ → State → State
  any_beside k s = record { units = 0; cells = E; asked = with_marks M k s.asked }

  beside_any : (k : ℕ) (s : State) → Beside k s (any_beside k s)
  beside_any k s = record { marks = with_marks_lem M k s.asked; cells = refl }

  -- ---- One part after the other
  module _ (l : ℕ) (J : Kind) (s₁ s₂ t₁ r : State) (v : Seen J) where
    second_from : (t₂ : State) (m : Result (Of J)) → s₁.units + t₂.units ≡ s₂.units + t₁.units →
        Second l J t₁ t₂ r v m → Second l J s₁ s₂ r v m
    second_from t₂ m e (out h) = out (omega arith)
    second_from t₂ m e (ran r₂ b h) = ran r₂ b (omega arith)

    second_then : (k : ℕ) (K : Kind) (w : Seen K) (m : Result (Of K)) (f : Of K → Result (Of J)) →
        r.units ≤ t₁.units → Second k K s₁ s₂ t₁ w m →
        ((t₂ : State) → Beside k t₁ t₂ → Second l J t₁ t₂ r v (f (put K w t₂))) → Second l J s₁ s₂ r v (m >>= f)
    unfolding ◌>>=◌
    second_then k K w m f less (out h) g = out (omega arith)
    second_then k K w m f less (ran t₂ b e) g = second_from t₂ (f (put K w t₂)) e (g t₂ b)

  then_ended : (k l : ℕ) (K J : Kind) (s₁ s₂ : State) (m₂ : Result (Of K)) (f₁ f₂ : Of K → Result (Of J))
      (a : Of K) (b : Of J) → Ended k K s₁ s₂ a m₂ → f₁ a ≡ ok b →
      ((w : Seen K) (t₁ t₂ : State) → Known (Onwards u) K w → Beside k t₁ t₂ →
      Replayed l J t₁ t₂ (f₁ (put K w t₁)) (f₂ (put K w t₂))) →
      Ended l J s₁ s₂ b (m₂ >>= f₂)
  then_ended k l K J s₁ s₂ m₂ f₁ f₂ a b first next f =
      let w = see K a in
      let t = state_of K a in
      let is : f₁ (put K w t) ≡ ok b = subst (λ (z : Of K). f₁ z ≡ ok b) (both K a) next in
      let rest = (f w t (any_beside k t) first.known (beside_any k t)).ended b is in
      let fewer = first.fewer in
      let fewer_rest = rest.fewer in
      record {
        known = rest.known;
        prefix = prefix_then first.prefix rest.prefix;
        fewer = omega arith;
        second = λ on.
            second_then l J s₁ s₂ t (state_of J b) (see J b) k K w m₂ f₂ fewer_rest
            (first.second (prefix_then rest.prefix on))
            (λ t₂ beside. ((f w t t₂ first.known beside).ended b is).second on);
      }

  pub then_replayed : (k l : ℕ) (K J : Kind) (s₁ s₂ : State) (m₁ m₂ : Result (Of K)) (f₁ f₂ : Of K → Result (Of J)) →
      Replayed k K s₁ s₂ m₁ m₂ →
      ((w : Seen K) (t₁ t₂ : State) → Known (Onwards u) K w → Beside k t₁ t₂ →
      Replayed l J t₁ t₂ (f₁ (put K w t₁)) (f₂ (put K w t₂))) →
      Replayed l J s₁ s₂ (m₁ >>= f₁) (m₂ >>= f₂)
  then_replayed k l K J s₁ s₂ m₁ m₂ f₁ f₂ first f = record {
    ended = λ b e. after m₁ f₁ e (λ a ran next. then_ended k l K J s₁ s₂ m₂ f₁ f₂ a b (first.ended a ran) next f);
  }

  done_ended : (k : ℕ) (K : Kind) (w : Seen K) (s₁ s₂ : State) → Known (Onwards u) K w → Beside k s₁ s₂ →
      Ended k K s₁ s₂ (put K w s₁) (ok (put K w s₂))
  done_ended k of_state w s₁ s₂ known b =
      record {
        known = tt;
        prefix = prefix_refl s₁.cells;
        fewer = omega arith;
        second = λ on. ran s₂ b (omega arith);
      }
  done_ended k of_cell w s₁ s₂ known b =
      record {
        known = tt;
        prefix = prefix_refl s₁.cells;
        fewer = omega arith;
        second = λ on. ran s₂ b (omega arith);
      }
  done_ended k of_set w s₁ s₂ known b =
      record {
        known = known;
        prefix = prefix_refl s₁.cells;
        fewer = omega arith;
        second = λ on. ran s₂ b (omega arith);
      }

  pub done_replayed : (k : ℕ) (K : Kind) (w : Seen K) (s₁ s₂ : State) → Known (Onwards u) K w → Beside k s₁ s₂ →
      Replayed k K s₁ s₂ (ok (put K w s₁)) (ok (put K w s₂))
  done_replayed k K w s₁ s₂ known b = record {
    ended = λ a e.
        subst (λ (z : Of K). Ended k K s₁ s₂ z (ok (put K w s₂))) (ok_inj e) (done_ended k K w s₁ s₂ known b);
  }

  module _ (k : ℕ) (K : Kind) (s₁ s₂ : State) (b₁ b₂ : List Bool) where
    second_marked : (t : State) (w : Seen K) (m : Result (Of K)) →
        Second k K (with_asked s₁ b₁) (with_asked s₂ b₂) t w m → Second k K s₁ s₂ t w m
    second_marked t w m (out h) = out h
    second_marked t w m (ran t₂ b e) = ran t₂ b e

    pub marked_replayed : (m₁ m₂ : Result (Of K)) → Replayed k K (with_asked s₁ b₁) (with_asked s₂ b₂) m₁ m₂ →
        Replayed k K s₁ s₂ m₁ m₂
    marked_replayed m₁ m₂ r = record {
      ended = λ a e.
          let g = r.ended a e in
          record {
            known = g.known;
            prefix = g.prefix;
            fewer = g.fewer;
            second = λ on. second_marked (state_of K a) (see K a) m₂ (g.second on);
          };
    }

  -- ---- Units
  spend_second : (k : ℕ) (s₁ s₂ : State) → Beside k s₁ s₂ → 0 < s₁.units →
      Second k of_state s₁ s₂ (record { units = s₁.units - 1; cells = s₁.cells; asked = s₁.asked }) tt (spend s₂)
  unfolding spend
  spend_second k s₁ s₂ b h =
      by_test (ltb 0 s₂.units)
      (λ t.
      let more = ltb-true 0 s₂.units t in
      rw t
      (ran (record { units = s₂.units - 1; cells = s₂.cells; asked = s₂.asked })
      (record { marks = b.marks; cells = b.cells }) (omega arith)))
      (λ t. let none_left = ltb-false 0 s₂.units t in rw t (out (omega arith)))

  pub spend_replayed : (k : ℕ) (s₁ s₂ : State) → Beside k s₁ s₂ → Replayed k of_state s₁ s₂ (spend s₁) (spend s₂)
  unfolding spend
  spend_replayed k s₁ s₂ b =
      by_test (ltb 0 s₁.units)
      (λ t. record {
        ended = λ a e.
            subst (λ (z : State). Ended k of_state s₁ s₂ z (spend s₂)) (ok_inj (rw t at e))
            (record {
              known = tt;
              prefix = prefix_refl s₁.cells;
              fewer = omega arith;
              second = λ on. spend_second k s₁ s₂ b (ltb-true 0 s₁.units t);
            });
      })
      (λ t. record { ended = λ a e. absurd (met_ok (rw t at e)) })

  -- ---- Cells: one that is there is found
  module _ (text : List ℕ) (k : ℕ) (c : Cell) (s₁ s₂ : State) (b : Beside k s₁ s₂) where
    find_second : (n : ℕ) (t₁ : State) → t₁.units ≡ s₁.units → t₁.asked ≡ s₁.asked → find_cell text c 1 E ≡ n →
        (n ≡ 0 → ⊥) → Second k of_cell s₁ s₂ t₁ n (make text c s₂)
    unfolding make
    find_second n t₁ units marks is there =
        let is₂ : find_cell text c 1 s₂.cells ≡ n = ap (λ (C : List Cell). find_cell text c 1 C) b.cells ∙ is in
        let t : eqb n 0 ≡ false = ne_eqb n 0 there in
        rw (is₂, t)
        (ran s₂
        (record {
          marks = subst (λ (z : List Bool). Marks M k z s₂.asked) (sym marks) b.marks;
          cells = b.cells;
        })
        (omega arith))

    pub make_replayed : Replayed k of_cell s₁ s₂ (make text c s₁) (make text c s₂)
    unfolding make
    make_replayed =
        let C = s₁.cells in
        by_test (eqb (find_cell text c 1 C) 0)
        (λ t. by_test (ltb (length C) most_cells)
        (λ v. record {
          ended = λ a e.
              subst (λ (z : Made). Ended k of_cell s₁ s₂ z (make text c s₂)) (ok_inj (rw (t, v) at e))
              (record {
                known = tt;
                prefix = record { more = c ∷ []; is = refl };
                fewer = omega arith;
                second = λ on.
                    find_second (suc (length C)) _ refl refl (made_again text c C E (eqb-true _ 0 t) on)
                    (λ z. omega arith);
              });
        })
        (λ v. record { ended = λ a e. absurd (met_ok (rw (t, v) at e)) }))
        (λ t. record {
          ended = λ a e.
              subst (λ (z : Made). Ended k of_cell s₁ s₂ z (make text c s₂)) (ok_inj (rw t at e))
              (record {
                known = tt;
                prefix = prefix_refl s₁.cells;
                fewer = omega arith;
                second = λ on.
                    find_second (find_cell text c 1 C) s₁ refl refl (found_again text c C E (eqb-false _ 0 t) on)
                    (eqb-false _ 0 t);
              });
        })

  -- ---- Marks: a call opens, its own is looked at, it closes
  pub opens_beside : (k : ℕ) (s₁ s₂ : State) → Beside k s₁ s₂ →
      Beside (suc k) (with_asked s₁ (false ∷ s₁.asked)) (with_asked s₂ (false ∷ s₂.asked))
  unfolding Marks newest others
  opens_beside k s₁ s₂ b = record { marks = (refl, b.marks); cells = b.cells }

  pub newest_beside : (k : ℕ) (s₁ s₂ : State) → Beside (suc k) s₁ s₂ → newest s₂.asked ≡ newest s₁.asked
  unfolding Marks
  newest_beside k s₁ s₂ b = b.marks.0

  pub closes_beside : (k : ℕ) (s₁ s₂ : State) → Beside (suc k) s₁ s₂ →
      Beside k (with_asked s₁ (others s₁.asked)) (with_asked s₂ (others s₂.asked))
  unfolding Marks
  closes_beside k s₁ s₂ b = record { marks = b.marks.1; cells = b.cells }
