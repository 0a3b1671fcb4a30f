-- Laws for stored parses and the end of a run, and what the additions to a row's sets are in the model.
--
-- Contents:
-- - stored parses: stored_law
-- - a parse joins the run's set, in the model: run_added_model
-- - the first run: first_run
-- - a further run: further_run
use Rattle.std.specs.Prelude.{◌≡◌, refl, Bool, true, false, cond, ◌⊎◌, ℕ, ◌<◌, ◌≤◌, length, set}
use Rattle.std.proofs.Common.{sym, ◌∙◌, inl, inr, arith, eq-eqb, ne_eqb}
use Rattle.std.proofs.lemmas.Bool.{cases_lt}
use Rattle.std.proofs.lemmas.List.{set_past}
use Rattle.std.proofs.Math.Path.{ap}
use mathlib.Core.List.{List, [], ◌∷◌}
use Rattle.std.specs.Prelude.{None}
use Rattle.book.specs.Book.{Book}
use Rattle.semantics.specs.Values.{Parse}
use Rattle.semantics.specs.Cells.{Cell}
use Rattle.semantics.specs.Run.{met, ok, ◌>>=◌, all_in, kept}
use Rattle.run_model.specs.Rows.{Row, row_of, on_row, use_at, ended, was_asked, with_set, copied}
use Rattle.run_model.specs.Model.{row_state, outcome, add_run, settle, settle_first}
use Rattle.calls.specs.declared.settling.Settled.{Settled}
use Rattle.calls.specs.Table.{RunAdded, RunJoined, with_stored_in, SettledFirst, SettledNext}
use Rattle.calls.specs.CallLaws.{row_after, row_twice, row_changed}

-- ---- Stored parses
-- what a use keeps does not depend on whether it was asked
asked_keeps : (T T1 : List Row) (g : ℕ) → T1 ≡ on_row T g was_asked →
    kept (use_at (row_of T1 g)) (row_of T1 g).set ≡ kept (use_at (row_of T g)) (row_of T g).set
asked_keeps T T1 g e = by (cases_lt g (length T))
  where
    by : (g < length T) ⊎ (length T ≤ g) →
        kept (use_at (row_of T1 g)) (row_of T1 g).set ≡ kept (use_at (row_of T g)) (row_of T g).set
    by (inl h) = rw (e, row_after T g (was_asked (row_of T g)) h)
    by (inr h) = rw (e, set_past T g (was_asked (row_of T g)) h)

pub stored_law : (T T1 T2 T3 : List Row) (n g : ℕ) → T1 ≡ on_row T g was_asked →
    T2 ≡ on_row T1 n (with_set (kept (use_at (row_of T1 g)) (row_of T1 g).set)) →
    T3 ≡ on_row T2 n ended → T3 ≡ with_stored_in T n g
stored_law T T1 T2 T3 n g e1 e2 e3 =
    let f2 : T2 ≡ set T1 n (with_set (kept (use_at (row_of T g)) (row_of T g).set) (row_of T1 n)) =
    e2 ∙ ap (λ l. set T1 n (with_set l (row_of T1 n))) (asked_keeps T T1 g e1) in
    row_twice T1 T2 T3 n (with_set (kept (use_at (row_of T g)) (row_of T g).set) (row_of T1 n)) ended f2 e3
    ∙ ap (λ t. on_row t n (λ t. ended (with_set (kept (use_at (row_of T g)) (row_of T g).set) t))) e1

-- ---- A parse joins the run's set, in the model
pub run_added_model : (r : Bool) (T U : List Row) (c : ℕ) (p : Parse ℕ) → RunAdded r T U c p →
    (book : Book) (text : List ℕ) (units : ℕ) (cells : List Cell) →
    add_run book text c p (row_state units cells T)
    ≡ cond r (ok (outcome None (row_state units cells U))) (met 22 units)
unfolding add_run ◌>>=◌
run_added_model true T U c p a book text units cells =
    rw (a.now _, ◌>>=◌) (ap (λ t. ok (outcome None (row_state units cells t))) (sym a.only))
run_added_model false T U c p a book text units cells = rw (a.now _, ◌>>=◌)

-- ---- The first run
has_no_parse : {A : Type 0} (a b : A) (l : List (Parse ℕ)) → length l ≡ 0 → elim l [ [] ↦ a | p ∷ ps ↦ b ] ≡ a
has_no_parse a b [] h = refl
has_no_parse a b (p ∷ ps) h = absurd (omega (arith, h))

some_parse : {A : Type 0} (a b : A) (l : List (Parse ℕ)) → (length l ≡ 0 → ⊥) → elim l [ [] ↦ a | p ∷ ps ↦ b ] ≡ b
some_parse a b [] h = absurd (h refl)
some_parse a b (p ∷ ps) h = refl

module _ (T T1 : List Row) (c k : ℕ) (e1 : T1 ≡ on_row T c copied)
    (ek : k ≡ length (row_of T1 c).set) where
  now_copied : row_of T1 c ≡ copied (row_of T c)
  now_copied = row_changed T T1 c copied refl e1

  found_run : k ≡ length (row_of T c).run
  found_run = ek ∙ ap (λ r. length r.set) now_copied

  now_ended : (U : List Row) → U ≡ on_row T1 c ended → U ≡ on_row T c (λ r. ended (copied r))
  now_ended U e = row_twice T T1 U c (copied (row_of T c)) ended e1 e

  pub first_failed : (U : List Row) → k ≡ 0 → U ≡ on_row T1 c ended → SettledFirst Settled.Failed T U c
  unfolding settle_first
  first_failed U h e =
      record {
        now = λ book text again failure units cells.
            has_no_parse _ _ (row_of T c).run (sym found_run ∙ h)
            ∙ rw (row_changed T U c (λ r. ended (copied r)) refl (now_ended U e), now_ended U e);
      }

  pub first_again : (a : ℕ) → (k ≡ 0 → ⊥) → a ≡ (row_of T1 c).asked → a ≡ 1 → SettledFirst Settled.Again T T1 c
  unfolding settle_first
  first_again a h ea y =
      record {
        now = λ book text again failure units cells.
            some_parse _ _ (row_of T c).run (λ z. h (found_run ∙ z))
            ∙ rw (eq-eqb (row_of T c).asked 1 (sym (ea ∙ ap (λ r. r.asked) now_copied) ∙ y))
            (ap (λ t. again (row_state units cells t)) (sym e1));
      }

  pub first_over : (U : List Row) (a : ℕ) → (k ≡ 0 → ⊥) → a ≡ (row_of T1 c).asked → (a ≡ 1 → ⊥) →
      U ≡ on_row T1 c ended → SettledFirst Settled.Over T U c
  unfolding settle_first
  first_over U a h ea y e =
      record {
        now = λ book text again failure units cells.
            some_parse _ _ (row_of T c).run (λ z. h (found_run ∙ z))
            ∙ rw (ne_eqb (row_of T c).asked 1 (λ z. y (ea ∙ ap (λ r. r.asked) now_copied ∙ z)))
            (ap (λ t. ok (outcome None (row_state units cells t))) (sym (now_ended U e)));
      }

pub ruleset first_run = (first_failed, first_again, first_over)

-- ---- A further run
module _ (T : List Row) (c : ℕ) (t : Bool) (e : t ≡ all_in (row_of T c).set (row_of T c).run) where
  pub next_over : (U : List Row) → t ≡ true → U ≡ on_row T c ended → SettledNext Settled.Over T U c
  unfolding settle
  next_over U y f =
      record {
        now = λ book text again failure units cells.
            rw (sym e ∙ y) (ap (λ t. ok (outcome None (row_state units cells t))) (sym f));
      }

  pub next_again : (U : List Row) (r : Bool) → t ≡ false → RunJoined r T U c → r ≡ true →
      SettledNext Settled.Again T U c
  unfolding settle ◌>>=◌
  next_again U r n J y =
      record {
        now = λ book text again failure units cells.
            rw (sym e ∙ n, rw y at (J.now (record { units = units; cells = cells; asked = [] })), ◌>>=◌)
            (ap (λ t. again (row_state units cells t)) (sym J.only));
      }

  pub next_full : (U : List Row) (r : Bool) → t ≡ false → RunJoined r T U c → r ≡ false → SettledNext Settled.Full T U c
  unfolding settle ◌>>=◌
  next_full U r n J y =
      record {
        now = λ book text again failure units cells.
            rw (sym e ∙ n, rw y at (J.now (record { units = units; cells = cells; asked = [] })), ◌>>=◌);
      }

pub ruleset further_run = (next_over, next_again, next_full)
