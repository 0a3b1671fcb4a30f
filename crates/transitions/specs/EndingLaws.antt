-- Laws for what a call does after a run, and for its variants: one for each way out of a function, over the values that
-- the function has there.
--
-- Contents:
-- - runs: stops, ended_failed, ended_over, ended_full, ended_again, first_limit, round_limit, first_settled,
--   round_settled
-- - variants: variant_begins, variant_limit, variant_done
use Rattle.std.specs.Prelude.{◌≡◌, true, false, List, ℕ, eqb}
use Rattle.std.proofs.Math.Path.{sym, ap}
use Rattle.std.proofs.Common.{subst, ◌∙◌, arith}
use Rattle.std.specs.Prelude.{Option, None, Some}
use borrow.Author.Tests.{eqb-true, eqb-false}
use Rattle.characters.specs.Cases.{by_test}
use Rattle.book.specs.Book.{Book, nth_variant, associativity_number}
use Rattle.book.specs.declared.records.Variant.{Variant}
use Rattle.semantics.specs.Errors.{Error, join_with}
use Rattle.semantics.specs.Cells.{Cell}
use Rattle.semantics.specs.Run as run
use Rattle.semantics.specs.Run.{Result, ok, ◌>>=◌}
use Rattle.run_model.specs.Rows.{Row, row_of, on_row, with_variant}
use Rattle.run_model.specs.Model.{RowState, row_state, Outcome, outcome, bare_call, settle_first}
use Rattle.calls.specs.Table.{SettledFirst, SettledNext}
use Rattle.calls.specs.declared.settling.Settled.{Settled}
use Rattle.errors.specs.Failures as failures
use Rattle.errors.specs.Failures.{counted_run, failed_call_run}
use Rattle.errors.specs.Maps.{error_of, failure_of}
use Rattle.errors.specs.declared.Error as code
use Rattle.errors.specs.Maps.{Failure}
use Rattle.transitions.specs.Results.{CellOutcome, Reached, RunEnd, done_with, without_failure}
use Rattle.transitions.specs.Results as outcomes
use Rattle.transitions.specs.declared.outcomes.State.{State}
use Rattle.transitions.specs.Outcomes.{cells_of, given, MadeBy, failure_at}
use Rattle.transitions.specs.Steps.{reached_with, goes_with, resumes, does_rows}
use Rattle.transitions.specs.Entering.{goes_again, SettledAs, FirstEnded, RoundEnded, Begins, VariantEnded}
use Rattle.transitions.specs.OutcomeLaws.{given_ok, given_met, cell_ok, cell_met}
use Rattle.transitions.specs.ResumeLaws.{bind_met, bind_ok}
use Rattle.transitions.specs.GivenLaws.{given_done, makes_met, makes_ok}

-- ---- Runs
abbrev pub stops : outcomes.Outcome → RunEnd
stops o = record { again = false; outcome = o }

module _ (T : List Row) (n : ℕ) (failure : Failure) (s : State) (o : outcomes.Outcome) (e : RunEnd) where
  pub ended_failed : (how : Settled) (start N : ℕ) (x : code.Error) → how ≡ Settled.Failed → start ≡ (row_of T n).start
      →
      N ≡ (row_of T n).nonterminal → error_of x ≡ failures.failed_call start N (failure_of failure) →
      o ≡ done_with (Some x) s → e ≡ stops o → SettledAs T n how failure s e
  unfolding goes_again
  ended_failed how start N x h eu en ex eo ee =
      record {
        is = λ again cells.
            rw (h, ee)
            (given_done o (Some x) s cells T eo
            ∙ ap (λ (y : Error). ok (outcome (Some y) (row_state s.units cells T)))
            (ex ∙ rw (eu, en)
            (sym (failed_call_run (bare_call (row_of T n).nonterminal (row_of T n).start) (failure_of failure)))));
        cells = ap (λ e. e.outcome.state.cells) ee ∙ ap (λ o. o.state.cells) eo;
      }

  pub ended_over : (how : Settled) → how ≡ Settled.Over → o ≡ done_with None s → e ≡ stops o →
      SettledAs T n how failure s e
  unfolding goes_again
  ended_over how h eo ee =
      record {
        is = λ again cells. rw (h, ee) (given_done o None s cells T eo);
        cells = ap (λ e. e.outcome.state.cells) ee ∙ ap (λ o. o.state.cells) eo;
      }

  pub ended_full : (how : Settled) → how ≡ Settled.Full → o ≡ without_failure 22 s → e ≡ stops o →
      SettledAs T n how failure s e
  unfolding goes_again
  ended_full how h eo ee =
      record {
        is = λ again cells. rw (h, ee, eo) (given_met (without_failure 22 s) cells T (λ z. omega (arith, z)));
        cells = ap (λ e. e.outcome.state.cells) ee ∙ ap (λ o. o.state.cells) eo;
      }

  pub ended_again : (how : Settled) → how ≡ Settled.Again → o ≡ done_with None s →
      e ≡ record { again = true; outcome = o } → SettledAs T n how failure s e
  unfolding goes_again
  ended_again how h eo ee =
      record {
        is = λ again cells. rw (h, ee, eo);
        cells = ap (λ e. e.outcome.state.cells) ee ∙ ap (λ o. o.state.cells) eo;
      }

module _ (T : List Row) (n : ℕ) (o : outcomes.Outcome) (e : RunEnd) where
  limit_ends : (again : RowState → Result Outcome) (F : Outcome → Result Outcome) (cells : List Cell) →
      (o.limit ≡ 0 → ⊥) → e ≡ stops o → goes_again again e cells T ≡ (given o cells T >>= F)
  unfolding goes_again
  limit_ends again F cells h ee = let k = given_met o cells T h in rw ee (k ∙ sym (bind_met F k))

  pub first_limit : (o.limit ≡ 0 → ⊥) → e ≡ stops o → FirstEnded T T n o e
  first_limit h ee =
      record {
        is = λ book text again cells. limit_ends again _ cells h ee;
        cells = ap (λ e. e.outcome.state.cells) ee;
      }

  pub round_limit : (o.limit ≡ 0 → ⊥) → e ≡ stops o → RoundEnded T T n o e
  round_limit h ee =
      record {
        is = λ book text again cells. limit_ends again _ cells h ee;
        cells = ap (λ e. e.outcome.state.cells) ee;
      }

  pub first_settled : (U : List Row) (how : Settled) → o.limit ≡ 0 → SettledFirst how T U n → (f : Failure) →
      f ≡ failure_at o → SettledAs U n how f o.state e → FirstEnded T U n o e
  first_settled U how h settled f ef ended =
      record {
        is = λ book text again cells.
            ended.is again cells
            ∙ sym (settled.now book text again (failure_of f) o.state.units cells)
            ∙ ap (λ (f : Failure).
            settle_first book text n again (outcome (failure_of f) (row_state o.state.units cells T))) ef
            ∙ sym (bind_ok _ (given_ok o cells T h));
        cells = ended.cells;
      }

  pub round_settled : (U : List Row) (how : Settled) → o.limit ≡ 0 → SettledNext how T U n → (f : Failure) →
      f ≡ failure_at o → SettledAs U n how f o.state e → RoundEnded T U n o e
  round_settled U how h settled f ef ended =
      record {
        is = λ book text again cells.
            ended.is again cells
            ∙ sym (settled.now book text again (failure_of f) o.state.units cells)
            ∙ sym (bind_ok _ (given_ok o cells T h));
        cells = ended.cells;
      }

-- ---- Variants
-- a variant begins at a place: its outcome, the place and its items
module _ (book : Book) (text before after : List ℕ) (T U : List Row) (n j : ℕ) (s : State) (m : CellOutcome)
    (em : MadeBy text before after s m (run.begin book text j)) where
  begun : (start : ℕ) → start ≡ (row_of T n).start →
      U ≡ on_row T n (with_variant (nth_variant book j).level
      (associativity_number (nth_variant book j).associativity)) →
      Begins book text before after T U n j s (reached_with m start)
  unfolding resumes goes_with does_rows ◌>>=◌
  begun start es eu = λ held.
      let q = em held in
      let cells = cells_of before s.cells in
      let new = cells_of after m.state.cells in
      record {
        is = λ inner k rest.
            by_test (eqb m.limit 0)
            (λ t.
            let h = eqb-true m.limit 0 t in
            rw (
              given_ok (without_failure m.limit m.state) new U h,
              makes_ok (run.begin book text j) (row_state s.units cells T) _ (sym q.is ∙ cell_ok m new h),
              es,
              eu,
            ))
            (λ t.
            let h = eqb-false m.limit 0 t in
            rw (
              given_met (without_failure m.limit m.state) new U h,
              makes_met (run.begin book text j) (row_state s.units cells T) _ _ (sym q.is ∙ cell_met m new h),
            ));
        held = q.held;
        start = es;
      }

  pub variant_begins : (start : ℕ) (w : Variant) (r : Reached) → start ≡ (row_of T n).start → w ≡ nth_variant book j →
      U ≡ on_row T n (with_variant w.level (associativity_number w.associativity)) → r ≡ reached_with m start →
      Begins book text before after T U n j s r
  variant_begins start w r es ew eu er =
      subst (λ (x : Reached). Begins book text before after T U n j s x) (sym er)
      (begun start es
      (eu ∙ ap (λ (w : Variant). on_row T n (with_variant w.level (associativity_number w.associativity))) ew))

module _ (book : Book) (j start : ℕ) (before o r : outcomes.Outcome) where
  pub variant_limit : (o.limit ≡ 0 → ⊥) → r ≡ o → VariantEnded book j start before o r
  variant_limit h e =
      record {
        is = λ text N cells T.
            let k = given_met o cells T h in
            ap (λ o. given o cells T) e ∙ k ∙ sym (bind_met _ k);
        cells = ap (λ o. o.state.cells) e;
      }

  pub variant_done : (w : Variant) (a b x y : Failure) → o.limit ≡ 0 → a ≡ failure_at before → b ≡ failure_at o →
      w ≡ nth_variant book j → failure_of x ≡ failures.counted w.committed start (failure_of b) →
      failure_of y ≡ join_with (failure_of a) (failure_of x) →
      r ≡ done_with y o.state → VariantEnded book j start before o r
  variant_done w a b x y h ea eb ew ex ey er =
      record {
        is = λ text N cells T.
            given_done r y o.state cells T er
            ∙ ap (λ (z : Option Error). ok (outcome z (row_state o.state.units cells T)))
            (ey
            ∙ ap (λ (a : Failure). join_with (failure_of a) (failure_of x)) ea
            ∙ ap (join_with (failure_of (failure_at before)))
            (ex
            ∙ ap (λ (b : Failure). failures.counted w.committed start (failure_of b)) eb
            ∙ ap (λ (w : Variant). failures.counted w.committed start (failure_of (failure_at o))) ew
            ∙ sym (counted_run book text (bare_call N start) j (failure_of (failure_at o)))))
            ∙ sym (bind_ok _ (given_ok o cells T h));
        cells = ap (λ o. o.state.cells) er;
      }
