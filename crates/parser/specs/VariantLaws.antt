-- Laws for variants: those of a call one after the other, and one. One for each return and each turn of a loop, over
-- the code's own values.
--
-- Contents:
-- - variants, one after the other: variants_end, variants_stop, variants_again, one_run_whole
-- - one variant: variant_skipped, variant_ran
-- - ranges: variants_fit_lem, StepsFit, steps_fit
use Rattle.std.specs.Prelude.{◌≡◌, true, List, [], ℕ, suc, ◌+◌, ◌-◌, ◌<◌, ◌≤◌, length}
use Rattle.std.proofs.Math.Path.{sym, ap, subst}
use Rattle.std.proofs.Common.{◌∙◌, arith}
use Rattle.std.proofs.Math.Bool.{false}
use Rattle.std.specs.Prelude.{Option, None}
use Rattle.std.proofs.Math.Dec.{leb}
use borrow.Author.Tests.{le-leb, lt-leb}
use Rattle.characters.specs.Cases.{by_test}
use Rattle.book.specs.Book.{Book, nth_nonterminal, nth_variant}
use Rattle.book.specs.declared.records.Nonterminal.{Nonterminal}
use Rattle.book.specs.declared.records.Variant.{Variant}
use Rattle.semantics.specs.Steps.{todo_of}
use Rattle.semantics.specs.Errors.{Error, join_with}
use Rattle.semantics.specs.Cells.{Cell}
use Rattle.semantics.specs.Run.{Result, ok, ◌>>=◌, begin, counted}
use Rattle.run_model.specs.Rows.{Row, row_of, on_row, with_run}
use Rattle.run_model.specs.Model as model
use Rattle.run_model.specs.Model.{RowState, row_state, outcome, RowRunner, bare_call, makes, at_row, take_variant}
use Rattle.run_model.specs.Model.{variants_rows, one_run_rows, runner_rows}
use Rattle.errors.specs.Maps.{failure_of}
use Rattle.transitions.specs.Results.{Outcome, Reached, done_with}
use Rattle.transitions.specs.declared.outcomes.State.{State}
use Rattle.transitions.specs.declared.stages.Doing.{Doing}
use Rattle.transitions.specs.Outcomes.{cells_of, Held, given, Ran, Runs, failure_at}
use Rattle.transitions.specs.Fit.{Fit}
use Rattle.transitions.specs.Steps.{todo_from, resumes}
use Rattle.transitions.specs.Entering.{inner_runner, Begins, VariantEnded}
use Rattle.parser.specs.Cycle.{variant_rows}
use Rattle.transitions.specs.OutcomeLaws.{given_ok}
use Rattle.transitions.specs.ResumeLaws.{limit_ends}
use Rattle.parser.specs.ResultLaws.{Going, sub_turn, sub_end, bind_assoc, bind_map_in, goes_to}

-- ---- Variants, one after the other
variants_turn : (book : Book) (text : List ℕ) (run : RowRunner) (c m k j : ℕ) (e : Option Error) (s : RowState) →
    variants_rows book text run c m (suc k) j e s ≡
    (variant_rows book text run c m j e s >>= (λ o. variants_rows book text run c m k (suc j) o.failure o.state))
unfolding variants_rows variant_rows ◌>>=◌
variants_turn book text run c m k j e s =
    by_test (leb m (nth_variant book j).level)
    (λ t. rw t (sym (bind_map_in (makes (begin book text j) s) (λ b.
    run c j (todo_of book (nth_variant book j)) (row_of s.rows c).start b.cell
    (at_row c (take_variant book text j) b.state))
    (λ o. outcome (join_with e (counted book text (bare_call (row_of s.rows c).nonterminal (row_of s.rows c).start)
    j o.failure)) o.state)
    (λ o. variants_rows book text run c m k (suc j) o.failure o.state))))
    (λ t. rw t)

module _ (book : Book) (text : List ℕ) (run : RowRunner) (n m k first i : ℕ) (st0 : List ℕ) (c0 : ℕ)
    (z : Result model.Outcome) (st : List ℕ) (T : List Row) (o : Outcome)
    (inv : Held text st0 c0 → Going text st o.state.cells
    (variants_rows book text run n m (k - i) (first + i) (failure_of (failure_at o))
    (row_state o.state.units (cells_of st o.state.cells) T)) z) where
  pub variants_end : k ≤ i → o.limit ≡ 0 → Held text st0 c0 → Ran text st T o z
  unfolding variants_rows
  variants_end h e held =
      let g = inv held in
      record { is = given_ok o (cells_of st o.state.cells) T e ∙ (rw (sub_end k i h) at g.is); held = g.held }

  module _ (l : i < k) (j : ℕ) (ej : j ≡ first + i) (st1 : List ℕ) (U : List Row) (next : Outcome)
      (r : Runs text st o.state.cells st1 U next (λ cells.
      variant_rows book text run n m j (failure_of (failure_at o)) (row_state o.state.units cells T))) where
    variant_turn : Held text st0 c0 →
        (given next (cells_of st1 next.state.cells) U
        >>= (λ y. variants_rows book text run n m (k - (i + 1)) (first + (i + 1)) y.failure y.state)) ≡ z
    variant_turn held =
        let g = inv held in
        let a : suc j ≡ first + (i + 1) = omega (arith, ej) in
        rw ((r g.held).is, ← a)
        (sym (variants_turn book text run n m (k - (i + 1)) j (failure_of (failure_at o))
        (row_state o.state.units (cells_of st o.state.cells) T))
        ∙ (rw (sub_turn k i l, ← ej) at g.is))

    pub variants_stop : (next.limit ≡ 0 → ⊥) → Held text st0 c0 → Ran text st1 U next z
    variants_stop h held =
        let q = r (inv held).held in
        record { is = limit_ends next (cells_of st1 next.state.cells) U _ h ∙ variant_turn held; held = q.held }

    pub variants_again : next.limit ≡ 0 → Held text st0 c0 → Going text st1 next.state.cells
        (variants_rows book text run n m (k - (i + 1)) (first + (i + 1)) (failure_of (failure_at next))
        (row_state next.state.units (cells_of st1 next.state.cells) U)) z
    variants_again h held =
        let q = r (inv held).held in
        record { is = sym (goes_to next (cells_of st1 next.state.cells) U _ h) ∙ variant_turn held; held = q.held }

-- the variants of a call are one run of it
one_run_is : (book : Book) (text : List ℕ) (run : RowRunner) (n m N : ℕ) (called : Nonterminal) (s : State)
    (o : Outcome) (T T1 : List Row) (cells : List Cell) →
    N ≡ (row_of T n).nonterminal → T1 ≡ on_row T n (with_run []) → called ≡ nth_nonterminal book N →
    o ≡ done_with None s →
    variants_rows book text run n m called.count called.first (failure_of (failure_at o))
    (row_state o.state.units cells T1)
    ≡ one_run_rows book text run n m (row_state s.units cells T)
unfolding one_run_rows
one_run_is book text run n m N called s o T T1 cells eN eT ec eo = rw (eo, ec, eT, eN)

pub one_run_whole : (book : Book) (text : List ℕ) (run : RowRunner) (n m N : ℕ) (called : Nonterminal) (s : State)
    (o : Outcome) (T T1 : List Row) (st st1 : List ℕ) (U : List Row) (r : Outcome) →
    N ≡ (row_of T n).nonterminal → T1 ≡ on_row T n (with_run []) → called ≡ nth_nonterminal book N →
    o ≡ done_with None s →
    (Held text st o.state.cells → Ran text st1 U r
    (variants_rows book text run n m called.count called.first (failure_of (failure_at o))
    (row_state o.state.units (cells_of st o.state.cells) T1))) →
    Runs text st s.cells st1 U r (λ cells. one_run_rows book text run n m (row_state s.units cells T))
one_run_whole book text run n m N called s o T T1 st st1 U r eN eT ec eo k held =
    let same : o.state.cells ≡ s.cells = ap (λ (x : Outcome). x.state.cells) eo in
    let q = k (subst (λ i. Held text st i) (sym same) held) in
    record {
      is =
          q.is
          ∙ one_run_is book text run n m N called s o T T1 (cells_of st o.state.cells) eN eT ec eo
          ∙ ap (λ i. one_run_rows book text run n m (row_state s.units (cells_of st i) T)) same;
      held = q.held;
    }

-- ---- One variant
-- what a variant's failure counts for
variant_counts : Book → List ℕ → ℕ → ℕ → Outcome → List Row → model.Outcome → Result model.Outcome
variant_counts book text n j before T y =
    ok (outcome (join_with (failure_of (failure_at before))
    (counted book text (bare_call (row_of T n).nonterminal (row_of T n).start) j y.failure)) y.state)

variant_level : (book : Book) (text : List ℕ) (n m j : ℕ) (before : Outcome) (T : List Row) (cells : List Cell) →
    leb m (nth_variant book j).level ≡ true →
    variant_rows book text (inner_runner book text n) n m j (failure_of (failure_at before))
    (row_state before.state.units cells T)
    ≡ (makes (begin book text j) (row_state before.state.units cells T) >>= (λ b.
    inner_runner book text n n j (todo_of book (nth_variant book j)) (row_of T n).start b.cell
    (at_row n (take_variant book text j) b.state) >>= variant_counts book text n j before T))
unfolding variant_rows variant_counts
variant_level book text n m j before T cells t = rw t

module _ (book : Book) (text : List ℕ) (n m j : ℕ) (before : Outcome) (w : Variant) (ew : w ≡ nth_variant book j)
    (T : List Row) (st0 : List ℕ) where
  pub variant_skipped : w.level < m → before.limit ≡ 0 →
      Runs text st0 before.state.cells st0 T before (λ cells.
      variant_rows book text (inner_runner book text n) n m j (failure_of (failure_at before))
      (row_state before.state.units cells T))
  unfolding variant_rows
  variant_skipped l e held =
      let t : leb m (nth_variant book j).level ≡ false = lt-leb m (nth_variant book j).level (rw ew at l) in
      record { is = given_ok before (cells_of st0 before.state.cells) T e ∙ rw t; held = held }

  module _ (l : m ≤ w.level) (st1 st2 : List ℕ) (U U1 : List Row) (b : Reached) (o r : Outcome)
      (B : Begins book text st0 st1 T U n j before.state b)
      (G : Runs text st1 b.outcome.state.cells st2 U1 o (λ cells.
      resumes book text (runner_rows book text (n - 1)) (n - 1) n j (todo_from book w.first w.count) Doing.Steps
      b.place b.items (given b.outcome cells U))) (C : VariantEnded book j b.place before o r) where
    pub variant_ran : Runs text st0 before.state.cells st2 U1 r (λ cells.
        variant_rows book text (inner_runner book text n) n m j (failure_of (failure_at before))
        (row_state before.state.units cells T))
    unfolding variant_counts
    variant_ran held =
        let d = B held in
        let q = G d.held in
        let count : VariantEnded book j (row_of T n).start before o r =
        subst (λ x. VariantEnded book j x before o r) d.start C in
        record {
          is =
              ap (λ k. given r (cells_of st2 k) U1) count.cells
              ∙ count.is text (row_of T n).nonterminal (cells_of st2 o.state.cells) U1
              ∙ ap (λ (x : Result model.Outcome). x >>= variant_counts book text n j before T)
              (q.is ∙ ap (λ (v : Variant). resumes book text (runner_rows book text (n - 1)) (n - 1) n j
              (todo_of book v)
              Doing.Steps b.place b.items (given b.outcome (cells_of st1 b.outcome.state.cells) U)) ew
              ∙ d.is (runner_rows book text (n - 1)) (n - 1) (todo_of book (nth_variant book j)))
              ∙ bind_assoc (makes (begin book text j)
              (row_state before.state.units (cells_of st0 before.state.cells) T))
              (λ b. inner_runner book text n n j (todo_of book (nth_variant book j)) (row_of T n).start b.cell
              (at_row n (take_variant book text j) b.state)) (variant_counts book text n j before T)
              ∙ sym (variant_level book text n m j before T (cells_of st0 before.state.cells)
              (le-leb m (nth_variant book j).level (rw ew at l)));
          held = subst (λ k. Held text st2 k) (sym count.cells) q.held;
        }

-- ---- Ranges
pub variants_fit_lem : (book : Book) (text : List ℕ) (N i : ℕ) (called : Nonterminal) → Fit book text →
    called ≡ nth_nonterminal book N → i < called.count → called.first + i < 4294967296
variants_fit_lem book text N i called fit e l =
    let all : called.first + called.count < 4294967296 =
    subst (λ (k : Nonterminal). k.first + k.count < 4294967296) (sym e) (fit.variants N) in
    omega (arith, all, l)

-- the steps of a variant
pub record StepsFit (book : Book) (w : Variant) : Type 0 where
  pub few : w.count ≤ 255
  pub some_of : w.first + w.count ≤ length book.steps
  pub fits : length book.steps < 4294967296

pub steps_fit : (book : Book) (text : List ℕ) (j : ℕ) (w : Variant) → Fit book text →
    w ≡ nth_variant book j → StepsFit book w
steps_fit book text j w fit e =
    subst (λ (v : Variant). StepsFit book v) (sym e)
    (record { few = fit.few j; some_of = fit.steps j; fits = fit.all })
