-- Laws for children: the call of one, and what follows its parses. One for each return and each turn of a loop, over
-- the code's own values.
--
-- Contents:
-- - children: descended, follow_ended, follow_whole, follow_end, follow_deep, follow_stop, follow_again
use Rattle.std.specs.Prelude.{◌≡◌, refl, true, false, List, ℕ, suc, ◌+◌, ◌-◌, ◌<◌, ◌≤◌, get_or, length}
use Rattle.std.proofs.Common.{sym, subst, ◌∙◌, arith}
use Rattle.std.proofs.Math.Path.{ap}
use Rattle.std.specs.Prelude.{Option, Some}
use Rattle.characters.specs.Skipping.{skip_from}
use Rattle.book.specs.Book.{Entry, Book}
use Rattle.semantics.specs.Values.{Parse, absent_parse}
use Rattle.semantics.specs.Steps.{Todo}
use Rattle.semantics.specs.Errors.{Error}
use Rattle.semantics.specs.Cells.{Cell}
use Rattle.semantics.specs.Run.{Result, ◌>>=◌}
use Rattle.run_model.specs.Rows.{Row, row_of, on_row, with_child, binder_for}
use Rattle.run_model.specs.Model as model
use Rattle.run_model.specs.Model.{RowState, row_state, outcome, RowRunner, RowNext, together}
use Rattle.run_model.specs.Model.{enter_rows, runner_rows, steps_rows, nested_rows, enter_child_rows, follow_from}
use Rattle.run_model.specs.Model.{followed_rows}
use Rattle.errors.specs.Maps.{failure_of}
use Rattle.transitions.specs.Results.{Outcome, Stage, without_failure}
use Rattle.transitions.specs.declared.outcomes.State.{State}
use Rattle.transitions.specs.declared.stages.Next.{Next}
use Rattle.transitions.specs.Outcomes.{cells_of, Held, given, goes_on, Ran, Runs, failure_at}
use Rattle.transitions.specs.Steps.{next_rows, descends_rows, resumes, StagedFrom, ParseEnded}
use Rattle.transitions.specs.Entering.{inner_runner}
use Rattle.parser.specs.Cycle.{follows_rows}
use Rattle.transitions.specs.OutcomeLaws.{given_ok}
use Rattle.transitions.specs.ResumeLaws.{goes_without_failure, goes_on_lem, limit_ends, ended}
use Rattle.parser.specs.ResultLaws.{Going, sub_turn, sub_end, bind_map, goes_to}
use Rattle.parser.specs.CallLaws.{runner_some}

-- ---- Children
module _ (book : Book) (text : List ℕ) (inner : Option RowRunner) (n c j : ℕ) (rest : List (Todo ℕ)) (next : Next)
    (opening : Option (List Entry)) (M x items : ℕ) (s : State) (st0 st1 st2 : List ℕ) (T T1 U U1 : List Row) (b u : ℕ)
    (o r : Outcome) (binder : b ≡ binder_for opening (row_of T c).binder)
    (child : (u ≡ skip_from text x) × (T1 ≡ on_row T c (with_child u)))
    (E : Runs text st0 s.cells st1 U o (λ cells. enter_rows book text inner n b M u (row_state s.units cells T1)))
    (F : Runs text st1 o.state.cells st2 U1 r
    (λ cells. follows_rows book text inner n c j rest next items (given o cells U))) where
  pub descended : Runs text st0 s.cells st2 U1 r
      (λ cells. descends_rows book text inner n c j rest opening next M x items (row_state s.units cells T))
  unfolding descends_rows enter_child_rows follows_rows
  descended held =
      let d = E held in
      let q = F d.held in
      record {
        is = q.is ∙ ap (λ (z : Result model.Outcome). follows_rows book text inner n c j rest next items z) d.is
            ∙ rw (binder, child.1, child.0);
        held = q.held;
      }

-- the parses of a child that failed, or met a limit, are not followed
pub follow_ended : (book : Book) (text : List ℕ) (inner : Option RowRunner) (n c j : ℕ) (rest : List (Todo ℕ))
    (next : Next) (items : ℕ) (st : List ℕ) (T : List Row) (o : Outcome) → goes_on o ≡ false →
    Runs text st o.state.cells st T o (λ cells. follows_rows book text inner n c j rest next items (given o cells T))
unfolding follows_rows followed_rows
follow_ended book text inner n c j rest next items st T o h held =
    record {
      is = ended o (cells_of st o.state.cells) T
          (λ y. followed_rows book text inner n (next_rows book text c j rest next items) y) (λ e s. refl) h;
      held = held;
    }

-- those of one that did not are
follow_all : (book : Book) (text : List ℕ) (inner : Option RowRunner) (n c j : ℕ) (rest : List (Todo ℕ)) (next : Next)
    (items k : ℕ) (T : List Row) (o : Outcome) (cells : List Cell) → goes_on o ≡ true → k ≡ length (row_of T n).set →
    follow_from book text inner n (next_rows book text c j rest next items) k 0 (failure_of (failure_at o))
    (row_state o.state.units cells T)
    ≡ follows_rows book text inner n c j rest next items (given o cells T)
unfolding follows_rows followed_rows ◌>>=◌
follow_all book text inner n c j rest next items k T o cells h ek =
    rw (goes_on_lem o cells T h, goes_without_failure o h, ek)

pub follow_whole : (book : Book) (text : List ℕ) (inner : Option RowRunner) (n c j : ℕ) (rest : List (Todo ℕ))
    (next : Next) (items k : ℕ) (T : List Row) (o : Outcome) (st st1 : List ℕ) (U : List Row) (r : Outcome) →
    goes_on o ≡ true → k ≡ length (row_of T n).set → (Held text st o.state.cells → Ran text st1 U r
    (follow_from book text inner n (next_rows book text c j rest next items) k 0 (failure_of (failure_at o))
    (row_state o.state.units (cells_of st o.state.cells) T))) →
    Runs text st o.state.cells st1 U r
    (λ cells. follows_rows book text inner n c j rest next items (given o cells T))
follow_whole book text inner n c j rest next items k T o st st1 U r h ek run held =
    let q = run held in
    record {
      is = q.is ∙ follow_all book text inner n c j rest next items k T o (cells_of st o.state.cells) h ek;
      held = q.held;
    }

nested_some : (book : Book) (text : List ℕ) (inner : Option RowRunner) (n : ℕ) (s : RowState)
    (f : RowRunner → Result model.Outcome) (run : RowRunner) →
    inner ≡ Some run → nested_rows book text inner n s f ≡ f run
unfolding nested_rows
nested_some book text inner n s f run e = rw e

follow_turn : (book : Book) (text : List ℕ) (n : ℕ) (next : RowNext) (k i : ℕ) (failure : Option Error) (s : RowState) →
    0 < n → follow_from book text (runner_rows book text n) n next (suc k) i failure s ≡
    (next (get_or (row_of s.rows n).set i absent_parse) s (inner_runner book text n) >>= (λ o.
    follow_from book text (runner_rows book text n) n next k (suc i) (together i failure o.failure) o.state))
unfolding follow_from
follow_turn book text n next k i failure s h =
    ap (λ (x : Result model.Outcome). x >>= (λ o.
    follow_from book text (runner_rows book text n) n next k (suc i) (together i failure o.failure) o.state))
    (nested_some book text (runner_rows book text n) n s
    (λ run. next (get_or (row_of s.rows n).set i absent_parse) s run) (inner_runner book text n)
    (runner_some book text n h))

module _ (book : Book) (text : List ℕ) (n c j : ℕ) (rest : List (Todo ℕ)) (next : Next) (items k i : ℕ) (st0 : List ℕ)
    (c0 : ℕ) (z : Result model.Outcome) (st : List ℕ) (T : List Row) (o : Outcome)
    (inv : Held text st0 c0 → Going text st o.state.cells
    (follow_from book text (runner_rows book text n) n (next_rows book text c j rest next items) (k - i) i
    (failure_of (failure_at o)) (row_state o.state.units (cells_of st o.state.cells) T)) z) where
  pub follow_end : k ≤ i → o.limit ≡ 0 → Held text st0 c0 → Ran text st T o z
  unfolding follow_from
  follow_end h e held =
      let g = inv held in
      record { is = given_ok o (cells_of st o.state.cells) T e ∙ (rw (sub_end k i h) at g.is); held = g.held }

  pub follow_deep : (r : Outcome) → r ≡ without_failure 21 o.state → i < k → n ≡ 0 →
      Held text st0 c0 → Ran text st T r z
  unfolding follow_from nested_rows runner_rows ◌>>=◌ given
  follow_deep r er l e held =
      let g = inv held in rw er (record { is = rw (sub_turn k i l, e) at g.is; held = g.held })

  module _ (l : i < k) (h : n ≡ 0 → ⊥) (q : Parse ℕ) (eq : q ≡ get_or (row_of T n).set i absent_parse)
      (st1 st2 : List ℕ)
      (U : List Row) (g : Stage) (a all : Outcome)
      (S : StagedFrom book text st o.state st1 j g
      (λ inner n c rest s. next_rows book text c j rest next items q s (steps_rows book text inner n)))
      (R : Runs text st1 g.outcome.state.cells st2 U a (λ cells.
      resumes book text (runner_rows book text (n - 1)) (n - 1) c j rest g.doing g.place g.items
      (given g.outcome cells T))) (J : ParseEnded i o a all) where
    kept_on : Held text st0 c0 → Held text st2 all.state.cells
    kept_on held = subst (λ k. Held text st2 k) (sym J.cells) (R (S (inv held).held).held).held

    turned : Held text st0 c0 →
        (given all (cells_of st2 all.state.cells) U >>= (λ y.
        follow_from book text (runner_rows book text n) n (next_rows book text c j rest next items) (k - (i + 1))
        (i + 1)
        y.failure y.state)) ≡ z
    turned held =
        let f = inv held in
        let d = S f.held in
        let run = R d.held in
        let a1 : suc i ≡ i + 1 = omega arith in
        let positive : 0 < n = omega (arith, h) in
        let s : RowState = row_state o.state.units (cells_of st o.state.cells) T in
        let on : model.Outcome → Result model.Outcome = λ y.
        follow_from book text (runner_rows book text n) n (next_rows book text c j rest next items) (k - (i + 1))
        (i + 1)
        y.failure y.state in
        let mid : Result model.Outcome = given a (cells_of st2 a.state.cells) U in
        ap (λ (x : Result model.Outcome). x >>= on)
        (ap (λ k. given all (cells_of st2 k) U) J.cells ∙ J.is (cells_of st2 a.state.cells) U)
        ∙ bind_map mid (λ y. outcome (together i (failure_of (failure_at o)) y.failure) y.state) on
        ∙ ap (λ (x : Result model.Outcome).
        x >>= (λ y. on (outcome (together i (failure_of (failure_at o)) y.failure) y.state)))
        (run.is ∙ d.is (runner_rows book text (n - 1)) (n - 1) c rest T
        ∙ ap (λ (p : Parse ℕ). next_rows book text c j rest next items p s (inner_runner book text n)) eq)
        ∙ (rw a1 at (sym (follow_turn book text n (next_rows book text c j rest next items) (k - (i + 1)) i
        (failure_of (failure_at o)) s positive))) ∙ (rw (sub_turn k i l) at f.is)

    pub follow_stop : (all.limit ≡ 0 → ⊥) → Held text st0 c0 → Ran text st2 U all z
    follow_stop f held =
        record { is = limit_ends all (cells_of st2 all.state.cells) U _ f ∙ turned held; held = kept_on held }

    pub follow_again : all.limit ≡ 0 → Held text st0 c0 → Going text st2 all.state.cells
        (follow_from book text (runner_rows book text n) n (next_rows book text c j rest next items) (k - (i + 1))
        (i + 1)
        (failure_of (failure_at all)) (row_state all.state.units (cells_of st2 all.state.cells) U)) z
    follow_again f held =
        record { is = sym (goes_to all (cells_of st2 all.state.cells) U _ f) ∙ turned held; held = kept_on held }
