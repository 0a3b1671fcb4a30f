-- Laws for the names of an opening: they stop and the body is called, one more is read, and both. One for each return,
-- over the code's own values.
--
-- Contents:
-- - they stop: names_binder, close_ended, close_body
-- - one more: declare_unpaid, declare_deep, declare_ended, declare_more, declare_last
-- - both: names_unpaid, names_stopped, names_both
use Rattle.std.specs.Prelude.{◌≡◌, true, false, List, ◌∷◌, ℕ, suc, ◌+◌, ◌-◌, ◌<◌, ◌≤◌, length}
use Rattle.std.proofs.Math.Path.{sym, ap}
use Rattle.std.proofs.Common.{subst, ◌∙◌, arith}
use Rattle.std.specs.Prelude.{Some}
use Rattle.characters.specs.Skipping.{skip_from}
use Rattle.book.specs.Book.{Book, Entry}
use Rattle.semantics.specs.Steps.{Todo}
use Rattle.semantics.specs.Run.{Result, ok, ◌>>=◌}
use Rattle.run_model.specs.Rows.{Row, row_of, names_above, binder_for}
use Rattle.run_model.specs.Model as model
use Rattle.run_model.specs.Model.{RowState, row_state, outcome, RowRunner, spend_rows, nested_rows, opens_rows}
use Rattle.run_model.specs.Model.{declares_rows}
use Rattle.run_model.specs.Model.{name_choice_rows, chosen_rows, steps_rows, runner_rows}
use Rattle.run_model.proofs.Named.{names_length}
use Rattle.run_model.proofs.Keeps.{KeepsAt, On}
use Rattle.run_model.proofs.KeepsBinders.{keeps_opens}
use Rattle.run_model.proofs.KeepsRun.{keeps_runner}
use Rattle.run_model.proofs.SimChild.{names_still}
use Rattle.errors.specs.Maps.{failure_of}
use Rattle.transitions.specs.Results.{Named, Outcome, Reached, without_failure}
use Rattle.transitions.specs.declared.outcomes.State.{State}
use Rattle.transitions.specs.declared.stages.Names.{Names}
use Rattle.transitions.specs.declared.stages.Next.{Next}
use Rattle.transitions.specs.declared.stages.Progress.{Progress}
use Rattle.transitions.specs.Outcomes.{cells_of, Held, given, goes_on, Ran, Runs, Spent, failure_at}
use Rattle.transitions.specs.Steps.{goes_with, descends_rows, Chosen}
use Rattle.transitions.specs.Names.{names_at, OpensFrom, behind_name, declaring_rows, DeclaresFrom}
use Rattle.transitions.specs.Entering.{inner_runner}
use Rattle.transitions.specs.OutcomeLaws.{given_ok, given_met}
use Rattle.transitions.specs.ResumeLaws.{bind_met, bind_ok, limit_ends, goes_nowhere, goes_there}
use Rattle.transitions.specs.NextLaws.{spend_stops, spend_goes}
use Rattle.parser.specs.ResultLaws.{goes_to}
use Rattle.parser.specs.CallLaws.{runner_some}

-- the binder of the body, by the number of names
pub names_binder : (text : List ℕ) (T : List Row) (n count b c : ℕ) → b ≡ suc (suc count) →
    b ≡ binder_for (Some (names_at text T n count)) (row_of T c).binder
names_binder text T n count b c e = e ∙ ap (λ k. suc (suc k)) (sym (names_length text T count n))

-- the parts of the model, with these names
module _ (book : Book) (text : List ℕ) (n : ℕ) (here : Progress) (names : Names) (rest : List (Todo ℕ)) where
  abbrev closes : List Entry → RowState → Result model.Outcome
  closes l s =
      opens_rows book text (runner_rows book text n) n here.call here.variant l names.kinds names.closing
      names.body rest here.place here.items s

  abbrev declares : List Entry → RowState → Result model.Outcome
  declares l s =
      declares_rows book text (runner_rows book text n) n here.call here.variant l names.kinds names.closing
      names.body rest here.place here.items s

  abbrev chooses : List Entry → RowState → Result model.Outcome
  chooses l s =
      name_choice_rows book text (runner_rows book text n) n here.call here.variant l names.kinds names.closing
      names.body rest here.place here.items s

  abbrev read : List Row → List Entry
  read T = names_at text T n names.count

  -- ---- They stop
  module _ (st0 st1 : List ℕ) (T : List Row) (s : State) (g : Reached)
      (w : OpensFrom book text st0 st1 T here names s g) where
    pub close_ended : goes_on g.outcome ≡ false →
        Runs text st0 s.cells st1 T g.outcome (λ cells. closes (read T) (row_state s.units cells T))
    close_ended h held =
        let u = w held in
        record {
          is = sym (goes_nowhere _ g.outcome (cells_of st1 g.outcome.state.cells) T h)
              ∙ u.is (runner_rows book text n) n rest (read T) (names_length text T names.count n);
          held = u.held;
        }

    pub close_body : goes_on g.outcome ≡ true → (st2 : List ℕ) (U : List Row) (r : Outcome) →
        Runs text st1 g.outcome.state.cells st2 U r (λ cells.
        descends_rows book text (runner_rows book text n) n here.call here.variant rest (Some (read T)) Next.Steps
        names.body g.place g.items (row_state g.outcome.state.units cells T)) →
        Runs text st0 s.cells st2 U r (λ cells. closes (read T) (row_state s.units cells T))
    close_body h st2 U r k held =
        let u = w held in
        let q = k u.held in
        record {
          is = q.is ∙ sym (goes_there _ g.outcome (cells_of st1 g.outcome.state.cells) T h)
              ∙ u.is (runner_rows book text n) n rest (read T) (names_length text T names.count n);
          held = q.held;
        }

  -- ---- One more, and both: a unit comes first
  module _ (st0 : List ℕ) (T : List Row) (s : State) (spent : Outcome) (p : Spent spent s) where
    still : Held text st0 s.cells → Held text st0 spent.state.cells
    still held = subst (λ k. Held text st0 k) (sym p.cells) held

    -- the state of the model once the unit is spent
    abbrev paid : RowState
    paid = row_state spent.state.units (cells_of st0 spent.state.cells) T

    unpaid : (K : RowState → Result model.Outcome) → (spent.limit ≡ 0 → ⊥) → Held text st0 s.cells →
        Ran text st0 T spent (spend_rows (row_state s.units (cells_of st0 s.cells) T) >>= K)
    unpaid K l held =
        record {
          is = given_met spent (cells_of st0 spent.state.cells) T l
              ∙ sym (bind_met K (spend_stops s spent p (cells_of st0 s.cells) T l));
          held = still held;
        }

    pays : (K : RowState → Result model.Outcome) → spent.limit ≡ 0 →
        (spend_rows (row_state s.units (cells_of st0 s.cells) T) >>= K) ≡ K paid
    pays K l =
        bind_ok K (spend_goes s spent p (cells_of st0 s.cells) T l)
        ∙ ap (λ k. K (row_state spent.state.units (cells_of st0 k) T)) (sym p.cells)

    pub declare_unpaid : (spent.limit ≡ 0 → ⊥) →
        Runs text st0 s.cells st0 T spent (λ cells. declares (read T) (row_state s.units cells T))
    unfolding declares_rows
    declare_unpaid l held = unpaid _ l held

    pub names_unpaid : (spent.limit ≡ 0 → ⊥) →
        Runs text st0 s.cells st0 T spent (λ cells. chooses (read T) (row_state s.units cells T))
    unfolding name_choice_rows
    names_unpaid l held = unpaid _ l held

    module _ (l : spent.limit ≡ 0) where
      -- the part that needs one level more
      abbrev declaring : RowRunner → Result model.Outcome
      declaring run =
          declaring_rows book text (runner_rows book text n) n here.call here.variant rest run (read T)
          names.kinds names.closing names.body here.place here.items paid

      declares_paid :
          declares (read T) (row_state s.units (cells_of st0 s.cells) T)
          ≡ nested_rows book text (runner_rows book text n) n paid (λ run. declaring run)
      unfolding declares_rows declaring_rows
      declares_paid = pays _ l

      pub declare_deep : (r : Outcome) → n ≡ 0 → r ≡ without_failure 21 spent.state →
          Runs text st0 s.cells st0 T r (λ cells. declares (read T) (row_state s.units cells T))
      unfolding nested_rows runner_rows
      declare_deep r e er held =
          rw er (record {
            is = given_met (without_failure 21 spent.state) (cells_of st0 spent.state.cells) T
                (λ z. omega (arith, z))
                ∙ sym (declares_paid
                ∙ ap (λ k. nested_rows book text (runner_rows book text k) n paid (λ run. declaring run)) e);
            held = still held;
          })

      module _ (positive : n ≡ 0 → ⊥) (st1 : List ℕ) (U : List Row) (g : Named)
          (w : DeclaresFrom book text st0 st1 T U n here names spent.state g) where
        -- what runs behind the name
        abbrev behind : RowState → Result model.Outcome
        behind t =
            inner_runner book text n here.call here.variant
            (behind_name g.comma (names_at text U (n - 1) (names.count + 1)) g.kinds names.closing
            names.body ∷ rest) g.place here.items t

        declares_on : Held text st0 s.cells →
            goes_with (λ t. behind t) (given g.outcome (cells_of st1 g.outcome.state.cells) U)
            ≡ declares (read T) (row_state s.units (cells_of st0 s.cells) T)
        unfolding nested_rows
        declares_on held =
            (w (still held)).is (runner_rows book text n) rest (inner_runner book text n)
            ∙ sym (declares_paid
            ∙ ap (λ inner. nested_rows book text inner n paid (λ run. declaring run))
            (runner_some book text n (omega (arith, positive))))

        pub declare_ended : goes_on g.outcome ≡ false →
            Runs text st0 s.cells st1 U g.outcome (λ cells. declares (read T) (row_state s.units cells T))
        declare_ended h held =
            record {
              is = sym (goes_nowhere _ g.outcome (cells_of st1 g.outcome.state.cells) U h) ∙ declares_on held;
              held = (w (still held)).held;
            }

        module _ (h : goes_on g.outcome ≡ true) (st2 : List ℕ) (W : List Row) (r : Outcome) where
          declare_behind : (K : RowState → Result model.Outcome) → ((t : RowState) → K t ≡ behind t) →
              Runs text st1 g.outcome.state.cells st2 W r
              (λ cells. K (row_state g.outcome.state.units cells U)) →
              Runs text st0 s.cells st2 W r (λ cells. declares (read T) (row_state s.units cells T))
          declare_behind K e k held =
              let q = k (w (still held)).held in
              record {
                is = q.is ∙ e _
                    ∙ sym (goes_there _ g.outcome (cells_of st1 g.outcome.state.cells) U h) ∙ declares_on held;
                held = q.held;
              }

          pub declare_more : g.comma ≡ true →
              Runs text st1 g.outcome.state.cells st2 W r (λ cells.
              name_choice_rows book text (runner_rows book text (n - 1)) (n - 1) here.call here.variant
              (names_at text U (n - 1) (names.count + 1)) g.kinds names.closing names.body rest g.place
              here.items (row_state g.outcome.state.units cells U)) →
              Runs text st0 s.cells st2 W r (λ cells. declares (read T) (row_state s.units cells T))
          unfolding steps_rows
          declare_more e k =
              declare_behind (λ t.
              name_choice_rows book text (runner_rows book text (n - 1)) (n - 1) here.call here.variant
              (names_at text U (n - 1) (names.count + 1)) g.kinds names.closing names.body rest g.place
              here.items t) (λ t. rw e) k

          pub declare_last : g.comma ≡ false →
              Runs text st1 g.outcome.state.cells st2 W r (λ cells.
              opens_rows book text (runner_rows book text (n - 1)) (n - 1) here.call here.variant
              (names_at text U (n - 1) (names.count + 1)) g.kinds names.closing names.body rest g.place
              here.items (row_state g.outcome.state.units cells U)) →
              Runs text st0 s.cells st2 W r (λ cells. declares (read T) (row_state s.units cells T))
          unfolding steps_rows
          declare_last e k =
              declare_behind (λ t.
              opens_rows book text (runner_rows book text (n - 1)) (n - 1) here.call here.variant
              (names_at text U (n - 1) (names.count + 1)) g.kinds names.closing names.body rest g.place
              here.items t) (λ t. rw e) k

      -- ---- Both
      module _ (st1 : List ℕ) (U : List Row) (a : Outcome)
          (A : Runs text st0 spent.state.cells st1 U a
          (λ cells. closes (read T) (row_state spent.state.units cells T))) where
        abbrev or_declares : List Entry → model.Outcome → Result model.Outcome
        or_declares l y =
            declares l y.state >>= (λ b. ok (chosen_rows book text (runner_rows book text n) n here.call
            (skip_from text here.place) y.failure b))

        first_stop : Held text st0 s.cells →
            (given a (cells_of st1 a.state.cells) U >>= (λ y. or_declares (read T) y))
            ≡ chooses (read T) (row_state s.units (cells_of st0 s.cells) T)
        unfolding name_choice_rows
        first_stop held =
            ap (λ (z : Result model.Outcome). z >>= (λ y. or_declares (read T) y)) (A (still held)).is ∙ sym (pays _ l)

        pub names_stopped : (a.limit ≡ 0 → ⊥) →
            Runs text st0 s.cells st1 U a (λ cells. chooses (read T) (row_state s.units cells T))
        names_stopped h held =
            record {
              is = limit_ends a (cells_of st1 a.state.cells) U _ h ∙ first_stop held;
              held = (A (still held)).held;
            }

        module _ (h : a.limit ≡ 0) (below : n < here.call) (within : here.call ≤ 200) (size : length T ≡ 201) where
          keeps : Held text st0 s.cells → KeepsAt here.call (suc n) T U
          unfolding On
          keeps held =
              let kept = keeps_opens book text n (runner_rows book text n) (keeps_runner book text n)
              (omega (arith, below, within)) here.call below within here.variant (read T) names.kinds
              names.closing names.body rest here.place here.items paid size in
              rw (sym (A (still held)).is ∙ given_ok a (cells_of st1 a.state.cells) U h) at kept

          -- the rows still hold the names that were read
          same_names : Held text st0 s.cells → read U ≡ read T
          same_names held =
              let few = names_length text T names.count n in
              let is : names_above text T (length (read T)) n ≡ read T = ap (λ k. names_above text T k n) few in
              ap (λ k. names_above text U k n) (sym few)
              ∙ names_still text n here.call T U (read T) (keeps held) is

          pub names_both : (st2 : List ℕ) (W : List Row) (b r : Outcome) →
              Runs text st1 a.state.cells st2 W b
              (λ cells. declares (read U) (row_state a.state.units cells U)) →
              Chosen text W here.call here.place a b r →
              Runs text st0 s.cells st2 W r (λ cells. chooses (read T) (row_state s.units cells T))
          names_both st2 W b r B C held =
              let d = B (A (still held)).held in
              let inner = runner_rows book text n in
              record {
                is =
                    ap (λ k. given r (cells_of st2 k) W) C.cells
                    ∙ C.is book inner n (cells_of st2 b.state.cells)
                    ∙ ap (λ (z : Result model.Outcome). z >>= (λ o. ok (chosen_rows book text inner n here.call
                    (skip_from text here.place) (failure_of (failure_at a)) o))) d.is
                    ∙ ap (λ l. or_declares l (outcome (failure_of (failure_at a))
                    (row_state a.state.units (cells_of st1 a.state.cells) U))) (same_names held)
                    ∙ sym (goes_to a (cells_of st1 a.state.cells) U (λ y. or_declares (read T) y) h)
                    ∙ first_stop held;
                held = subst (λ k. Held text st2 k) (sym C.cells) d.held;
              }
