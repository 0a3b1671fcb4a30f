-- That a call over the rows gives what the definition's call gives: variants, one run, rounds, a use of mark 2,
-- `enter`, in the definition's order. Scaffolding: no definition of document 01.
--
-- Each statement is an equation: the definition's function, on the call, the set and the state that the rows show, is
-- what is seen of the model's function.
use Rattle.std.specs.Prelude.{◌≡◌, Bool, false, leb, get_or}
use Rattle.std.proofs.Math.Path.{refl, sym, ap}
use Rattle.std.proofs.Common.{subst, ◌∙◌, arith, le-ltb}
use mathlib.Core.List.{List, [], ◌∷◌}
use Rattle.std.specs.Prelude.{Option, None, Some}
use Prim.Native.Nat.{ℕ, zero, suc, ◌-◌, ◌<◌, ◌≤◌}
use Rattle.std.proofs.Math.ListN.{set, length, length-set}
use Rattle.book.specs.Book.{Book, nth_nonterminal, nth_variant}
use Rattle.semantics.specs.Values.{Parse}
use Rattle.semantics.specs.Uses.{scope_of, has_mark, Governor, governor, minimum, same_start}
use Rattle.semantics.specs.Tokens.{when, free_end, has_claimant, claimed}
use Rattle.semantics.specs.Steps.{steps_of, todo_of}
use Rattle.semantics.specs.Cells.{Cell}
use Rattle.semantics.specs.Errors.{Error, error}
use Rattle.semantics.specs.Run.{Result, met, ok, ◌>>=◌, State, Parsed, parsed, Call, call, with_mine, Runner, all_in}
use Rattle.semantics.specs.Run.{kept, add, add_all, ask, newest, others, with_asked, make, failed_call, begin, counted}
use Rattle.semantics.specs.Run.{variants, one_run, rounds, run_call, named, run_identifier, nested, reentry, enter}
use Rattle.run_model.specs.Rows.{Row, opened, ended, with_set, with_run, was_asked, copied, row_of, on_row, use_at}
use Rattle.run_model.specs.Rows.{asked_at, stored_of, marks_of, sets_of, is_body, path_of, path_at, scope_at, call_of}
use Rattle.run_model.specs.Rows.{in_scope, newest_governor, governor_at, any_claims, claims_use, RowGovernor}
use Rattle.run_model.specs.Model.{RowState, row_state, Outcome, outcome, RowRunner, bare_call, fails_empty}
use Rattle.run_model.specs.Model.{take_variant, variants_rows, one_run_rows, settle, rounds_rows, settle_first}
use Rattle.run_model.specs.Model.{run_call_rows, named_rows, run_identifier_rows, nested_rows, stored_rows, enter_rows}
use Rattle.run_model.proofs.Keeps.{row_put, keeps_put, run_put, Ran, Keeping}
use Rattle.run_model.proofs.KeepsCalls.{keeps_taken, keeps_one_run}
use Rattle.run_model.proofs.Views.{open_put, path_keeps, scope_keeps, Picked, Agree, no_governor, after_start}
use Rattle.run_model.proofs.Views.{at_start, agree_behind, agree, claims_behind, claims_path}
use Rattle.run_model.proofs.Named.{no_names_in, steps_no_names}
use Rattle.run_model.proofs.Sim.{state_of, see, then_see, last_see, same_see, when_see, list_see, plain_make}
use Rattle.run_model.proofs.Sim.{plain_begin, makes_see, spend_see, state_at, ran_at, end_at, found_at, Standing, Here}
use Rattle.run_model.proofs.Sim.{scope_stays, standing_keeps, Alike, Kin, nested_see}

-- what a change of row n that keeps its mark shows of the state
pub state_put : (n units : ℕ) (cells : List Cell) (T : List Row) (r : Row) → n < length T →
    r.asked ≡ (row_of T n).asked → state_at n (row_state units cells (set T n r)) ≡ state_at n (row_state units cells T)
state_put n units cells T r h e =
    let f : row_of (set T n r) n ≡ r = row_put T n r h in
    let m : marks_of (set T n r) n ≡ marks_of T n = open_put asked_at T n r in
    rw (f, m, e)

-- errors know a call by its nonterminal and start
counted_bare : (book : Book) (text : List ℕ) (C : Call) (N u j : ℕ) (f : Option Error) → u ≡ C.start →
    counted book text C j f ≡ counted book text (bare_call N u) j f
unfolding counted
counted_bare book text C N u j None e = refl
counted_bare book text C N u j (Some f) e = rw e

failed_bare : (C : Call) (N u : ℕ) (f : Option Error) → N ≡ C.nonterminal → u ≡ C.start →
    failed_call C f ≡ failed_call (bare_call N u) f
unfolding failed_call
failed_bare C N u None d e = rw (d, e)
failed_bare C N u (Some f) d e = refl

-- only the units of a state matter where a set grows
add_all_state : (units : ℕ) (cells : List Cell) (A B : List Bool) (set ps : List (Parse ℕ)) →
    add_all (state_of units cells A) set ps ≡ add_all (state_of units cells B) set ps
unfolding add_all add ◌>>=◌
add_all_state units cells A B set [] = refl
add_all_state units cells A B set (p ∷ ps) =
    go (add (state_of units cells B) set p) (λ more. add_all_state units cells A B more ps)
  where
    go : (y : Result (List (Parse ℕ))) →
        ((more : List (Parse ℕ)) → add_all (state_of units cells A) more ps ≡ add_all (state_of units cells B) more ps)
        →
        (y >>= (λ more. add_all (state_of units cells A) more ps))
        ≡ (y >>= (λ more. add_all (state_of units cells B) more ps))
    go (met number u) h = refl
    go (ok more) h = h more

-- ---- A use at row n
-- its call, before it is opened
abbrev pub use_call : List ℕ → List Row → ℕ → ℕ → ℕ → ℕ → Call
use_call text T n binder N u = call (path_at text T n binder) (sets_of T n) N u []

-- its scope by rows is that of its path
abbrev pub Scoped : List ℕ → List Row → ℕ → ℕ → Type 0
Scoped text T n binder = scope_at text T n binder ≡ scope_of (path_at text T n binder)

-- ---- A call at row n, whose variants run with row m = n - 1 free
module _ (book : Book) (text : List ℕ) (m : ℕ) (S : RowRunner) (R : Runner) (keeping : Keeping m S)
    (alike : Alike book text m S R) (n : ℕ) (next : n ≡ suc m) (room : n ≤ 200) (least : ℕ) where
  standing_self : (C : Call) (T : List Row) → Standing text C n T → Standing text (call_of text T n) n T
  standing_self C T h =
      record {
        live = h.live;
        call = refl;
        scope = h.scope ∙ ap (λ c. scope_of c.path) (sym h.call);
        size = h.size;
      }

  -- one variant
  sim_taken : (C : Call) (j x items units : ℕ) (cells : List Cell) (T : List Row) → Standing text C n T →
      R C j (todo_of book (nth_variant book j)) x items (row_of T n).run (state_at n (row_state units cells T))
      ≡ see (ran_at n)
      (S n j (todo_of book (nth_variant book j)) x items
      (row_state units cells (on_row T n (take_variant book text j))))
  sim_taken C j x items units cells T h =
      let r = take_variant book text j (row_of T n) in
      let l : n < length T = omega (arith, h.size) in
      let f : row_of (set T n r) n ≡ r = row_put T n r l in
      let here : Here book text C n (suc m) j (set T n r) = record {
        standing = standing_keeps text C n T (set T n r) h (run_put n T r l refl);
        level = ap (λ r. r.level) f;
        associativity = ap (λ r. r.associativity) f;
        idle = λ i a b. absurd (omega arith);
        below = omega arith;
        within = room;
      } in
      let run : (row_of (set T n r) n).run ≡ (row_of T n).run = ap (λ r. r.run) f in
      rw (run, state_put n units cells T r l refl)
      at (alike.of C n j (todo_of book (nth_variant book j)) x items (row_state units cells (set T n r)) here
      (no_names_in text (set T n r) m _ (steps_no_names (steps_of book (nth_variant book j)))))

  sim_variants : (C : Call) (k j : ℕ) (e : Option Error) (units : ℕ) (cells : List Cell) (T : List Row) →
      Standing text C n T → variants book text R C least k j (row_of T n).run e (state_at n (row_state units cells T))
      ≡ see (ran_at n) (variants_rows book text S n least k j e (row_state units cells T))
  unfolding variants variants_rows see
  sim_variants C zero j e units cells T h = refl
  sim_variants C (suc k) j e units cells T h =
      let D = call_of text T n in
      let g : Standing text D n T = standing_self C T h in
      let r = row_of T n in
      subst
      (λ (c : Call). variants book text R c least (suc k) j (row_of T n).run e (state_at n (row_state units cells T))
      ≡ see (ran_at n) (variants_rows book text S n least (suc k) j e (row_state units cells T)))
      h.call
      (when_see (ran_at n) (leb least (nth_variant book j).level) _ _ _ _
      (λ _.
      makes_see (ran_at n) (begin book text j) (plain_begin book text j) (row_state units cells T)
      (asked_at r ∷ marks_of T n) _ _
      (λ cell units₁ cells₁.
      then_see (ran_at n) (ran_at n) (Ran n T) _ _ _ _ (sim_taken D j r.start cell units₁ cells₁ T g)
      (keeps_taken book text m S keeping n next room least j r.start cell units₁ cells₁ T h.size)
      (λ o a. rw (counted_bare book text D r.nonterminal r.start j o.failure refl)
      (sim_variants D k (suc j) _ o.state.units o.state.cells o.state.rows
      (standing_keeps text D n T o.state.rows g a)))))
      (λ _. sim_variants D k (suc j) e units cells T g))

  sim_one_run : (C : Call) (units : ℕ) (cells : List Cell) (T : List Row) → Standing text C n T →
      one_run book text R C least (state_at n (row_state units cells T))
      ≡ see (ran_at n) (one_run_rows book text S n least (row_state units cells T))
  unfolding one_run one_run_rows
  sim_one_run C units cells T h =
      let D = call_of text T n in
      let g : Standing text D n T = standing_self C T h in
      let r = with_run [] (row_of T n) in
      let l : n < length T = omega (arith, h.size) in
      let f : (row_of (set T n r) n).run ≡ [] = ap (λ r. r.run) (row_put T n r l) in
      let nt = nth_nonterminal book (row_of T n).nonterminal in
      let same : D ≡ C = h.call in
      rw (← same)
      (rw (f, state_put n units cells T r l refl) at
      (sim_variants D nt.count nt.first None units cells (set T n r)
      (standing_keeps text D n T (set T n r) g (run_put n T r l refl))))

  -- a further run is settled: its set joins the call's
  all_standing : (C : Call) (T : List Row) (all : List (Parse ℕ)) → Standing text C n T →
      Standing text (with_mine C all) n (on_row T n (with_set all))
  all_standing C T all h =
      let r = with_set all (row_of T n) in
      let f : row_of (set T n r) n ≡ r = row_put T n r (omega (arith, h.size)) in
      let k = keeps_put n T r in
      let mine : call_of text (set T n r) n ≡ with_mine (call_of text T n) all =
      rw (f, path_keeps text n T (set T n r) k (row_of T n).binder, open_put stored_of T n r) in
      record {
        live = ap (λ r. r.live) f ∙ h.live;
        call = mine ∙ ap (λ c. with_mine c all) h.call;
        scope = scope_stays text n T (set T n r) k (ap (λ r. r.binder) f) ∙ h.scope;
        size = length-set T n r ∙ h.size;
      }

  -- what is seen of a row that ends with a set
  end_seen : (units : ℕ) (cells : List Cell) (T : List Row) (e : Option Error) (r : Row) → n < length T →
      r.asked ≡ (row_of T n).asked →
      end_at n (outcome e (row_state units cells (set T n r))) ≡ parsed r.set e (state_at n (row_state units cells T))
  end_seen units cells T e r l a =
      let f : (row_of (set T n r) n).set ≡ r.set = ap (λ r. r.set) (row_put T n r l) in
      rw (f, state_put n units cells T r l a)

  sim_settle : (k : ℕ) (onward : RowState → Result Outcome) →
      ((C : Call) (units : ℕ) (cells : List Cell) (T : List Row) → Standing text C n T →
      rounds book text k R C least (state_at n (row_state units cells T))
      ≡ see (end_at n) (onward (row_state units cells T))) →
      (units : ℕ) (cells : List Cell) (T : List Row) → Standing text (call_of text T n) n T →
      when (all_in (row_of T n).set (row_of T n).run)
      (λ _. ok (parsed (row_of T n).set None (state_at n (row_state units cells T))))
      (λ _. add_all (state_at n (row_state units cells T)) (row_of T n).set (row_of T n).run >>=
      (λ all. rounds book text k R (with_mine (call_of text T n) all) least (state_at n (row_state units cells T))))
      ≡ see (end_at n) (settle book text n onward (row_state units cells T))
  unfolding settle see
  sim_settle k onward f units cells T h =
      let r = row_of T n in
      let l : n < length T = omega (arith, h.size) in
      when_see (end_at n) (all_in r.set r.run) _ _ _ _
      (λ _. ap ok (sym (end_seen units cells T None (ended r) l refl)))
      (λ _. rw (add_all_state units cells (asked_at r ∷ marks_of T n) [] r.set r.run)
      (same_see (end_at n) (add_all (state_of units cells []) r.set r.run) _ _
      (λ all. rw (state_put n units cells T (with_set all r) l refl) at
      (f (with_mine (call_of text T n) all) units cells (on_row T n (with_set all))
      (all_standing (call_of text T n) T all h)))))

  sim_rounds : (k : ℕ) (C : Call) (units : ℕ) (cells : List Cell) (T : List Row) → Standing text C n T →
      rounds book text k R C least (state_at n (row_state units cells T))
      ≡ see (end_at n) (rounds_rows book text k S n least (row_state units cells T))
  unfolding rounds rounds_rows see
  sim_rounds zero C units cells T h = refl
  sim_rounds (suc k) C units cells T h =
      then_see (ran_at n) (end_at n) (Ran n T) _ _ _ _ (sim_one_run C units cells T h)
      (keeps_one_run book text m S keeping n next room least (row_state units cells T) h.size)
      (λ o a.
      let U = o.state.rows in
      let g = standing_keeps text C n T U h a in
      let e : call_of text U n ≡ C = g.call in
      rw (← e)
      (sim_settle k _ (λ C units cells T h. sim_rounds k C units cells T h) o.state.units o.state.cells U
      (standing_self C U g)))

  -- the first run is settled: its set is the call's
  sim_first : (C : Call) (f : Option Error) (units : ℕ) (cells : List Cell) (T : List Row) → Standing text C n T →
      elim (row_of T n).run [
        | [] ↦ ok (parsed [] (Some (failed_call C f)) (state_at n (row_state units cells T)))
        | p ∷ ps ↦ when (asked_at (row_of T n))
            (λ _. rounds book text 65 R (with_mine C (row_of T n).run) least (state_at n (row_state units cells T)))
            (λ _. ok (parsed (row_of T n).run None (state_at n (row_state units cells T))))
      ]
      ≡ see (end_at n)
      (settle_first book text n (λ t. rounds_rows book text 65 S n least t) (outcome f (row_state units cells T)))
  unfolding settle_first see
  sim_first C f units cells T h =
      let r = row_of T n in
      let l : n < length T = omega (arith, h.size) in
      let q = ended (copied r) in
      let e = failed_call (bare_call r.nonterminal r.start) f in
      let failure : failed_call C f ≡ e =
      failed_bare C r.nonterminal r.start f (ap (λ c. c.nonterminal) h.call) (ap (λ c. c.start) h.call) in
      list_see (end_at n) r.run _ _ _ _
      (λ z. ap ok (sym (end_seen units cells T (Some e) q l refl ∙ rw (
        z,
        failure,
      ) (refl {a = parsed [] (Some e) (state_at n (row_state units cells T))}))))
      (λ p ps z. when_see (end_at n) (asked_at r) _ _ _ _
      (λ _. rw (state_put n units cells T (copied r) l refl) at
      (sim_rounds 65 (with_mine C r.run) units cells (on_row T n copied) (all_standing C T r.run h)))
      (λ _. ap ok (sym (end_seen units cells T None q l refl))))

  sim_opened : (C : Call) (binder N u units : ℕ) (cells : List Cell) (T : List Row) →
      Standing text C n (on_row T n (opened binder N u)) →
      run_call book text R C least (state_at n (row_state units cells (on_row T n (opened binder N u))))
      ≡ see (end_at n) (run_call_rows book text S n binder N u least (row_state units cells T))
  unfolding run_call run_call_rows newest
  sim_opened C binder N u units cells T h =
      let U = on_row T n (opened binder N u) in
      then_see (ran_at n) (end_at n) (Ran n U) _ _ _ _ (sim_one_run C units cells U h)
      (keeps_one_run book text m S keeping n next room least (row_state units cells U) h.size)
      (λ o a.
      sim_first C o.failure o.state.units o.state.cells o.state.rows
      (standing_keeps text C n U o.state.rows h a))

  pub sim_run_call : (binder N u units : ℕ) (cells : List Cell) (T : List Row) → length T ≡ 201 →
      Scoped text T n binder →
      run_call book text R (use_call text T n binder N u) least (state_of units cells (false ∷ marks_of T n))
      ≡ see (end_at n) (run_call_rows book text S n binder N u least (row_state units cells T))
  sim_run_call binder N u units cells T size scoped =
      let C = use_call text T n binder N u in
      let r = opened binder N u (row_of T n) in
      let f : row_of (set T n r) n ≡ r = row_put T n r (omega arith) in
      let k = keeps_put n T r in
      let standing : Standing text C n (set T n r) = record {
        live = ap (λ r. r.live) f;
        call = rw (f, path_keeps text n T (set T n r) k binder, open_put stored_of T n r);
        scope = ap (λ q. scope_at text (set T n r) n q.binder) f
            ∙ scope_keeps text n T (set T n r) k binder ∙ scoped;
        size = length-set T n r ∙ size;
      } in
      let state : state_at n (row_state units cells (set T n r)) ≡ state_of units cells (false ∷ marks_of T n) =
      rw (open_put asked_at T n r, f) in
      ap (λ s. run_call book text R C least s) (sym state) ∙ sim_opened C binder N u units cells T standing

-- ---- What is seen behind a call
pub found_seen : (n units : ℕ) (cells : List Cell) (T : List Row) (e : Option Error) (r : Row) → n < length T →
    found_at n (outcome e (row_state units cells (set T n r))) ≡ parsed r.set e (state_of units cells (marks_of T n))
found_seen n units cells T e r l =
    let f : (row_of (set T n r) n).set ≡ r.set = ap (λ r. r.set) (row_put T n r l) in
    rw (f, open_put asked_at T n r)

-- ---- A use of mark 2
module _ (book : Book) (text : List ℕ) (n binder N u : ℕ) (T : List Row) (size : n < length T) where
  abbrev nameless : Row
  nameless = ended (with_set [] (row_of T n))

  sim_named : (units : ℕ) (cells : List Cell) (end : Option ℕ) →
      named book text (use_call text T n binder N u) (state_of units cells (marks_of T n)) end
      ≡ see (found_at n) (named_rows book text n N u (row_state units cells (set T n nameless)) end)
  unfolding named named_rows failed_call see
  sim_named units cells None = ap ok (sym (found_seen n units cells T (Some (error u 11 N)) nameless size))
  sim_named units cells (Some end) =
      let l : length (set T n nameless) ≡ length T = length-set T n nameless in
      makes_see (found_at n) (make text (Cell.name u (end - u))) (plain_make text (Cell.name u (end - u)))
      (row_state units cells (set T n nameless)) (marks_of T n) _ _
      (λ cell units₁ cells₁. ap ok
      (sym (found_seen n units₁ cells₁ (set T n nameless) None _ (omega arith) ∙ rw (open_put asked_at T n nameless))))

  pub sim_identifier : Scoped text T n binder → (units : ℕ) (cells : List Cell) →
      run_identifier book text (use_call text T n binder N u) (state_of units cells (marks_of T n))
      ≡ see (found_at n) (run_identifier_rows book text n binder N u (row_state units cells T))
  unfolding run_identifier run_identifier_rows
  sim_identifier scoped units cells =
      let U = set T n nameless in
      let k = keeps_put n T nameless in
      let path : path_at text U n binder ≡ path_at text T n binder = path_keeps text n T U k binder in
      let scope : scope_at text U n binder ≡ scope_of (path_at text T n binder) =
      scope_keeps text n T U k binder ∙ scoped in
      let q : claims_use book U n binder u ≡ has_claimant book text (path_at text T n binder) u =
      claims_behind book text U u n binder (any_claims book U u (200 - n) (suc n)) (path_of text U n)
      (claims_path book text U u (200 - n) (suc n))
      ∙ ap (λ p. has_claimant book text p u) path in
      rw (q, scope)
      (sim_named units cells
      (when (claimed book text (path_at text T n binder) u) (λ _. None) (λ _. free_end book text u)))

-- ---- A call
module _ (book : Book) (text : List ℕ) (n : ℕ) (inner : Option RowRunner) (innerA : Option Runner)
    (kin : Kin book text n inner innerA) (room : n ≤ 200) (binder N u : ℕ) (T : List Row) (size : length T ≡ 201)
    (scoped : Scoped text T n binder) where
  reentry_is : (l : List (Parse ℕ)) (e : Error) (s : State) →
      reentry book text innerA l e s ≡ parsed l (fails_empty l e) s
  unfolding reentry fails_empty
  reentry_is [] e s = refl
  reentry_is (p ∷ ps) e s = refl

  -- re-entry: what the governor of row g has stored, filtered
  sim_stored : (g x units : ℕ) (cells : List Cell) → suc n ≤ g → Picked T (200 - n) (suc n) g x →
      reentry book text innerA (kept (use_at (row_of T g)) (get_or (sets_of T n) x [])) (error u 11 N)
      (state_of units cells (ask x (marks_of T n)))
      ≡ found_at n (stored_rows book text inner n g N u (row_state units cells T))
  unfolding stored_rows
  sim_stored g x units cells l w =
      let U = on_row T g was_asked in
      let K = kept (use_at (row_of T g)) (row_of T g).set in
      let r = ended (with_set K (row_of U n)) in
      let room : n < length U = rw (length-set T g (was_asked (row_of T g))) (omega arith) in
      let f : (row_of (set U n r) n).set ≡ K = ap (λ r. r.set) (row_put U n r room) in
      let first : reentry book text innerA (kept (use_at (row_of T g)) (get_or (sets_of T n) x [])) (error u 11 N)
      (state_of units cells (ask x (marks_of T n)))
      ≡ parsed K (fails_empty K (error u 11 N)) (state_of units cells (marks_of U n)) =
      rw (w.sets, w.marks) (reentry_is K (error u 11 N) (state_of units cells (marks_of U n))) in
      first ∙ sym (found_seen n units cells U (fails_empty (row_of (set U n r) n).set (error u 11 N)) r room ∙
      ap (λ l. parsed K (fails_empty l (error u 11 N)) (state_of units cells (marks_of U n))) f)

  -- the call's runs, by the definition and by rows
  abbrev runs : ℕ → ℕ → List Cell → Runner → Result Parsed
  runs least units cells run =
      when (has_mark book 2 N)
      (λ _. run_identifier book text (use_call text T n binder N u) (state_of units cells (marks_of T n)))
      (λ _.
      run_call book text run (use_call text T n binder N u) least (state_of units cells (false ∷ marks_of T n))
      >>=
      (λ r. ok (parsed r.set r.failure (with_asked r.state (others r.state.asked)))))

  abbrev runs_rows : ℕ → ℕ → List Cell → RowRunner → Result Outcome
  runs_rows least units cells run =
      when (has_mark book 2 N) (λ _. run_identifier_rows book text n binder N u (row_state units cells T))
      (λ _. run_call_rows book text run n binder N u least (row_state units cells T))

  sim_nested : (least units : ℕ) (cells : List Cell) →
      nested book text innerA (state_of units cells (marks_of T n)) (runs least units cells)
      ≡ see (found_at n) (nested_rows book text inner n (row_state units cells T) (runs_rows least units cells))
  unfolding others
  sim_nested least units cells =
      nested_see (found_at n) book text n inner innerA kin (row_state units cells T) (marks_of T n) _ _
      (λ m S R e keeping alike.
      when_see (found_at n) (has_mark book 2 N) _ _ _ _
      (λ _. sim_identifier book text n binder N u T (omega arith) scoped units cells)
      (λ _.
      last_see (end_at n) (found_at n) _ _ _
      (sim_run_call book text m S R keeping alike n e room least binder N u units cells T size scoped) (λ o. refl)))

  sim_governed : (units : ℕ) (cells : List Cell) (g : ℕ) (a : Governor) → Agree T u (200 - n) (suc n) g a →
      elim a [
        | same_start i f around ↦ ok (reentry book text innerA (kept f (get_or (sets_of T n) i [])) (error u 11 N)
            (state_of units cells (ask i (marks_of T n))))
        | minimum least ↦ nested book text innerA (state_of units cells (marks_of T n)) (runs least units cells)
      ]
      ≡ see (found_at n) (elim (governor_at T u g) [
        | RowGovernor.same_start g ↦ ok (stored_rows book text inner n g N u (row_state units cells T))
        | RowGovernor.minimum least ↦ nested_rows book text inner n (row_state units cells T)
            (runs_rows least units cells)
      ])
  unfolding governor_at see
  sim_governed units cells g a (no_governor h p) = rw p (sim_nested 0 units cells)
  sim_governed units cells g a (after_start h p q) = rw (p, q) (sim_nested _ units cells)
  sim_governed units cells g a (at_start h x around l p q w) =
      rw (le-ltb 200 h p, q) (ap ok (sim_stored h x units cells l w))

  pub sim_enter : (units : ℕ) (cells : List Cell) →
      enter book text innerA (path_at text T n binder) (sets_of T n) N u (state_of units cells (marks_of T n))
      ≡ see (found_at n) (enter_rows book text inner n binder N u (row_state units cells T))
  unfolding enter enter_rows
  sim_enter units cells =
      spend_see (found_at n) (row_state units cells T) (marks_of T n) _ _
      (λ units₁.
      sim_governed units₁ cells (in_scope (is_body binder) (newest_governor T N u (200 - n) (suc n)))
      (governor (path_at text T n binder) N u)
      (agree_behind text T N u (200 - n) (suc n) n binder (newest_governor T N u (200 - n) (suc n)) (path_of text T n)
      (agree text T size N u (200 - n) (suc n) (omega arith))))
