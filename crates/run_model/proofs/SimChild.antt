-- That the call of a child over the rows, with what follows its parses, gives what the definition's gives:
-- `sim_descend`, and `sim_or_child` where it is a side of a choice. Scaffolding: no definition of document 01.
--
-- `Here` is what holds of the rows while the call of row c runs a variant; every part leaves it (KeepsCalls). A child's
-- call needs what `Here` says: the live rows above the free row n are the call of row c and the open calls around it.
-- While the child's parses are followed, row n keeps them and is not live.
use Rattle.std.specs.Prelude.{◌≡◌, Bool, eqb, get_or, drop}
use Rattle.std.proofs.Math.Path.{refl, ap}
use Rattle.std.proofs.Common.{sym, ◌∙◌, drop-cons, eqb-true}
use mathlib.Core.List.{List, [], ◌∷◌}
use Rattle.std.specs.Prelude.{Option, None, Some}
use Prim.Native.Nat.{ℕ, zero, suc, ◌+◌, ◌<◌, ◌≤◌}
use native.Mathlib.Omega.{arith}
use Rattle.std.proofs.Math.ListN.{length, length-set}
use Rattle.std.proofs.Math.Seq.{drop-length}
use Rattle.std.proofs.lemmas.Bool.{eqb-false}
use Rattle.characters.specs.Cases.{by_test}
use Rattle.characters.specs.Skipping.{skip_from}
use Rattle.book.specs.Book.{Entry, Book, nth_variant}
use Rattle.book.proofs.ReadingLaws.{associativity_of_number}
use Rattle.semantics.specs.Values.{Parse, absent_parse}
use Rattle.semantics.specs.Uses.{Enclosing, scope_of, use_of}
use Rattle.semantics.specs.Steps.{after_element, Todo, elements, ending}
use Rattle.semantics.specs.Cells.{Cell}
use Rattle.semantics.specs.Errors.{Error, chosen_failure}
use Rattle.semantics.specs.Run.{ok, ◌>>=◌, parsed, Call, Runner, Next, chosen, plain_next, list_next, nested}
use Rattle.semantics.specs.Run.{enter_child}
use Rattle.semantics.specs.Run.{follow_more, follow, followed}
use Rattle.run_model.specs.Rows.{Row, with_child, row_of, on_row, open_above, use_at, asked_at, stored_of, marks_of}
use Rattle.run_model.specs.Rows.{inherited, entry_at, names_above, behind_names, path_of, path_at, scope_at, call_of}
use Rattle.run_model.specs.Model.{row_state, Outcome, outcome, RowRunner, RowNext, together, plain_next_rows}
use Rattle.run_model.specs.Model.{list_next_rows, nested_rows, enter_child_rows, follow_from, followed_rows}
use Rattle.run_model.specs.Model.{chosen_rows}
use Rattle.run_model.specs.Model.{or_child}
use Rattle.run_model.proofs.Keeps.{row_put, row_else, keeps_put, KeepsAt, Called, at_put, Beside, Calls, Keeping}
use Rattle.run_model.proofs.Keeps.{Inner}
use Rattle.run_model.proofs.KeepsCalls.{keeps_child, child_leaves, KeepsNext, keeps_one, keeps_followed}
use Rattle.run_model.proofs.Views.{open_put, open_skips, path_keeps, path_skips}
use Rattle.run_model.proofs.Named.{NoNames, NamesAt, NamesIn, no_names_in, names_alike}
use Rattle.run_model.proofs.Sim.{see, then_see, option_see, after_see, plain_make, plain_with, makes_see, state_at}
use Rattle.run_model.proofs.Sim.{ran_at, found_at, Here, here_keeps, here_shut, Alike, Kin, kin_inner, nested_see}
use Rattle.run_model.proofs.SimCalls.{Scoped, sim_enter}

-- ---- An opening, and the names of one
module _ (text : List ℕ) (n : ℕ) where
  inherited_path : (T : List Row) (b : ℕ) → path_at text T n (inherited b) ≡ path_of text T n
  unfolding inherited behind_names
  inherited_path T zero = refl
  inherited_path T (suc b) = refl

  opened_scoped : (T : List Row) (k : ℕ) → Scoped text T n (suc (suc k))
  unfolding scope_at
  opened_scoped T k = refl

  opened_path : (T : List Row) (k : ℕ) →
      path_at text T n (suc (suc k)) ≡ Enclosing.behind (names_above text T k n) ∷ path_of text T n
  unfolding behind_names
  opened_path T k = refl

  -- the names of an opening stand above the free row
  abbrev pub OpensAt : List Row → Option (List Entry) → Type 0
  OpensAt T None = Unit {0}
  OpensAt T (Some names) = NamesAt text T n names

  -- the names stay while the rows above the free one do, but for what the call's own may change
  pub names_still : (c : ℕ) (T U : List Row) (names : List Entry) → KeepsAt c (suc n) T U → NamesAt text T n names →
      NamesAt text U n names
  names_still c T U names k is =
      names_alike text T U (length names) n
      (λ i l. by_test (eqb i c)
      (λ t. let e = eqb-true i c t in rw e (ap (entry_at text) k.mine))
      (λ t. ap (entry_at text) (k.other i l (eqb-false i c t)))) ∙ is

-- ---- Behind the other side of a choice
module _ (book : Book) (text : List ℕ) (n : ℕ) (inner : Option RowRunner) (C : Call) (c : ℕ) where
  pub chosen_seen : (at : ℕ) (a : Option Error) (b : Outcome) → C.nonterminal ≡ (row_of b.state.rows c).nonterminal →
      chosen C at a (ran_at c b) ≡ ran_at c (chosen_rows book text inner n c at a b)
  unfolding chosen chosen_failure
  chosen_seen at None b e = refl
  chosen_seen at (Some a) b e = both b.failure refl
    where
      both : (f : Option Error) → f ≡ b.failure →
          chosen C at (Some a) (ran_at c b) ≡ ran_at c (chosen_rows book text inner n c at (Some a) b)
      both None z = rw (← z)
      both (Some d) z = rw (← z, e)

-- ---- What follows a parse of a child
module _ (book : Book) (text : List ℕ) (n : ℕ) (C : Call) (c j : ℕ) where
  abbrev pub NextAlike : RowNext → Next → Type 0
  NextAlike next nextA = (m : ℕ) (S : RowRunner) (R : Runner) → n ≡ suc m → Keeping m S → Alike book text m S R →
      (q : Parse ℕ) (units : ℕ) (cells : List Cell) (T : List Row) →
      Here book text C c n j T →
      nextA q (state_at c (row_state units cells T)) R (row_of T c).run
      ≡ see (ran_at c) (next q (row_state units cells T) S)

  pub sim_plain_next : (rest : List (Todo ℕ)) → NoNames rest → (items : ℕ) →
      NextAlike (plain_next_rows book text c j rest items) (plain_next book text C j rest items)
  unfolding plain_next plain_next_rows
  sim_plain_next rest plain items m S R e keeping alike q units cells T h =
      makes_see (ran_at c) _ (plain_with book text j items q.value) (row_state units cells T)
      (asked_at (row_of T c) ∷ marks_of T c) _ _
      (λ cell units₁ cells₁.
      alike.of C c j rest q.rest cell (row_state units₁ cells₁ T) (rw e at h) (no_names_in text T m rest plain))

  pub sim_list_next : (comma : Bool) (M values : ℕ) (close : Option ℕ) (rest : List (Todo ℕ)) → NoNames rest →
      (items : ℕ) →
      NextAlike (list_next_rows book text c j comma M values close rest items)
      (list_next book text C j comma M values close rest items)
  unfolding list_next list_next_rows NamesIn
  sim_list_next comma M values close rest plain items m S R e keeping alike q units cells T h =
      makes_see (ran_at c) _ (plain_make text (Cell.chain values q.value)) (row_state units cells T)
      (asked_at (row_of T c) ∷ marks_of T c) _ _
      (λ cell units₁ cells₁. after_see (ran_at c) (after_element text comma q.rest) _ _ _ _
      (λ y. alike.of C c j (elements comma M cell close ∷ rest) y items (row_state units₁ cells₁ T) (rw e at h) plain)
      (λ y. alike.of C c j (ending cell close ∷ rest) y items (row_state units₁ cells₁ T) (rw e at h) plain))

module _ (book : Book) (text : List ℕ) (n : ℕ) (inner : Option RowRunner) (innerA : Option Runner)
    (kin : Kin book text n inner innerA) (room : n ≤ 200) (C : Call) (c j : ℕ) (below : n < c) (within : c ≤ 200) where
  inners : Inner n inner
  inners = kin_inner book text n inner innerA kin

  -- ---- The call of a child
  abbrev put : List Row → ℕ → List Row
  put T at = on_row T c (with_child at)

  child_use : (T : List Row) (at : ℕ) → Here book text C c (suc n) j T →
      use_at (with_child at (row_of T c)) ≡ use_of book (row_of T c).nonterminal (row_of T c).start j at
  child_use T at h =
      rw (h.level, h.associativity, associativity_of_number (nth_variant book j).associativity)

  -- what the live rows say once the child's place is noted
  child_open : {A : Type 0} (F : Row → A) (T : List Row) (at : ℕ) → Here book text C c (suc n) j T →
      open_above F (put T at) n ≡ F (with_child at (row_of T c)) ∷ open_above F T c
  child_open F T at h =
      let r = with_child at (row_of T c) in
      let l : c < length T = omega (arith, h.standing.size) in
      let g : Here book text C c (suc n) j (put T at) =
      here_keeps book text C c (suc n) j T (put T at) h (at_put c (suc n) T r l refl) in
      open_skips F (put T at) c n below within g.standing.live g.idle ∙ rw (row_put T c r l, open_put F T c r)

  child_path_lem : (T : List Row) (at : ℕ) → Here book text C c (suc n) j T →
      path_of text (put T at) n
      ≡ Enclosing.within (use_of book (row_of T c).nonterminal (row_of T c).start j at)
      ∷ path_at text T c (row_of T c).binder
  child_path_lem T at h =
      let r = with_child at (row_of T c) in
      let l : c < length T = omega (arith, h.standing.size) in
      let f : row_of (put T at) c ≡ r = row_put T c r l in
      let g : Here book text C c (suc n) j (put T at) =
      here_keeps book text C c (suc n) j T (put T at) h (at_put c (suc n) T r l refl) in
      path_skips text (put T at) c n below within g.standing.live g.idle
      ∙ rw (f, child_use T at h, path_keeps text c T (put T at) (keeps_put c T r) (row_of T c).binder)

  -- an opening around a call is around its child
  child_scoped : (T : List Row) (at b : ℕ) → (row_of T c).binder ≡ b → Here book text C c (suc n) j T →
      Scoped text (put T at) n (inherited b)
  unfolding inherited scope_at behind_names scope_of
  child_scoped T at zero e h =
      let same : call_of text T c ≡ C = h.standing.call in
      rw (child_path_lem T at h, e) (rw (← same, e) at h.standing.scope)
  child_scoped T at (suc b) e h = refl

  -- a child's place is no name's
  names_put : (T : List Row) (at : ℕ) (names : List Entry) → Here book text C c (suc n) j T → NamesAt text T n names →
      NamesAt text (put T at) n names
  names_put T at names h is =
      names_alike text T (put T at) (length names) n
      (λ i l. by_test (eqb i c)
      (λ t. let e = eqb-true i c t in
      rw e (ap (entry_at text)
      (row_put T c (with_child at (row_of T c)) (omega (arith, h.standing.size)))))
      (λ t. ap (entry_at text) (row_else T c i (with_child at (row_of T c)) (eqb-false i c t)))) ∙ is

  sim_child : (opening : Option (List Entry)) (M x units : ℕ) (cells : List Cell) (T : List Row) →
      Here book text C c (suc n) j T → OpensAt text n T opening →
      enter_child book text innerA opening C j M x (state_at c (row_state units cells T))
      ≡ see (found_at n) (enter_child_rows book text inner n opening c M x (row_state units cells T))
  unfolding enter_child enter_child_rows
  sim_child None M x units cells T h is =
      let at = skip_from text x in
      let b = inherited (row_of T c).binder in
      let same : call_of text T c ≡ C = h.standing.call in
      let size : length (put T at) ≡ 201 = length-set T c (with_child at (row_of T c)) ∙ h.standing.size in
      rw (← same)
      (rw (
        inherited_path text n (put T at) (row_of T c).binder,
        child_path_lem T at h,
        child_open stored_of T at h,
        child_open asked_at T at h,
      ) at
      (sim_enter book text n inner innerA kin room b M at (put T at) size
      (child_scoped T at (row_of T c).binder refl h) units cells))
  sim_child (Some names) M x units cells T h is =
      let at = skip_from text x in
      let same : call_of text T c ≡ C = h.standing.call in
      let size : length (put T at) ≡ 201 = length-set T c (with_child at (row_of T c)) ∙ h.standing.size in
      rw (← same)
      (rw (
        opened_path text n (put T at) (length names),
        names_put T at names h is,
        child_path_lem T at h,
        child_open stored_of T at h,
        child_open asked_at T at h,
      ) at
      (sim_enter book text n inner innerA kin room (suc (suc (length names))) M at (put T at) size
      (opened_scoped text n (put T at) (length names)) units cells))

  -- behind the child's call: the marks are those of the call of row c and of those around it, and the run's set is as
  -- it was
  behind : (e : Option Error) (units : ℕ) (cells : List Cell) (T : List Row) → Here book text C c (suc n) j T →
      found_at n (outcome e (row_state units cells T)) ≡ parsed (row_of T n).set e
      (state_at c (row_state units cells T))
  behind e units cells T h = rw (open_skips asked_at T c n below within h.standing.live h.idle)

  child_run : (x : ℕ) (T U : List Row) → length T ≡ 201 → Called n (put T (skip_from text x)) U →
      (row_of U c).run ≡ (row_of T c).run
  child_run x T U size k =
      ap (λ r. r.run) (k.above.at c (omega arith))
      ∙ ap (λ r. r.run) (row_put T c (with_child (skip_from text x) (row_of T c)) (omega arith))

  child_here : (x : ℕ) (T U : List Row) → Here book text C c (suc n) j T → Called n (put T (skip_from text x)) U →
      Here book text C c (suc n) j U
  child_here x T U h k =
      here_keeps book text C c (suc n) j T U h
      (child_leaves book text n inner inners room c below within x T U h.standing.size k)

  -- ---- All the parses of a child
  module _ (next : RowNext) (nextA : Next) (keeps : KeepsNext n c next)
      (alike : NextAlike book text n C c j next nextA) where
    sim_one : (q : Parse ℕ) (units : ℕ) (cells : List Cell) (T : List Row) → Here book text C c n j T →
        nested book text innerA (state_at c (row_state units cells T))
        (λ run. nextA q (state_at c (row_state units cells T)) run (row_of T c).run)
        ≡ see (ran_at c)
        (nested_rows book text inner n (row_state units cells T) (λ run. next q (row_state units cells T) run))
    sim_one q units cells T h =
        nested_see (ran_at c) book text n inner innerA kin (row_state units cells T)
        (asked_at (row_of T c) ∷ marks_of T c) _ _
        (λ m S R e keeping al. alike m S R e keeping al q units cells T h)

    -- row n keeps what the child found
    set_stays : (T U : List Row) → KeepsAt c n T U → (row_of U n).set ≡ (row_of T n).set
    set_stays T U k = ap (λ r. r.set) (k.other n (omega arith) (λ e. omega arith))

    sim_more : (Q : List (Parse ℕ)) (k i : ℕ) (e : Option Error) (units : ℕ) (cells : List Cell) (T : List Row) →
        (row_of T n).set ≡ Q → suc i + k ≡ length Q → Here book text C c n j T →
        follow_more book text innerA nextA (drop (suc i) Q) (row_of T c).run e (state_at c (row_state units cells T))
        ≡ see (ran_at c) (follow_from book text inner n next k (suc i) e (row_state units cells T))
    unfolding follow_more follow_from together see
    sim_more Q zero i e units cells T f g h = let z : suc i ≡ length Q = omega arith in rw (z, drop-length Q)
    sim_more Q (suc k) i e units cells T f g h =
        rw (drop-cons Q (suc i) absent_parse (omega arith), f)
        (then_see (ran_at c) (ran_at c) (Beside c n T) _ _ _ _ (sim_one (get_or Q (suc i) absent_parse) units cells T h)
        (keeps_one book text n inner inners room c below within next keeps (get_or Q (suc i) absent_parse)
        (row_state units cells T) h.standing.size)
        (λ o a.
        sim_more Q k (suc i) _ o.state.units o.state.cells o.state.rows
        (set_stays T o.state.rows a ∙ f) (omega arith) (here_keeps book text C c n j T o.state.rows h a)))

    sim_follow : (Q : List (Parse ℕ)) (k units : ℕ) (cells : List Cell) (T : List Row) → (row_of T n).set ≡ Q →
        k ≡ length Q → Here book text C c n j T →
        follow book text innerA nextA Q (row_of T c).run (state_at c (row_state units cells T))
        ≡ see (ran_at c) (follow_from book text inner n next k 0 None (row_state units cells T))
    unfolding follow follow_from together see
    sim_follow [] k units cells T f g h = rw g
    sim_follow (q ∷ Q) k units cells T f g h =
        rw (g, f)
        (then_see (ran_at c) (ran_at c) (Beside c n T) _ _ _ _ (sim_one q units cells T h)
        (keeps_one book text n inner inners room c below within next keeps q
        (row_state units cells T) h.standing.size)
        (λ o a. sim_more (q ∷ Q) (length Q) 0 o.failure o.state.units o.state.cells o.state.rows
        (set_stays T o.state.rows a ∙ f) (omega arith) (here_keeps book text C c n j T o.state.rows h a)))

    sim_followed : (e : Option Error) (units : ℕ) (cells : List Cell) (T : List Row) → Here book text C c n j T →
        Here book text C c (suc n) j T →
        followed book text innerA nextA (row_of T c).run (found_at n (outcome e (row_state units cells T)))
        ≡ see (ran_at c) (followed_rows book text inner n next (outcome e (row_state units cells T)))
    unfolding followed followed_rows see
    sim_followed e units cells T h g =
        ap (λ r. followed book text innerA nextA (row_of T c).run r) (behind e units cells T g)
        ∙ option_see (ran_at c) e _ _ _ _
        (λ z. sim_follow (row_of T n).set (length (row_of T n).set) units cells T refl refl h) (λ d z. refl)

    -- a child is called, and what it found is followed
    pub sim_descend : (opening : Option (List Entry)) (M x units : ℕ) (cells : List Cell) (T : List Row) →
        Here book text C c (suc n) j T → OpensAt text n T opening →
        (enter_child book text innerA opening C j M x (state_at c (row_state units cells T))
        >>= (λ r. followed book text innerA nextA (row_of T c).run r))
        ≡ see (ran_at c) (enter_child_rows book text inner n opening c M x (row_state units cells T)
        >>= (λ r. followed_rows book text inner n next r))
    sim_descend opening M x units cells T h is =
        then_see (found_at n) (ran_at c) (Calls n (put T (skip_from text x))) _ _ _ _
        (sim_child opening M x units cells T h is)
        (keeps_child book text n inner inners room c below within opening M x (row_state units cells T)
        h.standing.size)
        (λ o k.
        let U = o.state.rows in
        let g = child_here x T U h k in
        rw (child_run x T U h.standing.size k) at
        (sim_followed o.failure o.state.units o.state.cells U (here_shut book text C c n j U g k.shut) g))

    pub sim_or_child : (M x : ℕ) (a : Outcome) → Here book text C c (suc n) j a.state.rows →
        (enter_child book text innerA None C j M x (ran_at c a).state
        >>= (λ r. followed book text innerA nextA (ran_at c a).set r >>=
        (λ b. ok (chosen C (skip_from text x) (ran_at c a).failure b))))
        ≡ see (ran_at c) (or_child book text inner n c M next x a)
    unfolding or_child see
    sim_or_child M x a h =
        let T = a.state.rows in
        then_see (found_at n) (ran_at c) (Calls n (put T (skip_from text x))) _ _ _ _
        (sim_child None M x a.state.units a.state.cells T h tt)
        (keeps_child book text n inner inners room c below within None M x a.state h.standing.size)
        (λ o k.
        let U = o.state.rows in
        let g = child_here x T U h k in
        then_see (ran_at c) (ran_at c) (Beside c (suc n) U) _ _ _ _
        (rw (child_run x T U h.standing.size k) at
        (sim_followed o.failure o.state.units o.state.cells U (here_shut book text C c n j U g k.shut) g))
        (keeps_followed book text n inner inners room c below within next keeps o g.standing.size)
        (λ b l.
        let f = here_keeps book text C c (suc n) j U b.state.rows g l in
        ap ok (chosen_seen book text n inner C c (skip_from text x) a.failure b
        (sym (ap (λ c. c.nonterminal) f.standing.call)))))
