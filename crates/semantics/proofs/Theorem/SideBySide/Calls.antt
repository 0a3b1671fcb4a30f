-- Two runs side by side: the cells of a variant, and a call. Its runs are alike if those of its variants are; it is run
-- again in both or in neither, since its mark is the same.
use Rattle.std.specs.Prelude.{◌≡◌, leb}
use Rattle.std.proofs.Math.Path.{refl}
use mathlib.Core.List.{List, [], ◌∷◌}
use Rattle.std.specs.Prelude.{Option, None, Some}
use Prim.Native.Nat.{ℕ, zero, suc}
use Rattle.characters.specs.Cases.{by_test}
use Rattle.book.specs.Book.{Book, nth_variant}
use Rattle.semantics.specs.Numbers.{most_rounds, too_many_parses}
use Rattle.semantics.specs.Values.{Parse}
use Rattle.semantics.specs.Tokens.{Item, when, free_end, claimed}
use Rattle.semantics.specs.Cells.{Cell}
use Rattle.semantics.specs.Errors.{Error}
use Rattle.semantics.specs.Run.{Result, ok, ◌>>=◌, Parsed, parsed, Call, with_mine, Runner, all_in, newest, others}
use Rattle.semantics.specs.Run.{with_asked, failed_call, begin, with_cell, with_token, complete, counted, variants}
use Rattle.semantics.specs.Run.{one_run, rounds, run_call, named, run_identifier}
use Rattle.semantics.proofs.Theorem.Results.{option_cases}
use Rattle.semantics.proofs.Theorem.SideBySide.Relations.{of_cell, of_set, Good, Laws, Pair, opened, Calls, calls}
use Rattle.semantics.proofs.Theorem.SideBySide.Relations.{first_call, second_call, Alike, AlikeRunner, good_none}
use Rattle.semantics.proofs.Theorem.SideBySide.Relations.{good_one, cell_then, set_then, add_then, add_all_then}
use Rattle.semantics.proofs.Theorem.SideBySide.Relations.{cell_done, set_done, limit_alike, make_alike}

module _ {book : Book} {text : List ℕ} (L : Laws book text) where
  -- ---- A variant's cells
  begin_alike : {k : ℕ} (j : ℕ) (s : Pair L k) →
      Alike L of_cell s (begin book text j s.first) (begin book text j s.second)
  unfolding begin
  begin_alike j s =
      by_test (nth_variant book j).passing
      (λ t. rw t (cell_done L s 0))
      (λ t. rw t (make_alike L s Cell.empty))

  pub with_cell_alike : {k : ℕ} (j items item : ℕ) (s : Pair L k) →
      Alike L of_cell s (with_cell book text j items item s.first) (with_cell book text j items item s.second)
  unfolding with_cell
  with_cell_alike j items item s =
      by_test (nth_variant book j).passing
      (λ t. rw t (cell_done L s item))
      (λ t. rw t (make_alike L s (Cell.chain items item)))

  pub with_token_alike : {k : ℕ} (j items : ℕ) (item : Option Item) (s : Pair L k) →
      Alike L of_cell s (with_token book text j items item s.first) (with_token book text j items item s.second)
  unfolding with_token
  with_token_alike j items None s = cell_done L s items
  with_token_alike j items (Some item) s =
      cell_then L s _ _ (make_alike L s _) (λ n t. with_cell_alike j items n t)

  pub complete_alike : {k : ℕ} (j x items : ℕ) (set : List (Parse ℕ)) (s : Pair L k) →
      L.Place x → Good L.Place set →
      Alike L of_set s (complete book text j x items set s.first) (complete book text j x items set s.second)
  unfolding complete
  complete_alike j x items set s place good =
      cell_then L s _ _
      (by_test (nth_variant book j).passing
      (λ t. rw t (cell_done L s items))
      (λ t. rw t (make_alike L s (Cell.variant j items))))
      (λ n t. add_then L t set _ _ _ good place (λ more good_all. set_done L t more None good_all))

  -- ---- A call
  -- its stored parses are set to all found, in both runs
  abbrev with_all : {k : ℕ} (c : Calls L k) (all : List (Parse ℕ)) → Good L.Place all → Calls L k
  with_all c all good = calls L c.first c.second c.around c.nonterminal c.start c.place all good

  -- what follows its first run
  abbrev after_first : Runner → Call → ℕ → Parsed → Result Parsed
  after_first run c m r =
      elim r.set [
        | [] ↦ ok (parsed [] (Some (failed_call c r.failure)) r.state)
        | p ∷ ps ↦ when (newest r.state.asked)
            (λ _. rounds book text most_rounds run (with_mine c r.set) m r.state)
            (λ _. ok (parsed r.set None r.state))
      ]

  -- what follows all of them
  abbrev closing : Parsed → Result Parsed
  closing r = ok (parsed r.set r.failure (with_asked r.state (others r.state.asked)))

  counted_same : {k : ℕ} (c : Calls L k) (j : ℕ) (d : Option Error) →
      counted book text (second_call L c) j d ≡ counted book text (first_call L c) j d
  unfolding counted
  counted_same c j None = refl
  counted_same c j (Some e) = refl

  module _ (f g : Runner) (h : AlikeRunner L f g) {k : ℕ} where
    variants_alike : (c : Calls L k) (m n j : ℕ) (set : List (Parse ℕ)) (e : Option Error) (s : Pair L (suc k)) →
        Good L.Place set →
        Alike L of_set s (variants book text f (first_call L c) m n j set e s.first)
        (variants book text g (second_call L c) m n j set e s.second)
    unfolding variants
    variants_alike c m zero j set e s good = set_done L s set e good
    variants_alike c m (suc n) j set e s good =
        by_test (leb m (nth_variant book j).level)
        (λ b. rw b (cell_then L s _ _ (begin_alike j s) (λ items t.
        set_then L t _ _ (h k c j _ c.start items set t c.place good) (λ more d r good_all.
        rw (counted_same c j d) (variants_alike c m n (suc j) more _ r good_all)))))
        (λ b. rw b (variants_alike c m n (suc j) set e s good))

    one_run_alike : (c : Calls L k) (m : ℕ) (s : Pair L (suc k)) →
        Alike L of_set s (one_run book text f (first_call L c) m s.first)
        (one_run book text g (second_call L c) m s.second)
    unfolding one_run
    one_run_alike c m s = variants_alike c m _ _ [] None s (good_none L.Place)

    rounds_alike : (n : ℕ) (c : Calls L k) (m : ℕ) (s : Pair L (suc k)) →
        Alike L of_set s (rounds book text n f (first_call L c) m s.first)
        (rounds book text n g (second_call L c) m s.second)
    unfolding rounds
    rounds_alike zero c m s = limit_alike L s too_many_parses
    rounds_alike (suc n) c m s =
        set_then L s _ _ (one_run_alike c m s) (λ set e t good.
        by_test (all_in c.mine set)
        (λ b. rw b (set_done L t c.mine None c.good))
        (λ b. rw b (add_all_then L t c.mine set _ _ c.good good (λ all good_all.
        rounds_alike n (with_all c all good_all) m t))))

    after_first_alike : (c : Calls L k) (m : ℕ) (set : List (Parse ℕ)) (e : Option Error) (s : Pair L (suc k)) →
        Good L.Place set →
        Alike L of_set s (after_first f (first_call L c) m (parsed set e s.first))
        (after_first g (second_call L c) m (parsed set e s.second))
    unfolding failed_call
    after_first_alike c m [] None s good = set_done L s [] _ good
    after_first_alike c m [] (Some e) s good = set_done L s [] _ good
    after_first_alike c m (p ∷ ps) e s good =
        rw (L.newests k s.first s.second s.alike)
        (by_test (newest s.first.asked)
        (λ b. rw b (rounds_alike most_rounds (with_all c (p ∷ ps) good) m s))
        (λ b. rw b (set_done L s (p ∷ ps) None good)))

    run_call_alike : (c : Calls L k) (m : ℕ) (s : Pair L (suc k)) →
        Alike L of_set s (run_call book text f (first_call L c) m s.first)
        (run_call book text g (second_call L c) m s.second)
    unfolding run_call
    run_call_alike c m s =
        set_then L s (after_first f (first_call L c) m) (after_first g (second_call L c) m) (one_run_alike c m s)
        (λ set e t good. after_first_alike c m set e t good)

    -- its mark is there from before its first run until after its last
    pub open_call_alike : (c : Calls L k) (m : ℕ) (s : Pair L k) →
        Alike L of_set s (run_call book text f (first_call L c) m (opened L s).first >>= closing)
        (run_call book text g (second_call L c) m (opened L s).second >>= closing)
    open_call_alike c m s =
        L.marked k of_set s.first s.second _ _ _ _
        (L.then (suc k) k of_set of_set _ _ _ _ closing closing (run_call_alike c m (opened L s))
        (λ w t₁ t₂ good t.
        L.marked k of_set t₁ t₂ _ _ _ _
        (L.done k of_set w _ _ good (L.closes k t₁ t₂ t))))

  pub identifier_alike : {k : ℕ} (c : Calls L k) (s : Pair L k) →
      Alike L of_set s (run_identifier book text (first_call L c) s.first)
      (run_identifier book text (second_call L c) s.second)
  unfolding run_identifier named failed_call
  identifier_alike {k} c s =
      rw (L.claims k c.first c.second c.start c.around c.place)
      (by_test (claimed book text c.first.path c.start)
      (λ b. rw b (set_done L s [] _ (good_none L.Place)))
      (λ b. option_cases (free_end book text c.start)
      (λ missing. rw (b, missing) (set_done L s [] _ (good_none L.Place)))
      (λ end there. rw (b, there) (cell_then L s _ _ (make_alike L s _) (λ n t.
      set_done L t _ None (good_one L.Place _ (L.frees c.start end c.place there)))))))
