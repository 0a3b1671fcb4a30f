-- Of a call, of a child and of what follows its parses: with any errors in place of those of re-entries and claimed
-- names they are the same, or but for failures that the call can't tell apart. The plan is in ErrorLaws/Unseen.
use Rattle.std.specs.Prelude.{◌≡◌, refl, Bool, leb}
use Rattle.std.proofs.Common.{sym, ◌∙◌}
use Rattle.std.proofs.Math.Path.{subst}
use Rattle.std.proofs.Math.Bool.{true, false, and-eq-true_iff}
use mathlib.Core.List.Memᴰ
use mathlib.Core.List.{List, [], ◌∷◌}
use Rattle.std.specs.Prelude.{Option, None, Some}
use Prim.Native.Nat.{ℕ, zero, suc, ◌≤◌}
use native.Mathlib.Omega.{arith}
use Rattle.characters.specs.Cases.{by_test}
use Rattle.characters.specs.Skipping.{skip_from}
use Rattle.characters.proofs.SkippingLaws.{skip_forward}
use Rattle.book.specs.Book.{Entry, Book, nth_nonterminal, nth_variant}
use Rattle.semantics.specs.Numbers.{most_rounds, too_deep}
use Rattle.semantics.specs.Values.{Parse}
use Rattle.semantics.specs.Uses.{Use, Path, scope_of, within, has_mark, same_start, governor, keeps}
use Rattle.semantics.specs.Tokens.{is_some, free_end, variable_at, has_claimant, claimed}
use Rattle.semantics.specs.Steps.{goes, halts, after_element, closed, Todo, elements, ending, todo_of}
use Rattle.semantics.specs.Cells.{Cell}
use Rattle.semantics.specs.Errors.{Error, join_with}
use Rattle.semantics.specs.Run.{Result, met, ok, ◌>>=◌, State, Parsed, parsed, Call, call, with_mine, Runner, Go}
use Rattle.semantics.specs.Run.{Next, all_in, kept, newest, others, with_asked}
use Rattle.semantics.specs.Run.{add, add_all, spend, make, failed_call, either as eitherError, chosen, begin}
use Rattle.semantics.specs.Run.{with_cell, complete, counted, variants, one_run}
use Rattle.semantics.specs.Run.{rounds, run_call, named, run_identifier, plain_next, list_next, stops, nested}
use Rattle.semantics.specs.Run.{reentry, enter, enter_child, follow_more, follow, followed}
use Rattle.semantics.proofs.Theorem.Lists.{◌∈◌, sift_out, nth}
use Rattle.semantics.proofs.Theorem.Results.{option_cases, list_cases, governor_cases, after_cases}
use Rattle.semantics.proofs.Theorem.Sets.{kept_sift}
use Rattle.semantics.proofs.Theorem.Sound.{gov_at}
use Rattle.semantics.proofs.Theorem.Tokens.{free_end_within}
use Rattle.semantics.proofs.ErrorLaws.{Alike, alike_choice, alike_counted}
use Rattle.semantics.proofs.ErrorLaws.Places.{at_in, gov_start, claimant, closed_forward, Onward, after_onward}
use Rattle.semantics.proofs.ErrorLaws.Gives.{Behind, nothing_behind, behind_add, behind_all, Around, Ready}
use Rattle.semantics.proofs.ErrorLaws.SkippedCalls.{around_child, child_at_start}
use Rattle.semantics.proofs.ErrorLaws.Told.{identifier_with, enter_with, enter_child_with}
use Rattle.semantics.proofs.ErrorLaws.Like.{Both, neither, both, both_same, both_either, Same, same_limit}
use Rattle.semantics.proofs.ErrorLaws.Like.{same_result, Like, like_limit, like_result}
use Rattle.semantics.proofs.ErrorLaws.Like.{same_like, same_next, like_next, same_bind, like_bind}
use Rattle.semantics.proofs.ErrorLaws.Like.{like_same, LikeRunner, LikeInner, deepest, deeper}
use Rattle.semantics.proofs.ErrorLaws.Like.{LikeGo, LikeNext}

module _ (book : Book) (text : List ℕ) where
  -- a call counts the same of failures that are alike to it
  both_counted : (c : Call) (j : ℕ) {d e : Option Error} → Both c.start d e →
      counted book text c j d ≡ counted book text c j e
  both_counted c j neither = refl
  both_counted c j (both {a} {b} h) = alike_counted book text c j a b h

  pub chosen_like : {u : ℕ} (c : Call) (at : ℕ) {d e d' e' : Option Error} (set : List (Parse ℕ)) (s : State) → u ≤ at →
      Both u d e → Behind text u set → Both u d' e' →
      Like text u (ok (chosen c at d (parsed set d' s))) (ok (chosen c at e (parsed set e' s)))
  unfolding chosen
  chosen_like c at set s l neither b k = like_result b neither
  chosen_like c at set s l (both h) b neither = like_result b neither
  chosen_like {u} c at set s l (both {a} {b = a'} h) b (both {a = o} {b = o'} k) =
      rw (alike_choice u at c.nonterminal a a' o o' l h k) (like_result b (both_same _))

  pub complete_like : {u : ℕ} (j x items : ℕ) (set : List (Parse ℕ)) (s : State) → u ≤ x → Behind text u set →
      Like text u (complete book text j x items set s) (complete book text j x items set s)
  unfolding complete
  complete_like {u} j x items set s l b =
      like_next text _ _ _ (λ m valued. like_next text (add m.state set _) _ _ (λ more joined.
      like_result (behind_add text m.state set _ joined b l) neither))

  -- ---- A call
  module _ (f g : Runner) (like : LikeRunner text f g) where
    variants_same : (c : Call) (m n j : ℕ) (set : List (Parse ℕ)) (o : Option Error) (s : State) → Ready text c →
        Behind text c.start set →
        Same text c.start (variants book text f c m n j set o s) (variants book text g c m n j set o s)
    unfolding variants
    variants_same c m zero j set o s h b = same_result b
    variants_same c m (suc n) j set o s h b =
        by_test (leb m (nth_variant book j).level)
        (λ t. rw t (same_next text (begin book text j s) _ _ (λ a begun.
        like_same text _ _
        (like c j (todo_of book (nth_variant book j)) c.start a.cell set a.state h (omega arith) b)
        (λ more s' d e b' k.
        rw (both_counted c j k) (variants_same c m n (suc j) more (join_with o (counted book text c j e)) s' h b')))))
        (λ t. rw t (variants_same c m n (suc j) set o s h b))

    one_run_same : (c : Call) (m : ℕ) (s : State) → Ready text c →
        Same text c.start (one_run book text f c m s) (one_run book text g c m s)
    unfolding one_run
    one_run_same c m s h =
        variants_same c m (nth_nonterminal book c.nonterminal).count (nth_nonterminal book c.nonterminal).first []
        None s h (nothing_behind text)

    rounds_same : (n : ℕ) (c : Call) (m : ℕ) (s : State) → Ready text c →
        Same text c.start (rounds book text n f c m s) (rounds book text n g c m s)
    unfolding rounds
    rounds_same zero c m s h = same_limit
    rounds_same (suc n) c m s h =
        same_bind text _ _ (one_run_same c m s h) (λ r b.
        by_test (all_in c.mine r.set)
        (λ t. rw t (same_result h.mine))
        (λ t. rw t (same_next text (add_all r.state c.mine r.set) _ _ (λ all joined.
        rounds_same n (with_mine c all) m r.state
        (record { around = h.around; mine = behind_all text r.state c.mine r.set joined h.mine b })))))

    run_call_same : (c : Call) (m : ℕ) (s : State) → Ready text c →
        Same text c.start (run_call book text f c m s) (run_call book text g c m s)
    unfolding run_call
    run_call_same c m s h =
        same_bind text _ _ (one_run_same c m s h) (λ r b.
        list_cases r.set
        (λ empty. rw empty (same_result (nothing_behind text)))
        (λ p ps found. by_test (newest r.state.asked)
        (λ t. rw (found, t)
        (rounds_same most_rounds (with_mine c r.set) m r.state (record { around = h.around; mine = b })))
        (λ t. rw (found, t) (same_result b))))

  -- a name that is read
  named_same : (c : Call) (s : State) →
      Same text c.start (named book text c s (free_end book text c.start))
      (named book text c s (free_end book text c.start))
  unfolding named
  named_same c s =
      option_cases (free_end book text c.start)
      (λ nowhere. rw nowhere (same_result (nothing_behind text)))
      (λ end there. let within = (free_end_within book text c.start end there).0 in
      let l : c.start ≤ end = omega arith in
      rw there (same_next text (make text _ s) _ _ (λ m made.
      same_result (λ p n. subst (λ (z : Parse ℕ). c.start ≤ z.rest) (sym (Memᴰ.eq_of_singleton n)) l))))

  -- ---- What follows a parse
  module _ (c : Call) (h : Ready text c) where
    pub plain_next_like : (j : ℕ) (rest : List (Todo ℕ)) (items : ℕ) →
        LikeNext text c (plain_next book text c j rest items)
    unfolding plain_next
    plain_next_like j rest items q s f g set like l b =
        like_next text (with_cell book text j items q.value s) _ _
        (λ m linked. like c j rest q.rest m.cell set m.state h l b)

    -- behind an element a list goes on, or halts
    pub after_like : (f g : Runner) (j : ℕ) (more last : List (Todo ℕ)) (comma : Bool) (x items : ℕ)
        (set : List (Parse ℕ)) (s : State) → LikeRunner text f g → c.start ≤ x → Behind text c.start set →
        Like text c.start
        (elim (after_element text comma x) [
          | goes y ↦ f c j more y items set s
          | halts y ↦ f c j last y items set s
        ])
        (elim (after_element text comma x) [
          | goes y ↦ g c j more y items set s
          | halts y ↦ g c j last y items set s
        ])
    after_like f g j more last comma x items set s like l b =
        after_cases (after_element text comma x)
        (λ y there. let on : x ≤ y = subst (Onward text x) there (after_onward text comma x) in
        rw there (like c j more y items set s h (omega arith) b))
        (λ y there. let on : x ≤ y = subst (Onward text x) there (after_onward text comma x) in
        rw there (like c j last y items set s h (omega arith) b))

    pub list_next_like : (j : ℕ) (comma : Bool) (M values : ℕ) (close : Option ℕ) (rest : List (Todo ℕ)) (items : ℕ) →
        LikeNext text c (list_next book text c j comma M values close rest items)
    unfolding list_next
    list_next_like j comma M values close rest items q s f g set like l b =
        like_next text (make text (Cell.chain values q.value) s) _ _ (λ m linked.
        after_like f g j (elements comma M m.cell close ∷ rest) (ending m.cell close ∷ rest) comma q.rest items
        set m.state like l b)

    pub stops_like : (j values : ℕ) (close : Option ℕ) (go go' : Go) → LikeGo text c go go' →
        LikeGo text c (stops book text j values close go) (stops book text j values close go')
    unfolding stops
    stops_like j values close go go' like x items set s l b =
        like_next text (make text (Cell.list values) s) _ _ (λ a listed.
        option_cases (closed text close x)
        (λ unclosed. rw unclosed (like_result b (both_same _)))
        (λ y there. let on = closed_forward text close x y there in
        rw there (like_next text (with_cell book text j items a.cell a.state) _ _ (λ m linked.
        like y m.cell set m.state (omega arith) b))))

  -- ---- One level of nesting
  module _ (told : ℕ → ℕ → Error) (there : (u N : ℕ) → (told u N).place ≡ u) (inner inner' : Option Runner)
      (likes : LikeInner text inner inner') where
    nested_same : {u : ℕ} (s : State) (k k' : Runner → Result Parsed) →
        ((f g : Runner) → LikeRunner text f g → Same text u (k f) (k' g)) →
        Same text u (nested book text inner s k) (nested book text inner' s k')
    unfolding nested
    nested_same {u} s k k' h = by likes
      where
        by : {o o' : Option Runner} → LikeInner text o o' →
            Same text u (elim o [ Some run ↦ k run | None ↦ met too_deep s.units ])
            (elim o' [ Some run ↦ k' run | None ↦ met too_deep s.units ])
        by deepest = same_limit
        by (deeper {f} {g} like) = h f g like

    pub nested_like : {u : ℕ} (s : State) (k k' : Runner → Result Parsed) →
        ((f g : Runner) → LikeRunner text f g → Like text u (k f) (k' g)) →
        Like text u (nested book text inner s k) (nested book text inner' s k')
    unfolding nested
    nested_like {u} s k k' h = by likes
      where
        by : {o o' : Option Runner} → LikeInner text o o' →
            Like text u (elim o [ Some run ↦ k run | None ↦ met too_deep s.units ])
            (elim o' [ Some run ↦ k' run | None ↦ met too_deep s.units ])
        by deepest = like_limit
        by (deeper {f} {g} like) = h f g like

    -- at a place where uses around it may begin: then the call that asks begins there too
    module _ (P : Path) (S : List (List (Parse ℕ))) (N u : ℕ) (h : Around text P S u) where
      opened : Ready text (call P S N u [])
      opened = record { around = h; mine = nothing_behind text }

      -- the runs of a call
      called_same : (s : State) (m : ℕ) (f g : Runner) → LikeRunner text f g →
          Same text u
          (run_call book text f (call P S N u []) m (with_asked s (false ∷ s.asked))
          >>= (λ r. ok (parsed r.set r.failure (with_asked r.state (others r.state.asked)))))
          (run_call book text g (call P S N u []) m (with_asked s (false ∷ s.asked))
          >>= (λ r. ok (parsed r.set r.failure (with_asked r.state (others r.state.asked)))))
      called_same s m f g like =
          same_bind text _ _
          (run_call_same f g like (call P S N u []) m (with_asked s (false ∷ s.asked)) opened) (λ r b. same_result b)

      unclaimed_same : (s : State) → claimed book text P u ≡ false →
          Same text u (identifier_with told book text inner (call P S N u []) s)
          (run_identifier book text (call P S N u []) s)
      unfolding identifier_with run_identifier
      unclaimed_same s free = rw free (named_same (call P S N u []) s)

      reentry_like : {v : ℕ} (l : List (Parse ℕ)) (a b : Error) (s : State) → Behind text v l → Alike v a b →
          Like text v (ok (reentry book text inner l a s)) (ok (reentry book text inner' l b s))
      unfolding reentry
      reentry_like [] a b s k alike = like_result k (both alike)
      reentry_like (p ∷ ps) a b s k alike = like_result k neither

      -- a call that no use around it can answer or claim
      pub enter_same : ((f : Use) → within f ∈ P → f.start ≡ u → ⊥) → (s : State) →
          Same text u (enter_with told book text inner P S N u s) (enter book text inner' P S N u s)
      unfolding enter_with enter
      enter_same alone s₀ =
          same_next text (spend s₀) _ _ (λ s spent.
          governor_cases (governor P N u)
          (λ m gov. rw gov (nested_same s _ _ (λ f g like.
          by_test (has_mark book 2 N)
          (λ mark. rw mark (unclaimed_same s unclaimed))
          (λ mark. rw mark (called_same s m f g like)))))
          (λ i f Q gov. absurd (alone f (at_in (gov_at P N u gov)) (gov_start P N u gov))))
        where
          unclaimed : claimed book text P u ≡ false
          unclaimed = by_test (claimed book text P u) (λ t. absurd (claims t)) (λ t. t)
            where
              claims : claimed book text P u ≡ true → ⊥
              claims t =
                  let k =
                  claimant book text P u
                  ((and-eq-true_iff (is_some (variable_at book text (scope_of P) u)) (has_claimant book text P u)).0
                  t).1 in
                  alone k.by k.member k.start

      -- a child's call, of a call that begins at v, where every use around it that begins there makes the call begin
      -- there too
      module _ (v : ℕ) (l : v ≤ u) (starts : (f : Use) → within f ∈ P → f.start ≡ u → u ≡ v) where
        alike_there : (a b : Error) → u ≡ v → a.place ≡ u → b.place ≡ u → Alike v a b
        alike_there a b s h k = record { at = h ∙ sym k; beyond_it = λ far. absurd (omega arith) }

        claimed_like : (s : State) →
            Like text v (identifier_with told book text inner (call P S N u []) s)
            (run_identifier book text (call P S N u []) s)
        unfolding identifier_with run_identifier named failed_call
        claimed_like s =
            by_test (claimed book text P u)
            (λ t. rw t (like_result (nothing_behind text) (both (alike_there _ _ (claims t) (there u N) refl))))
            (λ t. same_like text l (unclaimed_same s t))
          where
            claims : claimed book text P u ≡ true → u ≡ v
            claims t =
                let k =
                claimant book text P u
                ((and-eq-true_iff (is_some (variable_at book text (scope_of P) u)) (has_claimant book text P u)).0 t).1
                in
                starts k.by k.member k.start

        stored : (i : ℕ) (f : Use) (Q : Path) → governor P N u ≡ same_start i f Q →
            Behind text v (kept f (nth S i))
        stored i f Q gov p m =
            let k = (sift_out (keeps f) (nth S i) (subst (λ z. p ∈ z) (kept_sift f (nth S i)) m)).0 in
            let least = h.stored i f Q (gov_at P N u gov) p k in
            let start = gov_start P N u gov in
            omega arith

        enter_like : (s : State) →
            Like text v (enter_with told book text inner P S N u s) (enter book text inner' P S N u s)
        unfolding enter_with enter
        enter_like s₀ =
            like_next text (spend s₀) _ _ (λ s spent.
            governor_cases (governor P N u)
            (λ m gov. rw gov (nested_like s _ _ (λ f g like.
            by_test (has_mark book 2 N)
            (λ mark. rw mark (claimed_like s))
            (λ mark. rw mark (same_like text l (called_same s m f g like))))))
            (λ i f Q gov. rw gov (reentry_like (kept f (nth S i)) _ _ _ (stored i f Q gov)
            (alike_there _ _ (starts f (at_in (gov_at P N u gov)) (gov_start P N u gov)) (there u N) refl))))

    -- ---- A child and what follows its parses
    module _ (c : Call) (h : Ready text c) where
      child_like : (opening : Option (List Entry)) (j M x : ℕ) (s : State) → c.start ≤ x →
          Like text c.start (enter_child_with told book text inner opening c j M x s)
          (enter_child book text inner' opening c j M x s)
      unfolding enter_child_with enter_child
      child_like opening j M x s l =
          let on = skip_forward text x in
          enter_like _ (c.mine ∷ c.stored) M (skip_from text x)
          (around_child book text c h opening j x l) c.start (omega arith)
          (λ f m e. child_at_start book text c h opening j x l f m e) s

      follow_more_like : (next : Next) → LikeNext text c next →
          (qs set : List (Parse ℕ)) (d e : Option Error) (s : State) → Behind text c.start qs →
          Behind text c.start set → Both c.start d e →
          Like text c.start (follow_more book text inner next qs set d s)
          (follow_more book text inner' next qs set e s)
      unfolding follow_more
      follow_more_like next like [] set d e s q b k = like_result b k
      follow_more_like next like (p ∷ qs) set d e s q b k =
          like_bind text _ _
          (nested_like s _ _ (λ f g runs. like p s f g set runs (q p (Memᴰ.head refl)) b)) (λ more s' d' e' b' k'.
          follow_more_like next like qs more (eitherError d d') (eitherError e e') s' (λ o m. q o (Memᴰ.tail m)) b'
          (both_either c.start k k'))

      follow_like : (next : Next) → LikeNext text c next → (qs set : List (Parse ℕ)) (s : State) →
          Behind text c.start qs → Behind text c.start set →
          Like text c.start (follow book text inner next qs set s) (follow book text inner' next qs set s)
      unfolding follow
      follow_like next like [] set s q b = like_result b neither
      follow_like next like (p ∷ qs) set s q b =
          like_bind text _ _
          (nested_like s _ _ (λ f g runs. like p s f g set runs (q p (Memᴰ.head refl)) b)) (λ more s' d' e' b' k'.
          follow_more_like next like qs more d' e' s' (λ o m. q o (Memᴰ.tail m)) b' k')

      followed_like : (next : Next) → LikeNext text c next →
          (set qs : List (Parse ℕ)) (s : State) {d e : Option Error} → Behind text c.start set →
          Behind text c.start qs → Both c.start d e →
          Like text c.start (followed book text inner next set (parsed qs d s))
          (followed book text inner' next set (parsed qs e s))
      unfolding followed
      followed_like next like set qs s b q neither = follow_like next like qs set s q b
      followed_like next like set qs s b q (both k) = like_result b (both k)

      pub child_followed_like : (opening : Option (List Entry)) (j M x : ℕ) (next : Next) → LikeNext text c next →
          (set : List (Parse ℕ)) (s : State) → c.start ≤ x → Behind text c.start set →
          Like text c.start
          (enter_child_with told book text inner opening c j M x s >>= (λ r. followed book text inner next set r))
          (enter_child book text inner' opening c j M x s >>= (λ r. followed book text inner' next set r))
      child_followed_like opening j M x next like set s l b =
          like_bind text _ _ (child_like opening j M x s l) (λ qs s' d e q k.
          followed_like next like set qs s' b q k)

      -- both sides of a choice, after the first
      pub sides_like : (j M x : ℕ) (next : Next) → LikeNext text c next →
          (set : List (Parse ℕ)) (s : State) {d e : Option Error} → c.start ≤ x → Behind text c.start set →
          Both c.start d e →
          Like text c.start
          (enter_child_with told book text inner None c j M x s
          >>= (λ r. followed book text inner next set r >>= (λ b. ok (chosen c (skip_from text x) d b))))
          (enter_child book text inner' None c j M x s
          >>= (λ r. followed book text inner' next set r >>= (λ b. ok (chosen c (skip_from text x) e b))))
      sides_like j M x next like set s l b k =
          let on = skip_forward text x in
          like_bind text _ _ (child_like None j M x s l) (λ qs s' d' e' q k'.
          like_bind text _ _ (followed_like next like set qs s' b q k') (λ more s'' d'' e'' b'' k''.
          chosen_like c (skip_from text x) more s'' (omega arith) k b'' k''))
