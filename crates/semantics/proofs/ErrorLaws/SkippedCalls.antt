-- Of a call, of a child and of what follows its parses: that errors stand at skipped places, and parses end behind the
-- call's start. The plan is in ErrorLaws/Skipped.
use Rattle.std.specs.Prelude.{◌≡◌, refl, Bool, leb}
use Rattle.std.proofs.Common.{sym, ◌∙◌}
use Rattle.std.proofs.Math.Path.{subst}
use mathlib.Core.List.Memᴰ
use mathlib.Core.List.{List, [], ◌∷◌}
use Rattle.std.specs.Prelude.{Option, None, Some}
use Prim.Native.Nat.{ℕ, zero, suc, ◌≤◌}
use native.Mathlib.Omega.{arith}
use Rattle.characters.specs.Cases.{by_test}
use Rattle.characters.specs.Skipping.{skip_from}
use Rattle.characters.proofs.SkippingLaws.{skip_forward, skip_twice}
use Rattle.book.specs.Book.{Entry, Book, nth_nonterminal, nth_variant}
use Rattle.semantics.specs.Numbers.{most_rounds, nonterminal_wanted}
use Rattle.semantics.specs.Values.{Parse}
use Rattle.semantics.specs.Uses.{Use, Path, behind_any, within, use_of, has_mark, same_start, governor, keeps}
use Rattle.semantics.specs.Tokens.{free_end, claimed}
use Rattle.semantics.specs.Steps.{goes, halts, after_element, closed, Todo, elements, ending, todo_of}
use Rattle.semantics.specs.Errors.{Error, error}
use Rattle.semantics.specs.Run.{Result, ok, ◌>>=◌, State, Parsed, Call, call, with_mine, Runner, Go, Next}
use Rattle.semantics.specs.Run.{all_in, kept, newest, failed_call, chosen, complete, variants, one_run, rounds}
use Rattle.semantics.specs.Run.{run_call, named, run_identifier, plain_next, list_next}
use Rattle.semantics.specs.Run.{stops, nested, reentry, enter, enter_child, follow_more, follow, followed}
use Rattle.semantics.proofs.Theorem.Lists.{◌∈◌, sift_out, nth}
use Rattle.semantics.proofs.Theorem.Results.{met_ok, after, option_cases, list_cases}
use Rattle.semantics.proofs.Theorem.Results.{governor_cases, after_cases, nested_run}
use Rattle.semantics.proofs.Theorem.Sets.{kept_sift}
use Rattle.semantics.proofs.Theorem.Sound.{At, here, there, gov_at}
use Rattle.semantics.proofs.Theorem.Tokens.{free_end_within}
use Rattle.semantics.proofs.ErrorLaws.Places.{gov_start, closed_forward, Onward, after_onward, same_begin}
use Rattle.semantics.proofs.ErrorLaws.Places.{behind_any_in}
use Rattle.semantics.proofs.ErrorLaws.Gives.{Skipped, Fails, no_error_lem, join_with_fails, either_fails}
use Rattle.semantics.proofs.ErrorLaws.Gives.{failed_call_skipped, counted_fails, Behind, Gives, Around, Ready}
use Rattle.semantics.proofs.ErrorLaws.Gives.{nothing_behind, behind_add, behind_all, gives_ok, gives_set}
use Rattle.semantics.proofs.ErrorLaws.Gives.{gives_error, chosen_gives, around_any}

module _ (book : Book) (text : List ℕ) where
  -- the law of what is left of a variant
  abbrev pub Good : Runner → Type 0
  Good f =
      (c : Call) (j : ℕ) (todo : List (Todo ℕ)) (x items : ℕ) (set : List (Parse ℕ)) (s : State) (r : Parsed) →
      Ready text c → c.start ≤ x →
      Behind text c.start set → f c j todo x items set s ≡ ok r → Gives text c.start r

  pub complete_gives : {u : ℕ} (j x items : ℕ) (set : List (Parse ℕ)) (s : State) (r : Parsed) → u ≤ x →
      Behind text u set → complete book text j x items set s ≡ ok r → Gives text u r
  unfolding complete
  complete_gives {u} j x items set s r l b e =
      after _ _ e (λ m valued next. after _ _ next (λ more joined is.
      gives_ok text is (gives_set text (behind_add text m.state set _ joined b l))))

  -- ---- A call
  module _ (f : Runner) (good : Good f) where
    variants_give : (c : Call) (m n j : ℕ) (set : List (Parse ℕ)) (d : Option Error) (s : State) (r : Parsed) →
        Ready text c → Behind text c.start set →
        Fails text d → variants book text f c m n j set d s ≡ ok r → Gives text c.start r
    unfolding variants
    variants_give c m zero j set d s r h b k e = gives_ok text e (record { set = b; failure = k })
    variants_give c m (suc n) j set d s r h b k e =
        by_test (leb m (nth_variant book j).level)
        (λ t. after _ _ (rw t at e) (λ a begun next. after _ _ next (λ o ran others.
        let g =
        good c j (todo_of book (nth_variant book j)) c.start a.cell set a.state o h (omega arith) b ran in
        variants_give c m n (suc j) o.set _ o.state r h g.set
        (join_with_fails text d _ k (counted_fails text book c j o.failure g.failure)) others)))
        (λ t. variants_give c m n (suc j) set d s r h b k (rw t at e))

    one_run_gives : (c : Call) (m : ℕ) (s : State) (r : Parsed) → Ready text c →
        one_run book text f c m s ≡ ok r → Gives text c.start r
    unfolding one_run
    one_run_gives c m s r h e =
        variants_give c m (nth_nonterminal book c.nonterminal).count (nth_nonterminal book c.nonterminal).first []
        None s r h (nothing_behind text) no_error_lem e

    rounds_give : (n : ℕ) (c : Call) (m : ℕ) (s : State) (r : Parsed) → Ready text c →
        rounds book text n f c m s ≡ ok r → Gives text c.start r
    unfolding rounds
    rounds_give zero c m s r h e = absurd (met_ok e)
    rounds_give (suc n) c m s r h e =
        after _ _ e (λ a ran next.
        let g = one_run_gives c m s a h ran in
        by_test (all_in c.mine a.set)
        (λ t. gives_ok text (rw t at next) (gives_set text h.mine))
        (λ t. after _ _ (rw t at next) (λ all joined more.
        rounds_give n (with_mine c all) m a.state r
        (record { around = h.around; mine = behind_all text a.state c.mine a.set joined h.mine g.set })
        more)))

    run_call_gives : (c : Call) (m : ℕ) (s : State) (r : Parsed) → Ready text c →
        run_call book text f c m s ≡ ok r → Gives text c.start r
    unfolding run_call
    run_call_gives c m s r h e =
        after _ _ e (λ a ran next.
        let g = one_run_gives c m s a h ran in
        list_cases a.set
        (λ empty. gives_ok text (rw empty at next) (gives_error text (nothing_behind text)
        (failed_call_skipped text c a.failure h.around.skipped g.failure)))
        (λ p ps found. by_test (newest a.state.asked)
        (λ t.
        rounds_give most_rounds (with_mine c a.set) m a.state r (record { around = h.around; mine = g.set })
        (rw t at (rw found at next)))
        (λ t. gives_ok text (rw t at (rw found at next)) (gives_set text g.set))))

  identifier_gives : (c : Call) (s : State) (r : Parsed) → Ready text c →
      run_identifier book text c s ≡ ok r → Gives text c.start r
  unfolding run_identifier named failed_call
  identifier_gives c s r h e =
      by_test (claimed book text c.path c.start)
      (λ t. gives_ok text (rw t at e) (gives_error text (nothing_behind text) h.around.skipped))
      (λ t. option_cases (free_end book text c.start)
      (λ nowhere.
      gives_ok text (rw nowhere at (rw t at e)) (gives_error text (nothing_behind text) h.around.skipped))
      (λ end there. after _ _ (rw there at (rw t at e)) (λ m made is.
      let less = (free_end_within book text c.start end there).0 in
      let enough : c.start ≤ end = omega arith in
      gives_ok text is (gives_set text (λ p n.
      subst (λ (z : Parse ℕ). c.start ≤ z.rest) (sym (Memᴰ.eq_of_singleton n)) enough)))))

  -- ---- What follows a parse
  abbrev pub GoodGo : Call → Go → Type 0
  GoodGo c go =
      (x items : ℕ) (set : List (Parse ℕ)) (s : State) (r : Parsed) → c.start ≤ x → Behind text c.start set →
      go x items set s ≡ ok r → Gives text c.start r

  abbrev pub GoodNext : Call → Next → Type 0
  GoodNext c next =
      (q : Parse ℕ) (s : State) (f : Runner) (set : List (Parse ℕ)) (r : Parsed) → Good f → c.start ≤ q.rest →
      Behind text c.start set → next q s f set ≡ ok r → Gives text c.start r

  -- what a child at a place stands in, and behind
  abbrev pub child_path : Option (List Entry) → Call → ℕ → ℕ → Path
  child_path opening c j x =
      behind_any opening (within (use_of book c.nonterminal c.start j (skip_from text x)) ∷ c.path)

  -- a step is skipped to, and never back
  module _ (c : Call) (h : Ready text c) where
    -- no use around the child begins after it
    pub around_child : (opening : Option (List Entry)) (j x : ℕ) → c.start ≤ x →
        Around text (child_path opening c j x) (c.mine ∷ c.stored) (skip_from text x)
    around_child opening j x l =
        let on = skip_forward text x in
        around_any text opening (record {
          skipped = skip_twice text x;
          starts = λ f m. begins (omega arith) f m;
          stored = λ i f Q a. sets i f Q a;
        })
      where
        begins : {u : ℕ} → c.start ≤ u → (f : Use) → within f ∈ child_path None c j x → f.start ≤ u
        begins k f (Memᴰ.head e) = let is = same_begin e in omega arith
        begins k f (Memᴰ.tail m) = let less = h.around.starts f m in omega arith

        sets : (i : ℕ) (f : Use) (Q : Path) → At (child_path None c j x) i f Q →
            Behind text f.start (nth (c.mine ∷ c.stored) i)
        sets zero f Q here = h.mine
        sets (suc i) f Q (there a) = h.around.stored i f Q a

    -- if a use around the child begins where the child does, so does the call
    pub child_at_start : (opening : Option (List Entry)) (j x : ℕ) → c.start ≤ x → (f : Use) →
        within f ∈ child_path opening c j x → f.start ≡ skip_from text x → skip_from text x ≡ c.start
    child_at_start opening j x l f m s = by (behind_any_in opening m)
      where
        by : within f ∈ child_path None c j x → skip_from text x ≡ c.start
        by (Memᴰ.head e) = sym s ∙ same_begin e
        by (Memᴰ.tail n) =
            let less = h.around.starts f n in let on = skip_forward text x in omega arith

    pub plain_next_good : (j : ℕ) (rest : List (Todo ℕ)) (items : ℕ) → GoodNext c (plain_next book text c j rest items)
    unfolding plain_next
    plain_next_good j rest items q s f set r good l b e =
        after _ _ e (λ m linked ran. good c j rest q.rest m.cell set m.state r h l b ran)

    -- behind an element a list goes on, or halts
    pub after_gives : (f : Runner) (j : ℕ) (more last : List (Todo ℕ)) (comma : Bool) (x items : ℕ)
        (set : List (Parse ℕ)) (s : State) (r : Parsed) → Good f → c.start ≤ x → Behind text c.start set →
        elim (after_element text comma x) [
          | goes y ↦ f c j more y items set s
          | halts y ↦ f c j last y items set s
        ] ≡ ok r → Gives text c.start r
    after_gives f j more last comma x items set s r good l b e =
        after_cases (after_element text comma x)
        (λ y there. let on : x ≤ y = subst (Onward text x) there (after_onward text comma x) in
        good c j more y items set s r h (omega arith) b (rw there at e))
        (λ y there. let on : x ≤ y = subst (Onward text x) there (after_onward text comma x) in
        good c j last y items set s r h (omega arith) b (rw there at e))

    pub list_next_good : (j : ℕ) (comma : Bool) (M values : ℕ) (close : Option ℕ) (rest : List (Todo ℕ)) (items : ℕ) →
        GoodNext c (list_next book text c j comma M values close rest items)
    unfolding list_next
    list_next_good j comma M values close rest items q s f set r good l b e =
        after _ _ e (λ m linked ran.
        after_gives f j (elements comma M m.cell close ∷ rest) (ending m.cell close ∷ rest) comma q.rest items
        set m.state r good l b ran)

    pub stops_give : (j values : ℕ) (close : Option ℕ) (go : Go) → GoodGo c go →
        GoodGo c (stops book text j values close go)
    unfolding stops
    stops_give j values close go good x items set s r l b e =
        after _ _ e (λ a listed next.
        option_cases (closed text close x)
        (λ unclosed. gives_ok text (rw unclosed at next) (gives_error text b (skip_twice text x)))
        (λ y there. let on = closed_forward text close x y there in
        after _ _ (rw there at next) (λ m linked ran. good y m.cell set m.state r (omega arith) b ran)))

  -- ---- One level of nesting
  module _ (inner : Option Runner) (goods : (f : Runner) → inner ≡ Some f → Good f) where
    reentry_gives : {u : ℕ} (l : List (Parse ℕ)) (d : Error) (s : State) → Behind text u l → Skipped text d.place →
        Gives text u (reentry book text inner l d s)
    unfolding reentry
    reentry_gives [] d s b h = gives_error text b h
    reentry_gives (p ∷ ps) d s b h = gives_set text b

    pub enter_gives : (P : Path) (S : List (List (Parse ℕ))) (N u : ℕ) (s : State) (r : Parsed) → Around text P S u →
        enter book text inner P S N u s ≡ ok r → Gives text u r
    unfolding enter
    enter_gives P S N u s₀ r h e =
        after _ _ e (λ s spent next.
        governor_cases (governor P N u)
        (λ m gov. nested_run book text inner s _ (rw gov at next) (λ f there ran. by_test (has_mark book 2 N)
        (λ mark. identifier_gives (call P S N u []) s r opened (rw mark at ran))
        (λ mark. after _ _ (rw mark at ran) (λ a called is.
        let o = run_call_gives f (goods f there) (call P S N u []) m _ a opened called in
        gives_ok text is (record { set = o.set; failure = o.failure })))))
        (λ i f Q gov. gives_ok text (rw gov at next)
        (reentry_gives (kept f (nth S i)) (error u nonterminal_wanted N) _ (stored i f Q gov) h.skipped)))
      where
        opened : Ready text (call P S N u [])
        opened = record { around = h; mine = nothing_behind text }

        stored : (i : ℕ) (f : Use) (Q : Path) → governor P N u ≡ same_start i f Q →
            Behind text u (kept f (nth S i))
        stored i f Q gov p m =
            let k = (sift_out (keeps f) (nth S i) (subst (λ l. p ∈ l) (kept_sift f (nth S i)) m)).0 in
            subst (λ v. v ≤ p.rest) (gov_start P N u gov) (h.stored i f Q (gov_at P N u gov) p k)

    -- ---- A child and what follows its parses
    module _ (c : Call) (h : Ready text c) where
      -- one parse is followed, and then the others
      one_gives : (next : Next) → GoodNext c next →
          (q : Parse ℕ) (set : List (Parse ℕ)) (s : State) (r : Parsed) (k : Parsed → Result Parsed) →
          c.start ≤ q.rest → Behind text c.start set →
          (nested book text inner s (λ f. next q s f set) >>= k) ≡ ok r →
          ((a : Parsed) → Gives text c.start a → k a ≡ ok r → Gives text c.start r) → Gives text c.start r
      one_gives next good q set s r k l b e others =
          after _ _ e (λ a first_ran then_ran. nested_run book text inner s _ first_ran (λ f there ran.
          others a (good q s f set a (goods f there) l b ran) then_ran))

      follow_more_gives : (next : Next) → GoodNext c next →
          (qs set : List (Parse ℕ)) (d : Option Error) (s : State) (r : Parsed) → Behind text c.start qs →
          Behind text c.start set → Fails text d →
          follow_more book text inner next qs set d s ≡ ok r → Gives text c.start r
      unfolding follow_more
      follow_more_gives next good [] set d s r q b k e = gives_ok text e (record { set = b; failure = k })
      follow_more_gives next good (p ∷ qs) set d s r q b k e =
          one_gives next good p set s r _ (q p (Memᴰ.head refl)) b e (λ a g ran.
          follow_more_gives next good qs a.set _ a.state r (λ o m. q o (Memᴰ.tail m)) g.set
          (either_fails text d a.failure k g.failure) ran)

      follow_gives : (next : Next) → GoodNext c next → (qs set : List (Parse ℕ)) (s : State) (r : Parsed) →
          Behind text c.start qs → Behind text c.start set →
          follow book text inner next qs set s ≡ ok r → Gives text c.start r
      unfolding follow
      follow_gives next good [] set s r q b e = gives_ok text e (gives_set text b)
      follow_gives next good (p ∷ qs) set s r q b e =
          one_gives next good p set s r _ (q p (Memᴰ.head refl)) b e (λ a g ran.
          follow_more_gives next good qs a.set a.failure a.state r (λ o m. q o (Memᴰ.tail m))
          g.set g.failure ran)

      followed_gives : (next : Next) → GoodNext c next → (set : List (Parse ℕ)) (a r : Parsed) →
          Behind text c.start set → Gives text c.start a →
          followed book text inner next set a ≡ ok r → Gives text c.start r
      unfolding followed
      followed_gives next good set a r b g e =
          option_cases a.failure
          (λ fine. follow_gives next good a.set set a.state r g.set b (rw fine at e))
          (λ d failed.
          gives_ok text (rw failed at e) (record { set = b; failure = subst (Fails text) failed g.failure }))

      pub child_gives : (opening : Option (List Entry)) (j M x : ℕ) (next : Next) → GoodNext c next →
          (set : List (Parse ℕ)) (s : State) (a r : Parsed) → c.start ≤ x → Behind text c.start set →
          enter_child book text inner opening c j M x s ≡ ok a →
          followed book text inner next set a ≡ ok r → Gives text c.start r
      unfolding enter_child
      child_gives opening j M x next good set s a r l b entered e =
          let on = skip_forward text x in
          let g =
          enter_gives _ (c.mine ∷ c.stored) M (skip_from text x) s a (around_child c h opening j x l) entered in
          followed_gives next good set a r b
          (record { set = λ p m. let k = g.set p m in omega arith; failure = g.failure }) e

      -- both sides of a choice
      pub sides_give : (j M x : ℕ) (next : Next) (s : State) (a b d : Parsed) → GoodNext c next → c.start ≤ x →
          Gives text c.start a →
          enter_child book text inner None c j M x s ≡ ok b → followed book text inner next a.set b ≡ ok d →
          Gives text c.start (chosen c (skip_from text x) a.failure d)
      sides_give j M x next s a b d good l g entered e =
          chosen_gives text c (skip_from text x) a.failure d (skip_twice text x) g.failure
          (child_gives None j M x next good a.set s b d l g.set entered e)
