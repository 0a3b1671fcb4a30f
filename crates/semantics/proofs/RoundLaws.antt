-- The rounds of a call never run out: 65 are as good as any larger number.
use Rattle.std.specs.Prelude.{◌≡◌, true, false, List, [], ◌∷◌, ◌++◌, ℕ, zero, suc, ◌+◌, ◌≤◌, ◌<◌, ltb, length}
use Rattle.std.proofs.Math.Path.{refl}
use Rattle.std.proofs.Common.{sym, ◌∙◌, arith, length-append, ltb-true}
use Rattle.characters.specs.Cases.{by_test, clash}
use Rattle.book.specs.Book.{Book}
use Rattle.semantics.specs.Values.{Parse}
use Rattle.semantics.specs.Run.{Result, met, ok, ◌>>=◌, State, Call, with_mine, has, all_in, add, add_all, Runner}
use Rattle.semantics.specs.Run.{one_run, rounds}

-- what follows a result agrees if it agrees where there is one
bind_same : {A B : Type 0} (x : Result A) (f g : A → Result B) →
    ((a : A) → x ≡ ok a → f a ≡ g a) → (x >>= f) ≡ (x >>= g)
unfolding ◌>>=◌
bind_same (met number units) f g h = refl
bind_same (ok a) f g h = h a refl

-- ---- One parse
add_known : (s : State) (set : List (Parse ℕ)) (p : Parse ℕ) → has set p ≡ true → add s set p ≡ ok set
unfolding add
add_known s set p h = rw h

add_new : (s : State) (set : List (Parse ℕ)) (p : Parse ℕ) → has set p ≡ false → ltb (length set) 64 ≡ true →
    add s set p ≡ ok (set ++ (p ∷ []))
unfolding add
add_new s set p h t = rw (h, t)

add_full : (s : State) (set : List (Parse ℕ)) (p : Parse ℕ) → has set p ≡ false → ltb (length set) 64 ≡ false →
    add s set p ≡ met 22 s.units
unfolding add
add_full s set p h t = rw (h, t)

-- ---- Several
record Kept (set all : List (Parse ℕ)) : Type 0 where
  least : length set ≤ length all
  most : length all ≤ 64

record Grown (set all : List (Parse ℕ)) : Type 0 where
  longer : length set < length all
  most : length all ≤ 64

module _ (s : State) where
  first : (set more : List (Parse ℕ)) (p : Parse ℕ) (ps : List (Parse ℕ)) → add s set p ≡ ok more →
      add_all s set (p ∷ ps) ≡ add_all s more ps
  unfolding add_all ◌>>=◌
  first set more p ps e = rw e

  stopped : (set : List (Parse ℕ)) (p : Parse ℕ) (ps : List (Parse ℕ)) → add s set p ≡ met 22 s.units →
      add_all s set (p ∷ ps) ≡ met 22 s.units
  unfolding add_all ◌>>=◌
  stopped set p ps e = rw e

  same_of : {set all : List (Parse ℕ)} → add_all s set [] ≡ ok all → set ≡ all
  unfolding add_all
  same_of e = cc

  kept_all : (ps set all : List (Parse ℕ)) → add_all s set ps ≡ ok all → length set ≤ 64 → Kept set all
  kept_all [] set all e h =
      let same = same_of e in let l : length set ≡ length all = cc in record { least = omega arith; most = omega arith }
  kept_all (p ∷ ps) set all e h =
      by_test (has set p)
      (λ known. kept_all ps set all (sym (first set set p ps (add_known s set p known)) ∙ e) h)
      (λ new.
      by_test (ltb (length set) 64)
      (λ t.
      let l = length-append set (p ∷ []) in
      let less = ltb-true (length set) 64 t in
      let k =
      kept_all ps (set ++ (p ∷ [])) all
      (sym (first set (set ++ (p ∷ [])) p ps (add_new s set p new t)) ∙ e) (omega arith) in
      let least = k.least in
      record { least = omega arith; most = k.most })
      (λ t.
      let full = stopped set p ps (add_full s set p new t) in let z : ◌≡◌ {A = ℕ} 0 1 = cc in absurd (omega arith)))

  all_first : (set : List (Parse ℕ)) (p : Parse ℕ) (ps : List (Parse ℕ)) → has set p ≡ true →
      all_in set (p ∷ ps) ≡ all_in set ps
  unfolding all_in
  all_first set p ps h = rw h

  all_none : (set : List (Parse ℕ)) → all_in set [] ≡ true
  unfolding all_in
  all_none set = refl

  -- if not all of them were there, the set grows, and to 64 at most
  grows : (ps set all : List (Parse ℕ)) → add_all s set ps ≡ ok all → all_in set ps ≡ false → Grown set all
  grows [] set all e missing = clash (all_none set) missing
  grows (p ∷ ps) set all e missing =
      by_test (has set p)
      (λ known.
      grows ps set all (sym (first set set p ps (add_known s set p known)) ∙ e)
      (sym (all_first set p ps known) ∙ missing))
      (λ new.
      by_test (ltb (length set) 64)
      (λ t.
      let l = length-append set (p ∷ []) in
      let less = ltb-true (length set) 64 t in
      let k =
      kept_all ps (set ++ (p ∷ [])) all
      (sym (first set (set ++ (p ∷ [])) p ps (add_new s set p new t)) ∙ e) (omega arith) in
      let least = k.least in
      record { longer = omega arith; most = k.most })
      (λ t.
      let full = stopped set p ps (add_full s set p new t) in let z : ◌≡◌ {A = ℕ} 0 1 = cc in absurd (omega arith)))

-- ---- Rounds
module _ (book : Book) (text : List ℕ) (run : Runner) (m : ℕ) where
  abbrev enough : ℕ → Call → State → Type 0
  enough n c s = rounds book text n run c m s ≡ rounds book text (suc n) run c m s

  round : (n : ℕ) (c : Call) (s : State) →
      ((all : List (Parse ℕ)) (t : State) → Grown c.mine all → enough n (with_mine c all) t) → enough (suc n) c s
  unfolding rounds
  round n c s next =
      bind_same (one_run book text run c m s) _ _ (λ r e.
      by_test (all_in c.mine r.set)
      (λ t. rw t)
      (λ t. rw t (bind_same (add_all r.state c.mine r.set) _ _ (λ all told.
      next all r.state (grows r.state r.set c.mine all told t)))))

  -- a round more changes nothing
  pub one_more : (n : ℕ) (c : Call) (s : State) → 64 < suc n + length c.mine → enough (suc n) c s
  one_more zero c s h = round zero c s (λ all t g. let longer = g.longer in let most = g.most in absurd (omega arith))
  one_more (suc n) c s h =
      round (suc n) c s (λ all t g. let longer = g.longer in one_more n (with_mine c all) t (omega arith))

  -- so 65 rounds are as good as any larger number
  pub rounds_suffice : (k : ℕ) (c : Call) (s : State) →
      rounds book text 65 run c m s ≡ rounds book text (k + 65) run c m s
  rounds_suffice zero c s = refl
  rounds_suffice (suc k) c s =
      let before : k + 65 ≡ suc (k + 64) = omega arith in
      let after : suc k + 65 ≡ suc (suc (k + 64)) = omega arith in
      rounds_suffice k c s ∙ rw (before, after) (one_more (k + 64) c s (omega arith))
