-- Document 02 g: the laws of the furthest error, for all errors and lists.
--
--   furthest_only      a list has no more than one furthest, least member
--   grouping_furthest  errors joined in any order and grouping give the furthest, least member of any list that has
--                      just these errors: "joining any nonempty list gives its furthest, least member"
--   groupings_agree    so two groupings of the same errors give the same error
--   join_furthest      two errors joined give the furthest, least of the two
--   join_associative, join_commutative, join_same
-- Before them: one_furthest, both_furthest and furthest_same, by which a list under way is judged; same_error.
-- Not here: which errors the run joins (Run), and that errors stand at skipped places (ErrorLaws).
use Rattle.std.specs.Prelude.{◌≡◌, refl, List, [], ◌∷◌, ◌++◌, ◌⊎◌, ℕ, leb, ltb, eqb}
use Rattle.std.proofs.Common.{sym, subst, inl, inr, arith, ltb-true, ltb-false, leb-true, leb-false, eqb-true}
use mathlib.Core.List.Memᴰ
use Rattle.std.proofs.lemmas.Bool.{eqb-false}
use Rattle.characters.specs.Cases.{by_test}
use Rattle.semantics.specs.Errors.{Error, error, join}
use Rattle.semantics.specs.Furthest.{◌∈◌, NoBetter, Furthest, Grouping, one, two, leaves, joined, SameMembers}

-- ---- It is the only one
same_numbers : {p q k l a b : ℕ} → p ≡ q → k ≡ l → a ≡ b → error p k a ≡ error q l b
same_numbers e f g = cc

pub same_error : (e x : Error) → e.place ≡ x.place → e.kind ≡ x.kind → e.argument ≡ x.argument → e ≡ x
same_error e x p k a = same_numbers p k a

no_better_both : (e x : Error) → NoBetter e x → NoBetter x e → e ≡ x
no_better_both e x h g =
    let hp = h.place in
    let gp = g.place in
    let p : e.place ≡ x.place = omega arith in
    let hk = h.kind (sym p) in
    let gk = g.kind p in
    let k : e.kind ≡ x.kind = omega arith in
    let ha = h.argument (sym p) (sym k) in
    let ga = g.argument p k in
    same_error e x p k (omega arith)

pub furthest_only : (es : List Error) (e x : Error) → Furthest es e → Furthest es x → e ≡ x
furthest_only es e x h g = no_better_both e x (h.others x g.member) (g.others e h.member)

-- ---- Two errors joined
no_better_self : (e : Error) → NoBetter e e
no_better_self e = record { place = omega arith; kind = λ p. omega arith; argument = λ p k. omega arith }

no_better_trans : (e x y : Error) → NoBetter e x → NoBetter x y → NoBetter e y
no_better_trans e x y h g =
    let hp = h.place in
    let gp = g.place in
    record {
      place = omega arith;
      kind = λ p.
          let px : x.place ≡ e.place = omega (arith, p) in
          let py : y.place ≡ x.place = omega (arith, p) in
          let hk = h.kind px in
          let gk = g.kind py in
          omega arith;
      argument = λ p k.
          let px : x.place ≡ e.place = omega (arith, p) in
          let py : y.place ≡ x.place = omega (arith, p) in
          let hk = h.kind px in
          let gk = g.kind py in
          let kx : x.kind ≡ e.kind = omega (arith, k) in
          let ky : y.kind ≡ x.kind = omega (arith, k) in
          let ha = h.argument px kx in
          let ga = g.argument py ky in
          omega arith;
    }

-- the first is kept and the second no better, or the other way round
join_cases : {P : Type 0} (a b : Error) → (join a b ≡ a → NoBetter a b → P) → (join a b ≡ b → NoBetter b a → P) → P
unfolding join
join_cases a b first second =
    by_test (ltb b.place a.place)
    (λ t.
    let l = ltb-true b.place a.place t in
    first (rw t) record {
      place = omega arith;
      kind = λ p. absurd (omega (arith, p));
      argument = λ p k. absurd (omega (arith, p));
    })
    (λ t.
    let l = ltb-false b.place a.place t in
    by_test (eqb a.place b.place)
    (λ u.
    let p = eqb-true a.place b.place u in
    by_test (ltb a.kind b.kind)
    (λ v.
    let m = ltb-true a.kind b.kind v in
    first (rw (t, u, v)) record {
      place = omega (arith, p);
      kind = λ q. omega arith;
      argument = λ q k. absurd (omega (arith, k));
    })
    (λ v.
    let m = ltb-false a.kind b.kind v in
    by_test (eqb a.kind b.kind)
    (λ w.
    let k = eqb-true a.kind b.kind w in
    by_test (leb a.argument b.argument)
    (λ x.
    let n = leb-true a.argument b.argument x in
    first (rw (t, u, v, w, x)) record {
      place = omega (arith, p);
      kind = λ q. omega (arith, k);
      argument = λ q r. omega arith;
    })
    (λ x.
    let n = leb-false a.argument b.argument x in
    second (rw (t, u, v, w, x)) record {
      place = omega (arith, p);
      kind = λ q. omega (arith, k);
      argument = λ q r. omega arith;
    }))
    (λ w.
    let d = eqb-false a.kind b.kind w in
    second (rw (t, u, v, w)) record {
      place = omega (arith, p);
      kind = λ q. omega arith;
      argument = λ q r. absurd (d r);
    })))
    (λ u.
    let d = eqb-false a.place b.place u in
    second (rw (t, u)) record {
      place = omega arith;
      kind = λ q. absurd (d q);
      argument = λ q r. absurd (d q);
    }))

-- ---- Lists of errors
in_first : {e : Error} {es : List Error} (xs : List Error) → e ∈ es → e ∈ (es ++ xs)
in_first xs (Memᴰ.head d) = Memᴰ.head d
in_first xs (Memᴰ.tail m) = Memᴰ.tail (in_first xs m)

in_second : {e : Error} (es : List Error) {xs : List Error} → e ∈ xs → e ∈ (es ++ xs)
in_second [] m = m
in_second (y ∷ es) m = Memᴰ.tail (in_second es m)

in_either : {e : Error} (es : List Error) {xs : List Error} → e ∈ (es ++ xs) → (e ∈ es) ⊎ (e ∈ xs)
in_either [] m = inr m
in_either (y ∷ es) (Memᴰ.head d) = inl (Memᴰ.head d)
in_either (y ∷ es) (Memᴰ.tail m) = more (in_either es m)
  where
    more : {e : Error} {xs : List Error} → (e ∈ es) ⊎ (e ∈ xs) → (e ∈ (y ∷ es)) ⊎ (e ∈ xs)
    more (inl n) = inl (Memᴰ.tail n)
    more (inr n) = inr n

-- what is furthest of two lists, joined, is furthest of both together
pub both_furthest : (es xs : List Error) (a b : Error) → Furthest es a → Furthest xs b → Furthest (es ++ xs) (join a b)
both_furthest es xs a b h g =
    join_cases a b
    (λ e less. subst (λ (c : Error). Furthest (es ++ xs) c) (sym e) record {
      member = in_first xs h.member;
      others = λ x m. by_side x (λ n. h.others x n) (λ n. no_better_trans a b x less (g.others x n)) (in_either es m);
    })
    (λ e less. subst (λ (c : Error). Furthest (es ++ xs) c) (sym e) record {
      member = in_second es g.member;
      others = λ x m. by_side x (λ n. no_better_trans b a x less (h.others x n)) (λ n. g.others x n) (in_either es m);
    })
  where
    by_side : {P : Type 0} (x : Error) → (x ∈ es → P) → (x ∈ xs → P) → (x ∈ es) ⊎ (x ∈ xs) → P
    by_side x f k (inl n) = f n
    by_side x f k (inr n) = k n

pub one_furthest : (e : Error) → Furthest (e ∷ []) e
one_furthest e = record {
  member = Memᴰ.head refl;
  others = λ x m. alone x m;
}
  where
    alone : (x : Error) → x ∈ (e ∷ []) → NoBetter e x
    alone x (Memᴰ.head d) = subst (λ (y : Error). NoBetter e y) (sym d) (no_better_self e)
    alone x (Memᴰ.tail m) = absurd (Memᴰ.not-nil m)

leaves_furthest : (g : Grouping) → Furthest (leaves g) (joined g)
unfolding leaves joined
leaves_furthest (one e) = one_furthest e
leaves_furthest (two g h) =
    both_furthest (leaves g) (leaves h) (joined g) (joined h) (leaves_furthest g) (leaves_furthest h)

pub furthest_same : (es xs : List Error) (e : Error) → SameMembers es xs → Furthest es e → Furthest xs e
furthest_same es xs e same h =
    record { member = same.0 e h.member; others = λ x m. h.others x (same.1 x m) }

-- ---- Any order and grouping
-- "joining any nonempty list gives its furthest, least member"
pub grouping_furthest : (g : Grouping) (es : List Error) → SameMembers (leaves g) es → Furthest es (joined g)
grouping_furthest g es same = furthest_same (leaves g) es (joined g) same (leaves_furthest g)

-- so two groupings of the same errors give the same
pub groupings_agree : (g h : Grouping) → SameMembers (leaves g) (leaves h) → joined g ≡ joined h
groupings_agree g h same =
    furthest_only (leaves h) (joined g) (joined h) (grouping_furthest g (leaves h) same) (leaves_furthest h)

-- ---- Two or three
pub join_furthest : (a b : Error) → Furthest (a ∷ b ∷ []) (join a b)
join_furthest a b = both_furthest (a ∷ []) (b ∷ []) a b (one_furthest a) (one_furthest b)

pub join_commutative : (a b : Error) → join a b ≡ join b a
join_commutative a b =
    furthest_only (b ∷ a ∷ []) (join a b) (join b a)
    (furthest_same (a ∷ b ∷ []) (b ∷ a ∷ []) (join a b) (turned a b, turned b a) (join_furthest a b))
    (join_furthest b a)
  where
    turned : (x y e : Error) → e ∈ (x ∷ y ∷ []) → e ∈ (y ∷ x ∷ [])
    turned x y e (Memᴰ.head d) = Memᴰ.tail (Memᴰ.head d)
    turned x y e (Memᴰ.tail (Memᴰ.head d)) = Memᴰ.head d
    turned x y e (Memᴰ.tail (Memᴰ.tail m)) = absurd (Memᴰ.not-nil m)

pub join_same : (a : Error) → join a a ≡ a
join_same a = join_cases a a (λ e _. e) (λ e _. e)

pub join_associative : (a b c : Error) → join (join a b) c ≡ join a (join b c)
join_associative a b c =
    furthest_only (a ∷ b ∷ c ∷ []) (join (join a b) c) (join a (join b c))
    (both_furthest (a ∷ b ∷ []) (c ∷ []) (join a b) c (join_furthest a b) (one_furthest c))
    (both_furthest (a ∷ []) (b ∷ c ∷ []) a (join b c) (one_furthest a) (join_furthest b c))
