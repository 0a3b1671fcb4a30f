-- Laws for the functions over the open calls: a sequence of stores to one row, and searching the rows.
--
-- Contents:
-- - stores to one row: row_after, row_twice, row_changed, then_row, open_law, declare_law, variant_law
-- - openings: body_test, inheriting
-- - the search for a governor: Seeking, seeking; governors: governor_above, governing
-- - the search for a claim: Asking, asking
use Rattle.std.specs.Prelude.{◌≡◌, Bool, not, ◌&&◌, ◌⊎◌, List, [], eqb, ltb, leb, set, length}
use Rattle.std.proofs.Math.Path.{refl, sym, ap}
use Rattle.std.proofs.Common.{◌∙◌, inl, inr, get_or-set_same, set-set, length-set}
use Rattle.std.proofs.lemmas.Bool.{cases_lt}
use Rattle.std.proofs.lemmas.List.{set_past}
use Rattle.std.proofs.Math.Bool.{true, false}
use Prim.Native.Nat.{ℕ, zero, suc, ◌+◌, ◌-◌, ◌<◌, ◌≤◌}
use native.Mathlib.Omega.{arith}
use borrow.Author.Tests.{eq-eqb, ne_eqb, lt-ltb, le-leb, le-ltb, ltb-false}
use Rattle.book.specs.Book.{Book}
use Rattle.book.specs.Check.{associativity_of}
use Rattle.semantics.specs.Uses.{minimum_of}
use Rattle.semantics.specs.Tokens.{when}
use Rattle.run_model.specs.Rows.{Row, row, no_row, row_of, on_row, with_set, with_variant, opened, declared}
use Rattle.run_model.specs.Rows.{use_at, inherited, is_body, begins_scope, governs, in_scope, newest_governor}
use Rattle.run_model.specs.Rows.{RowGovernor, minimum, same_start, governor_at, governor_of}
use Rattle.run_model.specs.Rows.{claims, any_claims}
use Rattle.calls.specs.Table.{field}
use Rattle.calls.specs.TableLaws.{row_past}

-- ---- Stores to one row
pub row_after : (T : List Row) (c : ℕ) (r : Row) → c < length T → row_of (set T c r) c ≡ r
row_after T c r h = get_or-set_same T c r no_row h

-- behind the table a store changes nothing, and a row has no number but 0
pub row_twice : (T T1 T2 : List Row) (c : ℕ) (r : Row) (F : Row → Row) → T1 ≡ set T c r → T2 ≡ on_row T1 c F →
    T2 ≡ set T c (F r)
row_twice T T1 T2 c r F e k = by (cases_lt c (length T))
  where
    by : (c < length T) ⊎ (length T ≤ c) → T2 ≡ set T c (F r)
    by (inl h) = (rw (e, row_after T c r h) at k) ∙ set-set T c r (F r)
    by (inr h) =
        (rw e at k) ∙ set_past (set T c r) c _ (simp length-set h) ∙ set_past T c r h ∙ sym (set_past T c (F r) h)

pub row_changed : (T T1 : List Row) (c : ℕ) (F : Row → Row) → F no_row ≡ no_row → T1 ≡ on_row T c F →
    row_of T1 c ≡ F (row_of T c)
row_changed T T1 c F z e = by (cases_lt c (length T))
  where
    by : (c < length T) ⊎ (length T ≤ c) → row_of T1 c ≡ F (row_of T c)
    by (inl h) = rw e (row_after T c (F (row_of T c)) h)
    by (inr h) = rw (e, set_past T c (F (row_of T c)) h, row_past T c h) (sym z)

pub then_row : (T T1 T2 : List Row) (c : ℕ) (r : Row) (F : Row → Row) → c < length T → T1 ≡ set T c r →
    T2 ≡ on_row T1 c F → T2 ≡ set T c (F r)
then_row T T1 T2 c r F h e k = row_twice T T1 T2 c r F e k

pub open_law : (T : List Row) (c b N u : ℕ) → (T1 T2 T3 T4 T5 T6 : List Row) →
    T1 ≡ on_row T c (field 0 1) → T2 ≡ on_row T1 c (field 1 N) → T3 ≡ on_row T2 c (field 2 b) →
    T4 ≡ on_row T3 c (field 3 u) →
    T5 ≡ on_row T4 c (field 7 0) → T6 ≡ on_row T5 c (with_set []) → T6 ≡ on_row T c (opened b N u)
open_law T c b N u T1 T2 T3 T4 T5 T6 e1 e2 e3 e4 e5 e6 =
    let r = row_of T c in
    let made : ℕ → ℕ → Row = λ start asked.
    row 1 N b start r.level r.associativity r.child asked r.kind r.place r.size r.set r.run in
    let k2 = row_twice T T1 T2 c (field 0 1 r) (field 1 N) e1 e2 in
    let k3 = row_twice T T2 T3 c (field 1 N (field 0 1 r)) (field 2 b) k2 e3 in
    let k4 = row_twice T T3 T4 c (made r.start r.asked) (field 3 u) k3 e4 in
    let k5 = row_twice T T4 T5 c (made u r.asked) (field 7 0) k4 e5 in
    row_twice T T5 T6 c (made u 0) (with_set []) k5 e6

pub declare_law : (T : List Row) (c kind place size : ℕ) → (T1 T2 T3 T4 : List Row) →
    T1 ≡ on_row T c (field 0 0) → T2 ≡ on_row T1 c (field 8 kind) → T3 ≡ on_row T2 c (field 9 place) →
    T4 ≡ on_row T3 c (field 10 size) → T4 ≡ on_row T c (declared kind place size)
declare_law T c kind place size T1 T2 T3 T4 e1 e2 e3 e4 =
    let r = row_of T c in
    let made : ℕ → ℕ → Row = λ kind place. declared kind place r.size r in
    let k2 = row_twice T T1 T2 c (field 0 0 r) (field 8 kind) e1 e2 in
    let k3 = row_twice T T2 T3 c (made kind r.place) (field 9 place) k2 e3 in
    row_twice T T3 T4 c (made kind place) (field 10 size) k3 e4

pub variant_law : (T : List Row) (c l a : ℕ) → (T1 T2 : List Row) → T1 ≡ on_row T c (field 4 l) →
    T2 ≡ on_row T1 c (field 5 a) → T2 ≡ on_row T c (with_variant l a)
variant_law T c l a T1 T2 e1 e2 = row_twice T T1 T2 c (field 4 l (row_of T c)) (field 5 a) e1 e2

-- ---- Openings
pub body_test : (b : ℕ) → leb 2 b ≡ is_body b
unfolding is_body
body_test zero = refl
body_test (suc zero) = refl
body_test (suc (suc n)) = le-leb 2 (suc (suc n)) (omega arith)

pub inherited_outside : (a b : ℕ) → a ≡ b → a ≡ 0 → 0 ≡ inherited b
unfolding inherited
inherited_outside a b e f = rw (← e, f) refl

pub inherited_around : (a b : ℕ) → a ≡ b → (a ≡ 0 → ⊥) → 1 ≡ inherited b
unfolding inherited
inherited_around a zero e h = absurd (h e)
inherited_around a (suc b) e h = refl

pub ruleset inheriting = (inherited_outside, inherited_around)

-- ---- Governors
module _ (T : List Row) (N u : ℕ) where
  newest_hit : (k i : ℕ) → governs (row_of T i) N u ≡ true → newest_governor T N u (suc k) i ≡ i
  unfolding newest_governor
  newest_hit k i h = rw (h, newest_governor)

  newest_on : (k i : ℕ) → governs (row_of T i) N u ≡ false →
      newest_governor T N u (suc k) i ≡ in_scope (begins_scope (row_of T i)) (newest_governor T N u k (suc i))
  unfolding newest_governor
  newest_on k i h = rw (h, newest_governor)

  pub newest_none : (i : ℕ) → newest_governor T N u 0 i ≡ i
  unfolding newest_governor
  newest_none i = refl

  -- the loop stands at row i of those above n
  abbrev pub Seeking : ℕ → ℕ → Type 0
  Seeking n i = newest_governor T N u (201 - i) i ≡ newest_governor T N u (200 - n) (suc n)

  pub seeking_hit : (n i : ℕ) (t : Bool) → Seeking n i → i ≤ 200 → t ≡ governs (row_of T i) N u → t ≡ true →
      i ≡ newest_governor T N u (200 - n) (suc n)
  seeking_hit n i t s h e y =
      let a : 201 - i ≡ suc (200 - i) = omega arith in
      sym (rw a (newest_hit (200 - i) i (sym e ∙ y))) ∙ s

  -- what is left behind a row that doesn't govern
  seeking_past : (n i : ℕ) (t w : Bool) → Seeking n i → i ≤ 200 → t ≡ governs (row_of T i) N u → t ≡ false →
      w ≡ begins_scope (row_of T i) →
      in_scope w (newest_governor T N u (201 - (i + 1)) (suc i)) ≡ newest_governor T N u (200 - n) (suc n)
  seeking_past n i t w s h e y f =
      let a : 201 - i ≡ suc (201 - (i + 1)) = omega arith in
      ap (λ w. in_scope w (newest_governor T N u (201 - (i + 1)) (suc i))) f
      ∙ sym (newest_on (201 - (i + 1)) i (sym e ∙ y)) ∙ ap (λ k. newest_governor T N u k i) (sym a) ∙ s

  pub seeking_scope : (n i : ℕ) (t w : Bool) → Seeking n i → i ≤ 200 → t ≡ governs (row_of T i) N u → t ≡ false →
      w ≡ begins_scope (row_of T i) → w ≡ true → 201 ≡ newest_governor T N u (200 - n) (suc n)
  unfolding in_scope
  seeking_scope n i t w s h e y f z = rw z at (seeking_past n i t w s h e y f)

  pub seeking_on : (n i : ℕ) (t w : Bool) → Seeking n i → i ≤ 200 → t ≡ governs (row_of T i) N u → t ≡ false →
      w ≡ begins_scope (row_of T i) → w ≡ false → Seeking n (i + 1)
  unfolding in_scope
  seeking_on n i t w s h e y f z =
      let b : i + 1 ≡ suc i = omega arith in
      ap (newest_governor T N u (201 - (i + 1))) b ∙ (rw z at (seeking_past n i t w s h e y f))

  pub seeking_end : (n i : ℕ) → Seeking n i → i ≡ 201 → 201 ≡ newest_governor T N u (200 - n) (suc n)
  seeking_end n i s h = sym (newest_none 201) ∙ (rw h at s)

pub ruleset seeking = (seeking_hit, seeking_scope, seeking_on, seeking_end)

-- the governor's row is above n
newest_above : (T : List Row) (N u k i : ℕ) → i + k ≡ 201 → i ≤ newest_governor T N u k i
unfolding newest_governor in_scope
newest_above T N u zero i e = omega arith
newest_above T N u (suc k) i e =
    by (governs (row_of T i) N u) (begins_scope (row_of T i)) (newest_above T N u k (suc i) (omega arith))
  where
    by : (t w : Bool) → suc i ≤ newest_governor T N u k (suc i) →
        i ≤ elim t [ true ↦ i | false ↦ in_scope w (newest_governor T N u k (suc i)) ]
    by true w h = omega arith
    by false true h = omega arith
    by false false h = omega arith

row_in : RowGovernor → ℕ
row_in (minimum m) = 0
row_in (same_start g) = suc g

pub governor_above : (T : List Row) (n b N u g : ℕ) → n ≤ 200 → same_start g ≡ governor_of T n b N u →
    (n < g) × (g ≤ 200)
unfolding governor_at row_in in_scope
governor_above T n b N u g room e = body (is_body b) (sym (ap row_in e))
  where
    x : ℕ
    x = newest_governor T N u (200 - n) (suc n)

    m : ℕ → ℕ
    m x = minimum_of (use_at (row_of T x)).associativity (row_of T x).level

    by : (t s : Bool) → t ≡ ltb 200 x →
        row_in (when t (λ _. minimum 0) (λ _. when s (λ _. same_start x) (λ _. minimum (m x)))) ≡ suc g →
        (n < g) × (g ≤ 200)
    by true s f q = absurd (omega (arith, q))
    by false true f q =
        let above = newest_above T N u (200 - n) (suc n) (omega arith) in
        (omega (arith, above, q), omega (arith, ltb-false 200 x (sym f), q))
    by false false f q = absurd (omega (arith, q))

    body : (w : Bool) → row_in (governor_at T u (in_scope w x)) ≡ suc g → (n < g) × (g ≤ 200)
    body true q = absurd (omega (arith, q))
    body false q = by (ltb 200 x) (eqb (row_of T x).start u) refl q

pub governor_body : (T : List Row) (n b N u : ℕ) (t : Bool) → t ≡ is_body b → t ≡ true →
    minimum 0 ≡ governor_of T n b N u
unfolding governor_at in_scope
governor_body T n b N u t e h = rw (← e, h) refl

module _ (T : List Row) (n b N u : ℕ) (t : Bool) (d : t ≡ is_body b) (f : t ≡ false) (g : ℕ)
    (e : g ≡ newest_governor T N u (200 - n) (suc n)) where
  outer : governor_at T u g ≡ governor_of T n b N u
  unfolding in_scope
  outer = rw (← d, f, e)

  pub governor_none : 200 < g → minimum 0 ≡ governor_of T n b N u
  unfolding governor_at
  governor_none h = sym (rw (lt-ltb 200 g h)) ∙ outer

  pub governor_same : (a : ℕ) → g ≤ 200 → a ≡ (row_of T g).start → a ≡ u → same_start g ≡ governor_of T n b N u
  unfolding governor_at
  governor_same a h f k = sym (rw (le-ltb 200 g h, eq-eqb (row_of T g).start u (sym f ∙ k))) ∙ outer

  pub governor_minimum : (a p l m : ℕ) → g ≤ 200 → a ≡ (row_of T g).start → (a ≡ u → ⊥) →
      p ≡ (row_of T g).associativity → l ≡ (row_of T g).level → m ≡ minimum_of (associativity_of p) l →
      minimum m ≡ governor_of T n b N u
  unfolding governor_at
  governor_minimum a p l m h f k eb el em =
      sym (rw (le-ltb 200 g h, ne_eqb (row_of T g).start u (λ z. k (f ∙ z)), em, eb, el)) ∙ outer

pub ruleset governing = (governor_body, governor_none, governor_same, governor_minimum)

-- ---- Claims
module _ (book : Book) (T : List Row) (u : ℕ) where
  any_hit : (k i : ℕ) → claims book (row_of T i) u ≡ true → any_claims book T u (suc k) i ≡ true
  unfolding any_claims
  any_hit k i h = rw (h, any_claims)

  any_on : (k i : ℕ) → claims book (row_of T i) u ≡ false →
      any_claims book T u (suc k) i ≡ (not (begins_scope (row_of T i)) && any_claims book T u k (suc i))
  unfolding any_claims
  any_on k i h = rw (h, any_claims)

  pub any_none : (i : ℕ) → any_claims book T u 0 i ≡ false
  unfolding any_claims
  any_none i = refl

  -- the loop stands at row i of those above n
  abbrev pub Asking : ℕ → ℕ → Type 0
  Asking n i = any_claims book T u (201 - i) i ≡ any_claims book T u (200 - n) (suc n)

  pub asking_hit : (n i : ℕ) (t : Bool) → Asking n i → i ≤ 200 → t ≡ claims book (row_of T i) u → t ≡ true →
      true ≡ any_claims book T u (200 - n) (suc n)
  asking_hit n i t s h e y =
      let a : 201 - i ≡ suc (200 - i) = omega arith in
      sym (rw a (any_hit (200 - i) i (sym e ∙ y))) ∙ s

  -- what is left behind a row that doesn't claim
  asking_past : (n i : ℕ) (t w : Bool) → Asking n i → i ≤ 200 → t ≡ claims book (row_of T i) u → t ≡ false →
      w ≡ begins_scope (row_of T i) →
      (not w && any_claims book T u (201 - (i + 1)) (suc i)) ≡ any_claims book T u (200 - n) (suc n)
  asking_past n i t w s h e y f =
      let a : 201 - i ≡ suc (201 - (i + 1)) = omega arith in
      ap (λ w. not w && any_claims book T u (201 - (i + 1)) (suc i)) f
      ∙ sym (any_on (201 - (i + 1)) i (sym e ∙ y)) ∙ ap (λ k. any_claims book T u k i) (sym a) ∙ s

  pub asking_scope : (n i : ℕ) (t w : Bool) → Asking n i → i ≤ 200 → t ≡ claims book (row_of T i) u → t ≡ false →
      w ≡ begins_scope (row_of T i) → w ≡ true → false ≡ any_claims book T u (200 - n) (suc n)
  asking_scope n i t w s h e y f z = rw z at (asking_past n i t w s h e y f)

  pub asking_on : (n i : ℕ) (t w : Bool) → Asking n i → i ≤ 200 → t ≡ claims book (row_of T i) u → t ≡ false →
      w ≡ begins_scope (row_of T i) → w ≡ false → Asking n (i + 1)
  asking_on n i t w s h e y f z =
      let b : i + 1 ≡ suc i = omega arith in
      ap (any_claims book T u (201 - (i + 1))) b ∙ (rw z at (asking_past n i t w s h e y f))

  pub asking_end : (n i : ℕ) → Asking n i → i ≡ 201 → false ≡ any_claims book T u (200 - n) (suc n)
  asking_end n i s h = sym (any_none 201) ∙ (rw h at s)

pub ruleset asking = (asking_hit, asking_scope, asking_on, asking_end)
