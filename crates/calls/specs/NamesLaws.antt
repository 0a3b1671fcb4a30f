-- Laws for the search for a declared name. Those that say which name is found are in FoundNames of proofs/.
--
-- Contents:
-- - binders by tests: count_less, depth_bound, open_past
-- - two lookups, one after the other: or_else
-- - the rows, one by one: next_row
-- - the names of one binder, the nearest row first: Looking, looking_hit, looking_on, looking_none
-- - the binders, the innermost first: Searching, searching_end, searching_none, searching_some
-- - how many names the binders have: Counting, counting_on, counting_end, counting_none, counting_some
use Rattle.std.specs.Prelude.{◌≡◌, Bool, true, false, cond, eqb, ltb, length}
use Rattle.std.proofs.Math.Path.{refl, sym, ap}
use Rattle.std.proofs.Common.{◌∙◌, add-zero, ltb-true, ltb-false}
use mathlib.Core.List.{List, []}
use Rattle.std.specs.Prelude.{Option, None, Some}
use Prim.Native.Nat.{ℕ, zero, suc, ◌+◌, ◌-◌, ◌<◌, ◌≤◌}
use native.Mathlib.Omega.{arith}
use Rattle.characters.specs.Cases.{by_test}
use Rattle.characters.specs.Spelling.{same}
use Rattle.book.specs.Book.{lookup_from, lookup_name, named}
use Rattle.book.specs.declared.names.StartingName.{StartingName}
use Rattle.semantics.specs.Uses.{Path, scope_of}
use Rattle.semantics.specs.Tokens.{Variable, variable_in}
use Rattle.semantics.specs.Run.{declared_names}
use Rattle.run_model.specs.Rows.{Row, row_of, is_body, entry_at, names_above, behind_names, within_row, path_from}
use Rattle.run_model.specs.Rows.{path_of, path_at, scope_at}
use Rattle.calls.specs.TableLaws.{row_past}
use Rattle.calls.specs.Names.{open_binder, name_count, depth_past, name_in}

-- ---- Binders by tests
pub count_less : (b : ℕ) → b - 2 ≡ name_count b
unfolding name_count
count_less zero = refl
count_less (suc zero) = refl
count_less (suc (suc n)) = omega arith

pub depth_bound : (b d : ℕ) → depth_past b d ≤ suc d
unfolding is_body
depth_bound zero d = omega arith
depth_bound (suc zero) d = omega arith
depth_bound (suc (suc n)) d = omega arith

pub open_past : (T : List Row) (i b : ℕ) → length T ≡ 201 → 200 < i → b ≡ open_binder (row_of T i) → b ≡ 0
open_past T i b size h e = e ∙ rw (row_past T i (omega arith))

-- ---- Two lookups, one after the other
unfoldable pub or_else : Option Variable → Option Variable → Option Variable
or_else (Some v) w = Some v
or_else None w = w

-- ---- The rows, one by one
module _ (text : List ℕ) (T : List Row) where
  -- the open calls above row i begin with the next row
  next_live : (k i : ℕ) →
      scope_of (path_from text T (suc k) i)
      ≡ scope_of (behind_names text T i (open_binder (row_of T i)) (path_from text T k (suc i)))
  unfolding path_from within_row scope_of behind_names
  next_live k i =
      by_test (eqb (row_of T i).live 1) (λ e. rw (e, path_from, within_row)) (λ e. rw (e, path_from, within_row))

  last_row : length T ≡ 201 → scope_of (path_of text T 200) ≡ scope_of (path_at text T 201 (open_binder (row_of T 201)))
  unfolding path_from scope_of behind_names
  last_row size = rw (row_past T 201 (omega (arith, size)))

  pub next_row : (i : ℕ) → length T ≡ 201 → i ≤ 200 →
      scope_of (path_of text T i) ≡ scope_of (path_at text T (i + 1) (open_binder (row_of T (i + 1))))
  next_row i size h =
      by_test (ltb i 200)
      (λ l.
      let m = ltb-true i 200 l in
      let a : 200 - i ≡ suc (200 - (i + 1)) = omega arith in
      let b : suc i ≡ i + 1 = omega arith in
      ap (λ k. scope_of (path_from text T k (suc i))) a
      ∙ ap (λ j. scope_of (path_from text T (suc (200 - (i + 1))) j)) b ∙ next_live (200 - (i + 1)) (i + 1))
      (λ l.
      let m = ltb-false i 200 l in
      let e : i ≡ 200 = omega arith in
      rw e (last_row size))

-- ---- The names of one binder
module _ (text : List ℕ) (T : List Row) (wanted : List ℕ) where
  -- of n + 1 names above row i, the nearest decides first
  nearest : (j n i : ℕ) (found : Option StartingName) →
      lookup_from found j (names_above text T (suc n) i) wanted
      ≡ cond (same wanted (entry_at text (row_of T (suc i))).spelling) (Some (named (j + n) (row_of T (suc i)).kind))
      (lookup_from found j (names_above text T n (suc i)) wanted)
  unfolding names_above lookup_from
  nearest j zero i found = let e : i + 1 ≡ suc i = omega arith in rw (e, add-zero)
  nearest j (suc n) i found =
      let e : i + suc (suc n) ≡ suc i + suc n = omega arith in
      let f : j + suc n ≡ suc j + n = omega arith in
      rw (e, f) (nearest (suc j) n i _)

  -- the loop stands at row i, with n names to go; they decide as the m above row c do
  abbrev pub Looking : ℕ → ℕ → ℕ → ℕ → Type 0
  Looking c m i n = lookup_name (names_above text T n i) wanted ≡ lookup_name (names_above text T m c) wanted

  -- the nearest of them, in row j
  module _ (c m i n : ℕ) (s : Looking c m i n) (h : 0 < n) (j : ℕ) (ej : j ≡ i + 1) (t : Bool)
      (e : t ≡ same wanted (entry_at text (row_of T j)).spelling) where
    one_less : lookup_name (names_above text T n i) wanted
        ≡ cond t (Some (named (n - 1) (row_of T j).kind)) (lookup_name (names_above text T (n - 1) j) wanted)
    one_less =
        let f : n ≡ suc (n - 1) = omega arith in
        let g : j ≡ suc i = omega arith in
        let z : 0 + (n - 1) ≡ n - 1 = omega arith in
        ap (λ n. lookup_name (names_above text T n i) wanted) f
        ∙ nearest 0 (n - 1) i None ∙ rw (e, g, z)

    pub looking_hit : t ≡ true → Some (named (n - 1) (row_of T j).kind) ≡ lookup_name (names_above text T m c) wanted
    looking_hit y = sym (one_less ∙ rw y) ∙ s

    pub looking_on : t ≡ false → (k : ℕ) → j ≡ k → Looking c m k (n - 1)
    looking_on y k f =
        let less : lookup_name (names_above text T n i) wanted ≡ lookup_name (names_above text T (n - 1) j) wanted =
        one_less ∙ rw y in
        rw f at (sym less ∙ s)

  pub looking_none : (c m i n d : ℕ) → Looking c m i n → n ≤ 0 →
      None ≡ name_in d (lookup_name (names_above text T m c) wanted)
  unfolding names_above lookup_from name_in
  looking_none c m i n d s h = let e : n ≡ 0 = omega arith in ap (name_in d) (rw e at s)

  -- ---- The binders
  -- d openings are between the use and the call of row i, whose binder is b; from there on the search gives what it
  -- gives for the use at row c with binder a
  abbrev pub Searching : ℕ → ℕ → ℕ → ℕ → ℕ → Type 0
  Searching c a i b d =
      variable_in [] d (scope_of (path_at text T i b)) wanted ≡ variable_in [] 0 (scope_of (path_at text T c a)) wanted

  -- behind the table no call is open
  pub searching_end : (c a i b d : ℕ) → Searching c a i b d → 200 < i → b ≡ 0 →
      None ≡ variable_in [] 0 (scope_of (path_at text T c a)) wanted
  unfolding path_from scope_of behind_names variable_in lookup_from
  searching_end c a i b d s h e =
      let f : 200 - i ≡ 0 = omega arith in
      rw (e, f) at s

  -- a use with no opening around it, and one with some
  pub searching_none : (c a : ℕ) → a ≡ 0 → None ≡ variable_in [] 0 (scope_at text T c a) wanted
  unfolding scope_at variable_in lookup_from
  searching_none c a e = rw e refl

  pub searching_some : (c a : ℕ) (o : Option Variable) → (a ≡ 0 → ⊥) →
      o ≡ variable_in [] 0 (scope_of (path_at text T c a)) wanted → o ≡ variable_in [] 0 (scope_at text T c a) wanted
  unfolding scope_at
  searching_some c zero o h e = absurd (h refl)
  searching_some c (suc a) o h e = e

-- ---- How many names there are
module _ (text : List ℕ) (T : List Row) where
  -- so many names were counted up to the call of row i, whose binder is b; with those from there on they are the names
  -- in the scope of the use at row c with binder a
  abbrev pub Counting : ℕ → ℕ → ℕ → ℕ → ℕ → Type 0
  Counting c a i b count =
      count + declared_names (scope_of (path_at text T i b)) ≡ declared_names (scope_of (path_at text T c a))

  names_length : (n i : ℕ) → length (names_above text T n i) ≡ n
  unfolding names_above
  names_length zero i = refl
  names_length (suc n) i = ap suc (names_length n i)

  own_count : (i b : ℕ) (path : Path) →
      declared_names (scope_of (behind_names text T i b path)) ≡ name_count b + declared_names (scope_of path)
  unfolding behind_names scope_of declared_names name_count
  own_count i zero path = omega arith
  own_count i (suc zero) path = omega arith
  own_count i (suc (suc n)) path = rw (names_length n i)

  pub counting_on : (c a i b b₁ count n : ℕ) → length T ≡ 201 → Counting c a i b count → i ≤ 200 → n ≡ name_count b →
      b₁ ≡ open_binder (row_of T (i + 1)) → Counting c a (i + 1) b₁ (count + n)
  counting_on c a i b b₁ count n size s h e f =
      let own = own_count i b (path_of text T i) in
      let next = ap declared_names (next_row text T i size h) in
      rw f (omega (arith, s, own, next, e))

  pub counting_end : (c a i b count : ℕ) → Counting c a i b count → 200 < i → b ≡ 0 →
      count ≡ declared_names (scope_of (path_at text T c a))
  unfolding path_from scope_of behind_names declared_names
  counting_end c a i b count s h e =
      let f : 200 - i ≡ 0 = omega arith in
      let z : count + 0 ≡ count = omega arith in
      sym z ∙ (rw (e, f) at s)

  pub counting_none : (c a : ℕ) → a ≡ 0 → 0 ≡ declared_names (scope_at text T c a)
  unfolding scope_at declared_names
  counting_none c a e = rw e refl

  pub counting_some : (c a count : ℕ) → (a ≡ 0 → ⊥) → count ≡ declared_names (scope_of (path_at text T c a)) →
      count ≡ declared_names (scope_at text T c a)
  unfolding scope_at
  counting_some c zero count h e = absurd (h refl)
  counting_some c (suc a) count h e = e
