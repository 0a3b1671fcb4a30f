-- Sets in a list of numbers: what a store changes, and what stays.
--
-- Contents:
-- - only: only_refl, only_trans, only_wide, only_set
-- - what lies elsewhere stays: parse_apart, list_moved, list_apart
-- - lists of parses: list_length, list_snoc, list_item
-- - counts: count_le, count_suc
-- - sets: set_length, set_list, list_whole, set_le, size_le, set_apart, set_none, set_item
-- - a parse that is put, number by number: put_length, put_only, put_parse_at
use Rattle.std.specs.Prelude.{◌≡◌, refl, Bool, true, false, cond, List, [], ◌∷◌, ◌++◌, ◌⊎◌, ℕ, zero, suc, ◌+◌, ◌*◌, ◌<◌}
use Rattle.std.specs.Prelude.{◌≤◌, ltb, get_or, set, length}
use Rattle.std.proofs.Common.{sym, ap, ◌∙◌, inl, inr, arith, length-set, get_or-set_same, get_or-set_other, ltb-true}
use Rattle.std.proofs.Common.{ltb-false}
use Rattle.book.specs.Book.{associativity_number}
use Rattle.book.proofs.ReadingLaws.{associativity_of_number}
use Rattle.semantics.specs.Values.{Parse, absent_parse}
use Rattle.sets.specs.Sets.{parse_at, list_at, count_of, set_at, put_parse, Only}

-- ---- Only
pub only_refl : {f : List ℕ} {b m : ℕ} → Only f f b m
only_refl = record { low = λ i h. refl; high = λ i h. refl }

pub only_trans : {f g k : List ℕ} {b m : ℕ} → Only f g b m → Only g k b m → Only f k b m
only_trans p q = record { low = λ i h. q.low i h ∙ p.low i h; high = λ i h. q.high i h ∙ p.high i h }

pub only_wide : {f g : List ℕ} {b m : ℕ} (c n : ℕ) → c ≤ b → b + m ≤ c + n → Only f g b m → Only f g c n
only_wide c n h k p = record { low = λ i l. p.low i (omega arith); high = λ i l. p.high i (omega arith) }

pub only_set : (f : List ℕ) (i x b m : ℕ) → b ≤ i → i < b + m → Only f (set f i x) b m
only_set f i x b m h k =
    record {
      low = λ j l. get_or-set_other f i j x 0 (λ e. omega arith);
      high = λ j l. get_or-set_other f i j x 0 (λ e. omega arith);
    }

-- ---- What lies elsewhere stays
pub parse_apart : {f g : List ℕ} {d m : ℕ} (b : ℕ) → Only f g d m → (b + 4 ≤ d) ⊎ (d + m ≤ b) →
    parse_at g b ≡ parse_at f b
parse_apart b o (inl h) =
    rw (
      o.low b (omega arith),
      o.low (b + 1) (omega arith),
      o.low (b + 2) (omega arith),
      o.low (b + 3) (omega arith),
    )
parse_apart b o (inr h) =
    rw (
      o.high b (omega arith),
      o.high (b + 1) (omega arith),
      o.high (b + 2) (omega arith),
      o.high (b + 3) (omega arith),
    )

-- the k parses from c on in g are those from b on in f, where the numbers are
pub list_moved : (f g : List ℕ) (b c k : ℕ) →
    ((i j : ℕ) → b ≤ i → i < b + 4 * k → j + b ≡ i + c → get_or g j 0 ≡ get_or f i 0) → list_at g c k ≡ list_at f b k
unfolding list_at
list_moved f g b c zero h = refl
list_moved f g b c (suc k) h =
    rw (
      h b c (omega arith) (omega arith) (omega arith),
      h (b + 1) (c + 1) (omega arith) (omega arith) (omega arith),
      h (b + 2) (c + 2) (omega arith) (omega arith) (omega arith),
      h (b + 3) (c + 3) (omega arith) (omega arith) (omega arith),
      list_moved f g (b + 4) (c + 4) k (λ i j l m e. h i j (omega arith) (omega arith) (omega arith)),
    )

pub list_apart : {f g : List ℕ} {d m : ℕ} (b k : ℕ) → Only f g d m → (b + 4 * k ≤ d) ⊎ (d + m ≤ b) →
    list_at g b k ≡ list_at f b k
list_apart {f} {g} b k o (inl h) =
    list_moved f g b b k (λ i j l m e. let q : j ≡ i = omega arith in rw q (o.low i (omega arith)))
list_apart {f} {g} b k o (inr h) =
    list_moved f g b b k (λ i j l m e. let q : j ≡ i = omega arith in rw q (o.high i (omega arith)))

-- ---- Lists of parses
pub list_length : (f : List ℕ) (b k : ℕ) → length (list_at f b k) ≡ k
unfolding list_at
list_length f b zero = refl
list_length f b (suc k) = ap suc (list_length f (b + 4) k)

pub list_snoc : (f : List ℕ) (b k p : ℕ) → p ≡ b + 4 * k → list_at f b (k + 1) ≡ list_at f b k ++ (parse_at f p ∷ [])
unfolding list_at
list_snoc f b zero p h = let e : p ≡ b = omega arith in rw e
list_snoc f b (suc k) p h =
    let e : suc k + 1 ≡ suc (k + 1) = omega arith in rw e (rw (list_snoc f (b + 4) k p (omega arith)))

pub list_item : (f : List ℕ) (b k i p : ℕ) → i < k → p ≡ b + 4 * i →
    get_or (list_at f b k) i absent_parse ≡ parse_at f p
unfolding list_at
list_item f b zero i p h e = absurd (omega arith)
list_item f b (suc k) zero p h e = let q : p ≡ b = omega arith in rw q
list_item f b (suc k) (suc i) p h e = list_item f (b + 4) k i p (omega arith) (omega arith)

-- ---- Counts
pub count_le : (x : ℕ) → count_of x ≤ 64
count_le x = go (ltb x 64) refl
  where
    go : (t : Bool) → t ≡ ltb x 64 → cond t x 64 ≤ 64
    go true e = omega (arith, ltb-true x 64 (sym e))
    go false e = omega arith

pub count_suc : (n : ℕ) → n < 64 → count_of (n + 1) ≡ n + 1
count_suc n h = go (ltb (n + 1) 64) refl
  where
    go : (t : Bool) → t ≡ ltb (n + 1) 64 → cond t (n + 1) 64 ≡ n + 1
    go true e = refl
    go false e = let l = ltb-false (n + 1) 64 (sym e) in omega arith

-- ---- Sets
pub set_length : (f : List ℕ) (b : ℕ) → length (set_at f b) ≡ count_of (get_or f b 0)
unfolding set_at
set_length f b = list_length f (b + 1) (count_of (get_or f b 0))

-- a set by its length
pub set_list : (f : List ℕ) (b n : ℕ) → n ≡ length (set_at f b) → set_at f b ≡ list_at f (b + 1) n
unfolding set_at
set_list f b n e = let q : n ≡ count_of (get_or f b 0) = e ∙ list_length f (b + 1) (count_of (get_or f b 0)) in rw q

-- its parses, from the place of the first one on
pub list_whole : (f : List ℕ) (b at k n : ℕ) → n ≡ length (set_at f b) → at ≡ b + 1 → k ≡ n →
    list_at f at k ≡ set_at f b
list_whole f b at k n e place all = rw (place, all) (sym (set_list f b n e))

pub set_le : (f : List ℕ) (b : ℕ) → length (set_at f b) ≤ 64
set_le f b = rw (set_length f b) (count_le (get_or f b 0))

pub size_le : (f : List ℕ) (b n : ℕ) → n ≡ length (set_at f b) → n ≤ 64
size_le f b n e = rw e (set_le f b)

pub set_apart : {f g : List ℕ} {d m : ℕ} (b : ℕ) → Only f g d m → (b + 257 ≤ d) ⊎ (d + m ≤ b) → set_at g b ≡ set_at f b
unfolding set_at
set_apart {f} b o (inl h) =
    rw (o.low b (omega arith))
    (list_apart (b + 1) (count_of (get_or f b 0)) o (inl (omega (arith, count_le (get_or f b 0)))))
set_apart {f} b o (inr h) =
    rw (o.high b (omega arith)) (list_apart (b + 1) (count_of (get_or f b 0)) o (inr (omega arith)))

pub set_none : (f : List ℕ) (b : ℕ) → b < length f → set_at (set f b 0) b ≡ []
unfolding set_at list_at
set_none f b h = rw (get_or-set_same f b 0 0 h)

pub set_item : (f : List ℕ) (b i p : ℕ) → i < length (set_at f b) → p ≡ b + 1 + 4 * i →
    get_or (set_at f b) i absent_parse ≡ parse_at f p
set_item f b i p h e = rw (set_list f b (length (set_at f b)) refl) (list_item f (b + 1) (length (set_at f b)) i p h e)

-- ---- A parse that is put, number by number
abbrev one : List ℕ → ℕ → Parse ℕ → List ℕ
one f b p = set f b p.rest

abbrev two : List ℕ → ℕ → Parse ℕ → List ℕ
two f b p = set (one f b p) (b + 1) p.level

abbrev three : List ℕ → ℕ → Parse ℕ → List ℕ
three f b p = set (two f b p) (b + 2) (associativity_number p.associativity)

module _ (f : List ℕ) (b : ℕ) (p : Parse ℕ) where
  pub put_length : length (put_parse f b p) ≡ length f
  put_length = simp length-set

  pub put_only : Only f (put_parse f b p) b 4
  put_only =
      only_trans (only_trans (only_trans
      (only_set _ _ _ b 4 (omega arith) (omega arith))
      (only_set _ _ _ b 4 (omega arith) (omega arith)))
      (only_set _ _ _ b 4 (omega arith) (omega arith)))
      (only_set _ _ _ b 4 (omega arith) (omega arith))

  module _ (h : b + 4 ≤ length f) where
    rest_written : get_or (put_parse f b p) b 0 ≡ p.rest
    rest_written =
        get_or-set_other (three f b p) (b + 3) b p.value 0 (λ e. omega arith)
        ∙ get_or-set_other (two f b p) (b + 2) b (associativity_number p.associativity) 0 (λ e. omega arith)
        ∙ get_or-set_other (one f b p) (b + 1) b p.level 0 (λ e. omega arith)
        ∙ get_or-set_same f b p.rest 0 (omega arith)

    level_written : get_or (put_parse f b p) (b + 1) 0 ≡ p.level
    level_written =
        get_or-set_other (three f b p) (b + 3) (b + 1) p.value 0 (λ e. omega arith)
        ∙ get_or-set_other (two f b p) (b + 2) (b + 1) (associativity_number p.associativity) 0 (λ e. omega arith)
        ∙ get_or-set_same (one f b p) (b + 1) p.level 0 (simp length-set (omega arith))

    associativity_written : get_or (put_parse f b p) (b + 2) 0 ≡ associativity_number p.associativity
    associativity_written =
        get_or-set_other (three f b p) (b + 3) (b + 2) p.value 0 (λ e. omega arith)
        ∙ get_or-set_same (two f b p) (b + 2) (associativity_number p.associativity) 0 (simp length-set (omega arith))

    value_written : get_or (put_parse f b p) (b + 3) 0 ≡ p.value
    value_written = get_or-set_same (three f b p) (b + 3) p.value 0 (simp length-set (omega arith))

    pub put_parse_at : parse_at (put_parse f b p) b ≡ p
    put_parse_at = rw (
      rest_written,
      level_written,
      associativity_written,
      associativity_of_number p.associativity,
      value_written,
    )
