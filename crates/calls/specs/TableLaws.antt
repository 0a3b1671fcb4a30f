-- Rows in a list of numbers: what a store changes.
--
-- Contents:
-- - rows that stay
-- - the table: table_length, table_read, table_change
-- - a row after a change of a part of it: row_field, row_set, row_run
-- - the same on the table: table_field, table_get, row_past, table_past, get_past, any_number, read_set, read_run,
--   table_set, table_run
-- - sets that grow: run_added, run_joined, kept_law, set_one
use Rattle.std.specs.Prelude.{◌≡◌, refl, Bool, true, false, cond, List, [], ◌∷◌, ◌⊎◌, ℕ, zero, suc, ◌+◌, ◌*◌, ◌<◌, ◌≤◌}
use Rattle.std.specs.Prelude.{eqb, get_or, set, length}
use Rattle.std.proofs.Common.{sym, ap, ◌∙◌, inl, inr, add-zero, arith, get_or-set_same, get_or-set_other, eqb-true}
use Rattle.std.proofs.lemmas.Bool.{eqb-false}
use Rattle.book.specs.Check.{associativity_of}
use Rattle.book.specs.declared.records.Associativity.{Associativity}
use Rattle.semantics.specs.Values.{Parse}
use Rattle.semantics.specs.Run.{kept}
use Rattle.run_model.specs.Rows.{Row, no_row, row_of, on_row, use_at, with_set, with_run}
use Rattle.sets.specs.Sets.{set_at, Only, Becomes, appended, Appended, Added, AllAdded, Kept}
use Rattle.sets.specs.PlaceLaws.{only_trans, only_wide, only_set, set_apart}
use Rattle.calls.specs.Table.{row_at, rows_from, table, field, field_of, RunAdded, RunJoined}

-- ---- Rows that stay
-- a row whose numbers stay
numbers_stay : (f g : List ℕ) (b : ℕ) → ((i : ℕ) → i < 11 → get_or g (b + i) 0 ≡ get_or f (b + i) 0) →
    row_at g b ≡ with_run (set_at g (b + 268)) (with_set (set_at g (b + 11)) (row_at f b))
unfolding row_at
numbers_stay f g b s =
    rw (
      rw add-zero at (s 0 (omega arith)),
      s 1 (omega arith),
      s 2 (omega arith),
      s 3 (omega arith),
      s 4 (omega arith),
      s 5 (omega arith),
      s 6 (omega arith),
      s 7 (omega arith),
      s 8 (omega arith),
      s 9 (omega arith),
      s 10 (omega arith),
    )

row_apart : {f g : List ℕ} {d m : ℕ} (b : ℕ) → Only f g d m → (b + 525 ≤ d) ⊎ (d + m ≤ b) → row_at g b ≡ row_at f b
unfolding row_at
row_apart b o (inl h) =
    numbers_stay _ _ b (λ i k. o.low (b + i) (omega arith))
    ∙ rw (set_apart (b + 11) o (inl (omega arith)), set_apart (b + 268) o (inl (omega arith)))
row_apart b o (inr h) =
    numbers_stay _ _ b (λ i k. o.high (b + i) (omega arith))
    ∙ rw (set_apart (b + 11) o (inr (omega arith)), set_apart (b + 268) o (inr (omega arith)))

rows_apart : {f g : List ℕ} {d m : ℕ} (b k : ℕ) → Only f g d m → d + m ≤ b → rows_from g b k ≡ rows_from f b k
unfolding rows_from
rows_apart b zero o h = refl
rows_apart b (suc k) o h = rw (row_apart b o (inr h), rows_apart (b + 525) k o (omega arith))

rows_change : (f g : List ℕ) (b k c p : ℕ) → c < k → p ≡ b + c * 525 → Only f g p 525 →
    rows_from g b k ≡ set (rows_from f b k) c (row_at g p)
unfolding rows_from
rows_change f g b zero c p h e o = absurd (omega arith)
rows_change f g b (suc k) zero p h e o = let q : p ≡ b = omega arith in rw (q, rows_apart (b + 525) k o (omega arith))
rows_change f g b (suc k) (suc c) p h e o =
    rw (row_apart b o (inl (omega arith)), rows_change f g (b + 525) k c p (omega arith) (omega arith) o)

rows_read : (f : List ℕ) (b k c p : ℕ) → c < k → p ≡ b + c * 525 → row_of (rows_from f b k) c ≡ row_at f p
unfolding rows_from
rows_read f b zero c p h e = absurd (omega arith)
rows_read f b (suc k) zero p h e = let q : p ≡ b = omega arith in rw q
rows_read f b (suc k) (suc c) p h e = rows_read f (b + 525) k c p (omega arith) (omega arith)

rows_length : (f : List ℕ) (b k : ℕ) → length (rows_from f b k) ≡ k
unfolding rows_from
rows_length f b zero = refl
rows_length f b (suc k) = ap suc (rows_length f (b + 525) k)

-- ---- The table
pub table_length : (f : List ℕ) → length (table f) ≡ 201
unfolding table
table_length f = rows_length f 0 201

pub table_read : (f : List ℕ) (c : ℕ) → c ≤ 200 → row_of (table f) c ≡ row_at f (c * 525)
unfolding table
table_read f c h = rows_read f 0 201 c (c * 525) (omega arith) (omega arith)

pub table_change : (f g : List ℕ) (c : ℕ) → c ≤ 200 → Only f g (c * 525) 525 →
    table g ≡ set (table f) c (row_at g (c * 525))
unfolding table
table_change f g c h o = rows_change f g 0 201 c (c * 525) (omega arith) (omega arith) o

-- ---- A row after a change of a part of it
at_set : (f : List ℕ) (b j i x : ℕ) → b + j < length f →
    get_or (set f (b + j) x) (b + i) 0 ≡ cond (eqb j i) x (get_or f (b + i) 0)
at_set f b j i x h = by (eqb j i) refl
  where
    by : (t : Bool) → t ≡ eqb j i → get_or (set f (b + j) x) (b + i) 0 ≡ cond t x (get_or f (b + i) 0)
    by true e = let q = eqb-true j i (sym e) in rw (← q) (get_or-set_same f (b + j) x 0 h)
    by false e = let q = eqb-false j i (sym e) in get_or-set_other f (b + j) (b + i) x 0 (λ z. q (omega arith))

pub row_field : (f : List ℕ) (b j x : ℕ) → j < 11 → b + j < length f →
    row_at (set f (b + j) x) b ≡ field j x (row_at f b)
unfolding row_at
row_field f b j x k h =
    let e0 = rw add-zero at (at_set f b j 0 x h) in
    rw (
      e0,
      at_set f b j 1 x h,
      at_set f b j 2 x h,
      at_set f b j 3 x h,
      at_set f b j 4 x h,
      at_set f b j 5 x h,
      at_set f b j 6 x h,
      at_set f b j 7 x h,
      at_set f b j 8 x h,
      at_set f b j 9 x h,
      at_set f b j 10 x h,
      set_apart (b + 11) (only_set f (b + j) x b 11 (omega arith) (omega arith)) (inr (omega arith)),
      set_apart (b + 268) (only_set f (b + j) x b 11 (omega arith) (omega arith)) (inr (omega arith)),
    )

pub row_set : {f g : List ℕ} (b : ℕ) → Only f g (b + 11) 257 → row_at g b ≡ with_set (set_at g (b + 11)) (row_at f b)
unfolding row_at
row_set b o = numbers_stay _ _ b (λ i k. o.low (b + i) (omega arith)) ∙ rw (set_apart (b + 268) o (inr (omega arith)))

pub row_run : {f g : List ℕ} (b : ℕ) → Only f g (b + 268) 257 → row_at g b ≡ with_run (set_at g (b + 268)) (row_at f b)
unfolding row_at
row_run b o = numbers_stay _ _ b (λ i k. o.low (b + i) (omega arith)) ∙ rw (set_apart (b + 11) o (inl (omega arith)))

-- ---- The same on the table
pub table_field : (f : List ℕ) (c : ℕ) → c ≤ 200 → 105525 ≤ length f → (j x : ℕ) → j < 11 →
    table (set f (c * 525 + j) x) ≡ on_row (table f) c (field j x)
table_field f c h len j x k =
    table_change f (set f (c * 525 + j) x) c h (only_set f (c * 525 + j) x (c * 525) 525 (omega arith) (omega arith))
    ∙ rw (row_field f (c * 525) j x k (omega arith), table_read f c h)

pub table_get : (f : List ℕ) (c j : ℕ) → c ≤ 200 → j < 11 → get_or f (c * 525 + j) 0 ≡ field_of j (row_of (table f) c)
unfolding row_at
table_get f c j h k = rw (table_read f c h) (by j k)
  where
    by : (j : ℕ) → j < 11 → get_or f (c * 525 + j) 0 ≡ field_of j (row_at f (c * 525))
    by zero k = rw add-zero
    by (suc zero) k = refl
    by (suc (suc zero)) k = refl
    by (suc (suc (suc zero))) k = refl
    by (suc (suc (suc (suc zero)))) k = refl
    by (suc (suc (suc (suc (suc zero))))) k = refl
    by (suc (suc (suc (suc (suc (suc zero)))))) k = refl
    by (suc (suc (suc (suc (suc (suc (suc zero))))))) k = refl
    by (suc (suc (suc (suc (suc (suc (suc (suc zero)))))))) k = refl
    by (suc (suc (suc (suc (suc (suc (suc (suc (suc zero))))))))) k = refl
    by (suc (suc (suc (suc (suc (suc (suc (suc (suc (suc zero)))))))))) k = refl
    by (suc (suc (suc (suc (suc (suc (suc (suc (suc (suc (suc j))))))))))) k = absurd (omega arith)

-- a row behind the table has no number but 0
pub row_past : (T : List Row) (i : ℕ) → length T ≤ i → row_of T i ≡ no_row
row_past [] i h = refl
row_past (r ∷ T) zero h = absurd (omega arith)
row_past (r ∷ T) (suc i) h = row_past T i (omega arith)

field_none : (j : ℕ) → field_of j no_row ≡ 0
field_none j =
    rw (
      zeros (eqb j 9),
      zeros (eqb j 8),
      zeros (eqb j 7),
      zeros (eqb j 6),
      zeros (eqb j 5),
      zeros (eqb j 4),
      zeros (eqb j 3),
      zeros (eqb j 2),
      zeros (eqb j 1),
      zeros (eqb j 0),
    )
  where
    zeros : (b : Bool) → ◌≡◌ {A = ℕ} (cond b 0 0) 0
    zeros true = refl
    zeros false = refl

pub table_past : (f : List ℕ) (c : ℕ) → 200 < c → row_of (table f) c ≡ no_row
table_past f c h = row_past (table f) c (rw (table_length f) h)

pub get_past : (f : List ℕ) (c j : ℕ) → 200 < c → 0 ≡ field_of j (row_of (table f) c)
get_past f c j h = sym (rw (table_past f c h) (field_none j))

-- a number of any row
pub ruleset any_number = (table_get, get_past, table_length)

pub read_set : (f : List ℕ) (c : ℕ) → c ≤ 200 → (row_of (table f) c).set ≡ set_at f (c * 525 + 11)
unfolding row_at
read_set f c h = rw (table_read f c h)

pub read_run : (f : List ℕ) (c : ℕ) → c ≤ 200 → (row_of (table f) c).run ≡ set_at f (c * 525 + 268)
unfolding row_at
read_run f c h = rw (table_read f c h)

module _ (f g : List ℕ) (c : ℕ) (h : c ≤ 200) where
  pub table_set : (T : List (Parse ℕ)) → set_at g (c * 525 + 11) ≡ T → Only f g (c * 525 + 11) 257 →
      table g ≡ on_row (table f) c (with_set T)
  table_set T e o =
      table_change f g c h (only_wide (c * 525) 525 (omega arith) (omega arith) o)
      ∙ rw (row_set (c * 525) o, e, table_read f c h)

  pub table_run : (T : List (Parse ℕ)) → set_at g (c * 525 + 268) ≡ T → Only f g (c * 525 + 268) 257 →
      table g ≡ on_row (table f) c (with_run T)
  table_run T e o =
      table_change f g c h (only_wide (c * 525) 525 (omega arith) (omega arith) o)
      ∙ rw (row_run (c * 525) o, e, table_read f c h)

  -- ---- Sets that grow
  pub run_added : (r : Bool) (p : Parse ℕ) → Added r f g (c * 525 + 268) p → RunAdded r (table f) (table g) c p
  run_added r p a =
      record {
        now = λ s. rw (read_run f c h, read_run g c h) (a.now s);
        only = table_run (row_of (table g) c).run (sym (read_run g c h)) a.only;
      }

  pub run_joined : (r : Bool) → AllAdded r f g (c * 525 + 11) (c * 525 + 268) → RunJoined r (table f) (table g) c
  run_joined r a =
      record {
        now = λ s. rw (read_set f c h, read_run f c h, read_set g c h) (a.now s);
        only = table_set (row_of (table g) c).set (sym (read_set g c h)) a.only;
      }

-- what the use of row d keeps of that row's set
pub kept_law : (f g : List ℕ) (c d : ℕ) → c ≤ 200 → d ≤ 200 → (b l : ℕ) (a : Associativity) →
    b ≡ (row_of (table f) d).associativity → a ≡ associativity_of b →
    l ≡ (row_of (table f) d).level → Kept f g (c * 525 + 11) (d * 525 + 11) a l →
    table g ≡ on_row (table f) c (with_set (kept (use_at (row_of (table f) d)) (row_of (table f) d).set))
kept_law f g c d h k b l a eb ea el K =
    table_set f g c h (kept (use_at (row_of (table f) d)) (row_of (table f) d).set)
    (K.now (use_at (row_of (table f) d)) (sym (ea ∙ ap associativity_of eb)) (sym el)
    ∙ ap (kept (use_at (row_of (table f) d))) (sym (read_set f d k)))
    K.only

-- a set that is cleared, then gets a parse
pub set_one : (f g k : List ℕ) (c : ℕ) → c ≤ 200 → (r : Bool) (p : Parse ℕ) → Becomes f g (c * 525 + 11) [] →
    Appended r g k (c * 525 + 11) p → table k ≡ on_row (table f) c (with_set (p ∷ []))
unfolding appended
set_one f g k c h r p B A = table_set f k c h (p ∷ []) (A.now ∙ rw B.now) (only_trans B.only A.only)
