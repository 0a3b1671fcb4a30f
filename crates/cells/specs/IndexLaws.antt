-- Laws of the index: every equal cell is found, by what `Holds` says, and the first equal one is found, since equal
-- ones stand in a list once.
--
-- Contents:
-- - along a bucket: find_none, find_end, find_hit, find_less
-- - the first equal cell in a list: nowhere, first_at
-- - in a store that holds the cells: not-found, finds
use Rattle.std.specs.Prelude.{◌≡◌, true, false, eqb, length, get_or}
use Rattle.std.proofs.Math.Path.{refl}
use Rattle.std.proofs.Common.{sym, ◌∙◌, arith, eq-eqb, ne_eqb, eqb-true}
use mathlib.Core.List.{List, [], ◌∷◌}
use Prim.Native.Nat.{ℕ, zero, suc, ◌+◌, ◌≤◌, ◌<◌}
use Rattle.std.proofs.lemmas.Bool.{eqb-false}
use Rattle.characters.specs.Cases.{by_test}
use Rattle.characters.specs.Spelling.{same}
use Rattle.characters.proofs.SpellingLaws.{same_equal, same_itself}
use Rattle.semantics.specs.Cells.{Cell, numbers_of, identity_of, find_cell}
use Rattle.cells.specs.declared.numbers.CellNumbers.{CellNumbers}
use Rattle.cells.specs.Store.{listed, identity_in, same_in, hash_of, numbers_at, link_at, head_at, find_in, Leads, here}
use Rattle.cells.specs.Store.{next, Holds}
use Rattle.cells.specs.NumbersLaws.{identity_numbers, hash_lt}

-- ---- Along a bucket
module _ (text store : List ℕ) (c : CellNumbers) where
  pub find_none : (k n : ℕ) → k ≡ 0 → find_in text store c k n ≡ 0
  unfolding find_in
  find_none zero n e = refl
  find_none (suc k) n e = absurd (omega arith)

  pub find_end : (k n : ℕ) → n ≡ 0 → find_in text store c k n ≡ 0
  unfolding find_in
  find_end zero n e = refl
  find_end (suc k) n e = rw (eq-eqb n 0 e, find_in)

  pub find_hit : (k n : ℕ) → 0 < k → (n ≡ 0 → ⊥) → same_in text c (numbers_at store n) ≡ true →
      find_in text store c k n ≡ n
  unfolding find_in
  find_hit zero n l h e = absurd (omega arith)
  find_hit (suc k) n l h e = rw (ne_eqb n 0 h, e, find_in)

  find_on : (k n : ℕ) → (n ≡ 0 → ⊥) → same_in text c (numbers_at store n) ≡ false →
      find_in text store c (suc k) n ≡ find_in text store c k (link_at store n)
  unfolding find_in
  find_on k n h e = rw (ne_eqb n 0 h, e, find_in)

  pub find_less : (k m n : ℕ) → k ≡ suc m → (n ≡ 0 → ⊥) → same_in text c (numbers_at store n) ≡ false
      → find_in text store c k n ≡ find_in text store c m (link_at store n)
  find_less k m n e h t = rw e (find_on m n h t)

-- ---- The first equal cell in a list
module _ (text : List ℕ) (cell : Cell) where
  abbrev Equal : List Cell → ℕ → Type 0
  Equal cells i = identity_of text cell ≡ identity_of text (get_or cells i Cell.empty)

  pub nowhere : (cells : List Cell) (n : ℕ) → ((i : ℕ) → i < length cells → Equal cells i → ⊥) →
      find_cell text cell n cells ≡ 0
  unfolding find_cell
  nowhere [] n h = refl
  nowhere (d ∷ cells) n h =
      by_test (same (identity_of text cell) (identity_of text d))
      (λ t. absurd (h 0 (omega arith) (same_equal (identity_of text cell) (identity_of text d) t)))
      (λ t. rw (t, find_cell) (nowhere cells (suc n) (λ i l e. h (suc i) (omega arith) e)))

  pub first_at : (cells : List Cell) (n i : ℕ) → i < length cells → Equal cells i →
      ((k : ℕ) → k < i → Equal cells k → ⊥) → find_cell text cell n cells ≡ n + i
  unfolding find_cell
  first_at [] n i l e h = absurd (omega arith)
  first_at (d ∷ cells) n zero l e h = rw (e, same_itself (identity_of text d), find_cell) (omega arith)
  first_at (d ∷ cells) n (suc i) l e h =
      by_test (same (identity_of text cell) (identity_of text d))
      (λ t. absurd (h 0 (omega arith) (same_equal (identity_of text cell) (identity_of text d) t)))
      (λ t.
      rw (t, find_cell) (first_at cells (suc n) i (omega arith) e (λ k m z. h (suc k) (omega arith) z) ∙ omega arith))

-- ---- In a store that holds the cells
module _ (text store : List ℕ) (cells : List Cell) (held : Holds text store cells) (cell : Cell) (c : CellNumbers)
    (numbers : listed c ≡ numbers_of cell) where
  identities : (i : ℕ) → i < length cells →
      identity_in text (numbers_at store (suc i)) ≡ identity_of text (get_or cells i Cell.empty)
  identities i l = identity_numbers text (get_or cells i Cell.empty) (numbers_at store (suc i)) (held.stored i l)

  -- what is found is equal
  record Hit (n : ℕ) : Type 0 where
    place : ℕ
    is : n ≡ suc place
    inside : place < length cells
    equal : Equal text cell cells place

  hit_here : (n : ℕ) → (n ≡ 0 → ⊥) → n ≤ length cells → same_in text c (numbers_at store n) ≡ true → Hit n
  hit_here zero h l t = absurd (h refl)
  hit_here (suc i) h l t = record {
    place = i;
    is = refl;
    inside = l;
    equal = sym (identity_numbers text cell c numbers)
        ∙ same_equal (identity_in text c) (identity_in text (numbers_at store (suc i))) t ∙ identities i l;
  }

  hit : (k n : ℕ) → n ≤ length cells → (find_in text store c k n ≡ 0 → ⊥) → Hit (find_in text store c k n)
  hit zero n l h = absurd (h (find_none text store c 0 n refl))
  hit (suc k) n l h =
      by_test (eqb n 0)
      (λ z. absurd (h (find_end text store c (suc k) n (eqb-true n 0 z))))
      (λ z.
      let some_cell = eqb-false n 0 z in
      by_test (same_in text c (numbers_at store n))
      (λ t. rw (find_hit text store c (suc k) n (omega arith) some_cell t) (hit_here n some_cell l t))
      (λ t.
      let on = find_on text store c k n some_cell t in
      let older = held.older n (omega (arith, some_cell)) l in
      rw on (hit k (link_at store n) (omega arith) (λ e. h (on ∙ e)))))

  -- an equal cell in the bucket is found
  leads_found : (k m n : ℕ) → Leads store m n → m ≤ length cells → m ≤ k → 0 < n →
      same_in text c (numbers_at store n) ≡ true → find_in text store c k m ≡ 0 → ⊥
  leads_found k m n here l few p t e =
      let f = find_hit text store c k m (omega arith) (λ z. omega arith) t in omega arith
  leads_found zero m n (next h d) l few p t e = h (omega arith)
  leads_found (suc k) m n (next h d) l few p t e =
      by_test (same_in text c (numbers_at store m))
      (λ u. h (sym (find_hit text store c (suc k) m (omega arith) h u) ∙ e))
      (λ u.
      let older = held.older m (omega (arith, h)) l in
      leads_found k (link_at store m) n d (omega arith) (omega arith) p t (sym (find_on text store c k m h u) ∙ e))

  abbrev sought : ℕ
  sought = find_in text store c (length cells) (head_at store (hash_of text c))

  head_in : head_at store (hash_of text c) ≤ length cells
  head_in = held.heads (hash_of text c) (hash_lt text c)

  -- where nothing is found, no cell is equal
  pub not_found : sought ≡ 0 → (i : ℕ) → i < length cells → Equal text cell cells i → ⊥
  not_found e i l equal =
      let same_identity = identity_numbers text cell c numbers ∙ equal ∙ sym (identities i l) in
      let leads : Leads store (head_at store (hash_of text c))
      (suc i) = rw same_identity (held.reached (suc i) (omega arith) l) in
      let equal_numbers : same_in text c (numbers_at store (suc i)) ≡ true =
      rw same_identity (same_itself (identity_in text (numbers_at store (suc i)))) in
      leads_found (length cells) (head_at store (hash_of text c)) (suc i) leads head_in head_in
      (omega arith) equal_numbers e

  -- the code finds what the definition finds
  pub finds : find_cell text cell 1 cells ≡ sought
  finds =
      by_test (eqb sought 0)
      (λ z. let none = eqb-true sought 0 z in nowhere text cell cells 1 (not_found none) ∙ sym none)
      (λ z.
      let f = hit (length cells) (head_at store (hash_of text c)) head_in (eqb-false sought 0 z) in
      first_at text cell cells 1 f.place f.inside f.equal
      (λ k l e. let same_place =
      held.once k f.place (let m = f.inside in omega arith) f.inside (sym e ∙ f.equal) in omega arith)
      ∙ sym (f.is ∙ omega arith))
