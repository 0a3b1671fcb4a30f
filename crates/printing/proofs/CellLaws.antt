-- What is printed of a cell, by its form.
--
--   read_none, read_part, older_less     a cell of a list of numbers, and the older ones
--   spelling-, plain-                    the bytes of a name, a number, a variable, a declared one, absent
--   gap-                                 what stands before an item
--   item-, items-                        the bytes of a cell and of a chain
--
-- The plan. A cell's meaning goes by the cells before it (`meanings`); here it goes by the cell and what the older
-- cells stand for among all (`stands_is`). Then the bytes of a cell follow, form by form. Not here: numbers in decimal
-- (NumberLaws).
use Rattle.std.specs.Prelude.{◌≡◌, Bool, false, cond, ◌⊎◌, ltb, eqb, length, get_or, take, drop}
use Rattle.std.proofs.Math.Path.{refl, ap}
use Rattle.std.proofs.Common.{sym, ◌∙◌, inl, inr, ⊎_elim, take-append-drop, length-take-le}
use Rattle.std.proofs.Math.Bool.{true}
use mathlib.Core.List.{List, [], ◌∷◌, ◌++◌, append_assoc}
use Prim.Native.Nat.{ℕ, zero, suc, ◌+◌, ◌-◌, ◌*◌, ◌^◌, ◌≤◌, ◌<◌}
use native.Mathlib.Omega.{arith}
use Rattle.std.proofs.Math.ListN.{length-append, get_or-eq_default}
use Rattle.std.proofs.lemmas.List.{get_or-drop, get_or-take}
use Rattle.std.proofs.Math.Seq.{split_at, drop-append-le}
use borrow.Author.Tests.{lt-ltb, le-ltb, ltb-true, ltb-false, eq-eqb, ne_eqb}
use Rattle.characters.specs.Cases.{by_test}
use Rattle.characters.specs.Spelling.{part_of}
use Rattle.book.specs.Book.{Entry, nth_entry}
use Rattle.semantics.specs.Values.{Tree, no_trees, ◌▸◌}
use Rattle.semantics.specs.Cells.{Cell, numbers_of, cell_of, cells_in, Meaning, one, several, tree_in, trees_in}
use Rattle.semantics.specs.Cells.{meaning_of}
use Rattle.semantics.specs.Cells.{meanings}
use Rattle.semantics.proofs.Theorem.Meanings.{meaning, Prefix, still, new_meaning}
use Rattle.cells.specs.Store.{listed}
use Rattle.cells.specs.declared.numbers.CellNumbers.{CellNumbers}
use Rattle.printing.specs.Printing.{decimal, declared_bytes, printed, spaced}
use Rattle.printing.specs.Cells.{cell_in, CellRead, older_than, stands, spelling_of, plain_bytes, item_bytes}
use Rattle.printing.specs.Cells.{items_bytes, is_chain, gap_bytes}

-- ---- Cells in numbers
cells_at : (numbers : List ℕ) (i p : ℕ) → p ≡ i * 3 → p + 3 ≤ length numbers
    → get_or (cells_in numbers) i Cell.empty
    ≡ cell_of (get_or numbers p 0) (get_or numbers (p + 1) 0) (get_or numbers (p + 2) 0)
unfolding cells_in
cells_at [] i p e h = absurd (omega arith)
cells_at (form ∷ []) i p e h = absurd (omega arith)
cells_at (form ∷ a ∷ []) i p e h = absurd (omega arith)
cells_at (form ∷ a ∷ b ∷ numbers) zero p e h = let none : p ≡ 0 = omega arith in rw none
cells_at (form ∷ a ∷ b ∷ numbers) (suc i) p e h =
    let q : p ≡ suc (suc (suc (i * 3))) = omega arith in
    let q1 : suc (suc (suc (i * 3))) + 1 ≡ suc (suc (suc (i * 3 + 1))) = omega arith in
    let q2 : suc (suc (suc (i * 3))) + 2 ≡ suc (suc (suc (i * 3 + 2))) = omega arith in
    rw (q, q1, q2) (cells_at numbers i (i * 3) refl (omega arith))

cells_in_lem : (numbers : List ℕ) (i : ℕ) → i * 3 + 3 ≤ length numbers → i < length (cells_in numbers)
unfolding cells_in
cells_in_lem [] i h = absurd (omega arith)
cells_in_lem (form ∷ []) i h = absurd (omega arith)
cells_in_lem (form ∷ a ∷ []) i h = absurd (omega arith)
cells_in_lem (form ∷ a ∷ b ∷ numbers) zero h = omega arith
cells_in_lem (form ∷ a ∷ b ∷ numbers) (suc i) h = let r = cells_in_lem numbers i (omega arith) in omega arith

cells_out : (numbers : List ℕ) (i : ℕ) → length numbers < i * 3 + 3 → length (cells_in numbers) ≤ i
unfolding cells_in
cells_out [] i h = omega arith
cells_out (form ∷ []) i h = omega arith
cells_out (form ∷ a ∷ []) i h = omega arith
cells_out (form ∷ a ∷ b ∷ numbers) zero h = absurd (omega arith)
cells_out (form ∷ a ∷ b ∷ numbers) (suc i) h = let r = cells_out numbers i (omega arith) in omega arith

cell_none : (numbers : List ℕ) (n : ℕ) → (n ≡ 0) ⊎ (length numbers < n * 3) → cell_in numbers n ≡ Cell.absent
cell_none numbers n h =
    ⊎_elim
    (λ z. rw (eq-eqb n 0 z))
    (λ z. by_test (eqb n 0) (λ t. rw t) (λ t. rw (t, lt-ltb (length numbers) (n * 3) z)))
    h

cell_some : (numbers : List ℕ) (i : ℕ) → i * 3 + 3 ≤ length numbers →
    cell_in numbers (suc i) ≡ get_or (cells_in numbers) i Cell.empty
cell_some numbers i h =
    let at : suc i * 3 - 3 ≡ i * 3 = omega arith in
    let some : suc i ≡ 0 → ⊥ = λ z. omega arith in
    rw (ne_eqb (suc i) 0 some, le-ltb (length numbers) (suc i * 3) (omega arith), at)
    (sym (cells_at numbers i (i * 3) refl h))

-- ---- Cells that are read
pub read_none : (numbers : List ℕ) (n : ℕ) (c : CellNumbers) → listed c ≡ numbers_of Cell.absent →
    (n ≡ 0) ⊎ (length numbers < n * 3) → CellRead numbers n c
unfolding numbers_of
read_none numbers n c e h =
    let form : c.form ≡ 7 = cc in
    record { is = rw form (sym (cell_none numbers n h)); placed = λ other. absurd (other form) }

pub read_some : (numbers : List ℕ) (n : ℕ) → 0 < n → n * 3 ≤ length numbers
    → cell_of (get_or numbers (n * 3 - 3) 0) (get_or numbers (n * 3 - 3 + 1) 0) (get_or numbers (n * 3 - 3 + 2) 0)
    ≡ cell_in numbers n
read_some numbers n some h =
    let new : n ≡ 0 → ⊥ = λ z. omega arith in
    rw (ne_eqb n 0 new, le-ltb (length numbers) (n * 3) h)

module _ (numbers part : List ℕ) (n : ℕ) (some : 0 < n) (h : n * 3 ≤ length numbers)
    (is : part ≡ take (n * 3 - (n * 3 - 3)) (drop (n * 3 - 3) numbers)) where
  part_at : (k : ℕ) → k < 3 → get_or part k 0 ≡ get_or numbers (n * 3 - 3 + k) 0
  part_at k inside =
      let three : n * 3 - (n * 3 - 3) ≡ 3 = omega (arith, some) in
      rw (is, three)
      (get_or-take 3 (drop (n * 3 - 3) numbers) k 0 inside ∙ get_or-drop (n * 3 - 3) numbers k 0)

  pub read_part : cell_of (get_or part 0 0) (get_or part 1 0) (get_or part 2 0) ≡ cell_in numbers n
  read_part =
      let first : n * 3 - 3 + 0 ≡ n * 3 - 3 = omega arith in
      rw (part_at 0 (omega arith), part_at 1 (omega arith), part_at 2 (omega arith), first)
      (read_some numbers n some h)

pub older_less : (n c : ℕ) → 0 < n → older_than n c < n
older_less n c h = by_test (ltb c n) (λ t. let less = ltb-true c n t in rw t (omega arith)) (λ t. rw t h)

-- ---- What a cell stands for, by the older cells
module _ (text : List ℕ) where
  meanings_length : (before : List Meaning) (C : List Cell) → length (meanings text before C) ≡ length before + length C
  unfolding meanings
  meanings_length before [] = omega arith
  meanings_length before (c ∷ C) =
      let l = length-append before (meaning_of text before c ∷ []) in
      let k = meanings_length (before ++ (meaning_of text before c ∷ [])) C in
      omega arith

  past_meaning : (C : List Cell) (n : ℕ) → length C < n → meaning text C n ≡ one Tree.absent
  past_meaning C zero h = refl
  past_meaning C (suc i) h =
      let l : length (meanings text [] C) ≡ length C = meanings_length [] C ∙ omega arith in
      let past : length (meanings text [] C) ≤ i = omega arith in
      get_or-eq_default (meanings text [] C) (one Tree.absent) past

  -- the meaning of cell m as it was when the first i cells were there
  as_then : (C : List Cell) (i m : ℕ) → i ≤ length C → meaning text (take i C) m ≡ meaning text C (older_than (suc i) m)
  as_then C i zero h = rw (lt-ltb 0 (suc i) (omega arith))
  as_then C i (suc m) h =
      let size : length (take i C) ≡ i = length-take-le i C h in
      by_test (ltb (suc m) (suc i))
      (λ t.
      let inside = ltb-true (suc m) (suc i) t in
      let prefix : Prefix (take i C) C = record { more = drop i C; is = sym (take-append-drop i C) } in
      rw t (sym (still text prefix (suc m) (record { least = omega arith; most = omega arith }))))
      (λ t.
      let outside = ltb-false (suc m) (suc i) t in
      rw t (past_meaning (take i C) (suc m) (omega arith)))

  new_one : (C : List Cell) (i : ℕ) → i < length C →
      meaning text C (suc i) ≡ meaning_of text (meanings text [] (take i C)) (get_or C i Cell.empty)
  new_one C i h =
      let c = get_or C i Cell.empty in
      let size : length (take i C) ≡ i = length-take-le i C (omega arith) in
      let split : C ≡ (take i C ++ (c ∷ [])) ++ drop (suc i) C =
      split_at C i Cell.empty h ∙ sym (append_assoc (take i C) (c ∷ []) (drop (suc i) C)) in
      let prefix : Prefix (take i C ++ (c ∷ [])) C = record { more = drop (suc i) C; is = split } in
      let long = length-append (take i C) (c ∷ []) in
      still text prefix (suc i) (record { least = omega arith; most = omega arith })
      ∙ ap (λ (k : ℕ). meaning text (take i C ++ (c ∷ [])) (suc k)) (sym size)
      ∙ new_meaning text (take i C) c

  module _ (numbers : List ℕ) where
    -- `meaning_of`, with older cells by what they stand for among all
    meaning_by : ℕ → Cell → Meaning
    meaning_by n Cell.empty = several no_trees
    meaning_by n (Cell.chain c item) =
        several (trees_in (stands text numbers (older_than n c)) ▸ tree_in (stands text numbers (older_than n item)))
    meaning_by n (Cell.variant j c) = one (Tree.variant j (trees_in (stands text numbers (older_than n c))))
    meaning_by n (Cell.name place size) = one (Tree.name (part_of text place size))
    meaning_by n (Cell.number high low) = one (Tree.number (high * 2 ^ 32 + low))
    meaning_by n (Cell.variable i kind) = one (Tree.variable i kind)
    meaning_by n Cell.absent = one Tree.absent
    meaning_by n (Cell.list c) = one (Tree.list (trees_in (stands text numbers (older_than n c))))
    meaning_by n (Cell.declared depth index) = one (Tree.declared depth index)

    by_older : (i : ℕ) → i ≤ length (cells_in numbers) → (c : Cell) →
        meaning_of text (meanings text [] (take i (cells_in numbers))) c ≡ meaning_by (suc i) c
    unfolding meaning_of meaning_by
    by_older i h Cell.empty = refl
    by_older i h (Cell.chain c item) = rw (as_then (cells_in numbers) i c h, as_then (cells_in numbers) i item h)
    by_older i h (Cell.variant j c) = rw (as_then (cells_in numbers) i c h)
    by_older i h (Cell.name place size) = refl
    by_older i h (Cell.number high low) = refl
    by_older i h (Cell.variable k kind) = refl
    by_older i h Cell.absent = refl
    by_older i h (Cell.list c) = rw (as_then (cells_in numbers) i c h)
    by_older i h (Cell.declared depth index) = refl

    stands_is : (n : ℕ) → stands text numbers n ≡ meaning_by n (cell_in numbers n)
    unfolding meaning_by
    stands_is zero = refl
    stands_is (suc i) =
        by_test (ltb (length numbers) (suc i * 3))
        (λ t.
        let out = ltb-true (length numbers) (suc i * 3) t in
        let none = cells_out numbers i (omega arith) in
        past_meaning (cells_in numbers) (suc i) (omega arith)
        ∙ ap (meaning_by (suc i)) (sym (cell_none numbers (suc i) (inr out))))
        (λ t.
        let within = ltb-false (length numbers) (suc i * 3) t in
        let some = cells_in_lem numbers i (omega arith) in
        new_one (cells_in numbers) i some
        ∙ by_older i (omega arith) (get_or (cells_in numbers) i Cell.empty)
        ∙ ap (meaning_by (suc i)) (sym (cell_some numbers i (omega arith))))

-- ---- The form of a cell
form_of : Cell → ℕ
form_of Cell.empty = 1
form_of (Cell.chain c item) = 2
form_of (Cell.variant j c) = 3
form_of (Cell.name place size) = 4
form_of (Cell.number high low) = 5
form_of (Cell.variable i kind) = 6
form_of Cell.absent = 7
form_of (Cell.list c) = 8
form_of (Cell.declared depth index) = 9

-- any number but 2 to 9 is read as the form of an empty chain
form_is : (form a b : ℕ) → (form_of (cell_of form a b) ≡ 1) ⊎ (form_of (cell_of form a b) ≡ form)
unfolding form_of
form_is zero a b = inl refl
form_is (suc zero) a b = inl refl
form_is (suc (suc zero)) a b = inr refl
form_is (suc (suc (suc zero))) a b = inr refl
form_is (suc (suc (suc (suc zero)))) a b = inr refl
form_is (suc (suc (suc (suc (suc zero))))) a b = inr refl
form_is (suc (suc (suc (suc (suc (suc zero)))))) a b = inr refl
form_is (suc (suc (suc (suc (suc (suc (suc zero))))))) a b = inr refl
form_is (suc (suc (suc (suc (suc (suc (suc (suc zero)))))))) a b = inr refl
form_is (suc (suc (suc (suc (suc (suc (suc (suc (suc zero))))))))) a b = inr refl
form_is (suc (suc (suc (suc (suc (suc (suc (suc (suc (suc k)))))))))) a b =
    let e : suc (suc (suc (suc (suc (suc (suc (suc (suc (suc k))))))))) - 1
    ≡ suc (suc (suc (suc (suc (suc (suc (suc (suc k)))))))) = omega arith in
    inl (rw e)

-- a cell is not of a form that its number isn't
form_not : (form a b k : ℕ) → (form ≡ k → ⊥) → (k ≡ 1 → ⊥) → (c : Cell) → cell_of form a b ≡ c → form_of c ≡ k → ⊥
form_not form a b k h g c e f =
    ⊎_elim
    (λ z. g (sym (ap form_of e ∙ f) ∙ z))
    (λ z. h (sym z ∙ ap form_of e ∙ f))
    (form_is form a b)

-- ---- Bytes of plain cells
module _ (names : List Entry) (text : List ℕ) where
  spelling_by : (c : Cell) → (form_of c ≡ 4 → ⊥) → (form_of c ≡ 6 → ⊥) → spelling_of names text c ≡ []
  unfolding spelling_of form_of
  spelling_by Cell.empty n4 n6 = refl
  spelling_by (Cell.chain c item) n4 n6 = refl
  spelling_by (Cell.variant j c) n4 n6 = refl
  spelling_by (Cell.name place size) n4 n6 = absurd (n4 refl)
  spelling_by (Cell.number high low) n4 n6 = refl
  spelling_by (Cell.variable i kind) n4 n6 = absurd (n6 refl)
  spelling_by Cell.absent n4 n6 = refl
  spelling_by (Cell.list c) n4 n6 = refl
  spelling_by (Cell.declared depth index) n4 n6 = refl

  plain_by : (c : Cell) → (form_of c ≡ 4 → ⊥) → (form_of c ≡ 5 → ⊥) → (form_of c ≡ 6 → ⊥) → (form_of c ≡ 9 → ⊥) →
      plain_bytes names text c ≡ 45 ∷ []
  unfolding plain_bytes form_of
  plain_by Cell.empty n4 n5 n6 n9 = refl
  plain_by (Cell.chain c item) n4 n5 n6 n9 = refl
  plain_by (Cell.variant j c) n4 n5 n6 n9 = refl
  plain_by (Cell.name place size) n4 n5 n6 n9 = absurd (n4 refl)
  plain_by (Cell.number high low) n4 n5 n6 n9 = absurd (n5 refl)
  plain_by (Cell.variable i kind) n4 n5 n6 n9 = absurd (n6 refl)
  plain_by Cell.absent n4 n5 n6 n9 = refl
  plain_by (Cell.list c) n4 n5 n6 n9 = refl
  plain_by (Cell.declared depth index) n4 n5 n6 n9 = absurd (n9 refl)

  module _ (form a b : ℕ) where
    pub spelling_name : form ≡ 4 → spelling_of names text (cell_of form a b) ≡ part_of text a b
    unfolding spelling_of
    spelling_name e = rw e

    pub spelling_variable : form ≡ 6 → spelling_of names text (cell_of form a b) ≡ (nth_entry names a).spelling
    unfolding spelling_of
    spelling_variable e = rw e

    pub spelling_none : (form ≡ 4 → ⊥) → (form ≡ 6 → ⊥) → spelling_of names text (cell_of form a b) ≡ []
    spelling_none n4 n6 =
        spelling_by (cell_of form a b)
        (form_not form a b 4 n4 (λ z. omega arith) (cell_of form a b) refl)
        (form_not form a b 6 n6 (λ z. omega arith) (cell_of form a b) refl)

    pub plain_name : form ≡ 4 → plain_bytes names text (cell_of form a b) ≡ spelling_of names text (cell_of form a b)
    unfolding plain_bytes spelling_of
    plain_name e = rw e

    pub plain_number : form ≡ 5 → plain_bytes names text (cell_of form a b) ≡ decimal (a * 4294967296 + b)
    unfolding plain_bytes
    plain_number e = rw e

    pub plain_variable : form ≡ 6 →
        plain_bytes names text (cell_of form a b) ≡ 36 ∷ spelling_of names text (cell_of form a b)
    unfolding plain_bytes spelling_of
    plain_variable e = rw e

    pub plain_declared : form ≡ 9 → plain_bytes names text (cell_of form a b) ≡ declared_bytes a b
    unfolding plain_bytes
    plain_declared e = rw e

    pub plain_absent : (form ≡ 4 → ⊥) → (form ≡ 5 → ⊥) → (form ≡ 6 → ⊥) → (form ≡ 9 → ⊥) →
        plain_bytes names text (cell_of form a b) ≡ 45 ∷ []
    plain_absent n4 n5 n6 n9 =
        plain_by (cell_of form a b)
        (form_not form a b 4 n4 (λ z. omega arith) (cell_of form a b) refl)
        (form_not form a b 5 n5 (λ z. omega arith) (cell_of form a b) refl)
        (form_not form a b 6 n6 (λ z. omega arith) (cell_of form a b) refl)
        (form_not form a b 9 n9 (λ z. omega arith) (cell_of form a b) refl)

-- ---- Whether a cell is a chain
chain_by : (c : Cell) → (form_of c ≡ 2 → ⊥) → is_chain c ≡ false
unfolding is_chain form_of
chain_by Cell.empty n2 = refl
chain_by (Cell.chain c item) n2 = absurd (n2 refl)
chain_by (Cell.variant j c) n2 = refl
chain_by (Cell.name place size) n2 = refl
chain_by (Cell.number high low) n2 = refl
chain_by (Cell.variable i kind) n2 = refl
chain_by Cell.absent n2 = refl
chain_by (Cell.list c) n2 = refl
chain_by (Cell.declared depth index) n2 = refl

module _ (numbers : List ℕ) (n form a b : ℕ) (is : cell_of form a b ≡ cell_in numbers n) where
  pub gap_variant : (32 ∷ []) ≡ gap_bytes numbers false n
  gap_variant = refl

  pub gap_later : form ≡ 2 → gap_bytes numbers true n ≡ 32 ∷ []
  unfolding is_chain
  gap_later e = let chained : is_chain (cell_in numbers n) ≡ true = ap is_chain (sym is) ∙ rw e in rw chained

  pub gap_first : (form ≡ 2 → ⊥) → gap_bytes numbers true n ≡ []
  gap_first n2 =
      let other : is_chain (cell_in numbers n) ≡ false =
      ap is_chain (sym is)
      ∙ chain_by (cell_of form a b) (form_not form a b 2 n2 (λ z. omega arith) (cell_of form a b) refl) in
      rw other

-- ---- Bytes of a cell, by its form
module _ (names : List Entry) (text numbers : List ℕ) where
  item_by : (n : ℕ) (c : Cell) → (form_of c ≡ 3 → ⊥) → (form_of c ≡ 8 → ⊥) →
      printed names (tree_in (meaning_by text numbers n c)) ≡ plain_bytes names text c
  unfolding printed tree_in meaning_by plain_bytes form_of
  item_by n Cell.empty n3 n8 = refl
  item_by n (Cell.chain c item) n3 n8 = refl
  item_by n (Cell.variant j c) n3 n8 = absurd (n3 refl)
  item_by n (Cell.name place size) n3 n8 = refl
  item_by n (Cell.number high low) n3 n8 = refl
  item_by n (Cell.variable i kind) n3 n8 = refl
  item_by n Cell.absent n3 n8 = refl
  item_by n (Cell.list c) n3 n8 = absurd (n8 refl)
  item_by n (Cell.declared depth index) n3 n8 = refl

  trees_by : (n : ℕ) (c : Cell) → (form_of c ≡ 2 → ⊥) → trees_in (meaning_by text numbers n c) ≡ no_trees
  unfolding trees_in meaning_by form_of
  trees_by n Cell.empty n2 = refl
  trees_by n (Cell.chain c item) n2 = absurd (n2 refl)
  trees_by n (Cell.variant j c) n2 = refl
  trees_by n (Cell.name place size) n2 = refl
  trees_by n (Cell.number high low) n2 = refl
  trees_by n (Cell.variable i kind) n2 = refl
  trees_by n Cell.absent n2 = refl
  trees_by n (Cell.list c) n2 = refl
  trees_by n (Cell.declared depth index) n2 = refl

  -- a list's items with one more: the first of all has no space before it
  one_more : (n : ℕ) (c : Cell) (p : List ℕ)
      → drop 1 (spaced names (trees_in (meaning_by text numbers n c)) ++ (32 ∷ p))
      ≡ drop 1 (spaced names (trees_in (meaning_by text numbers n c))) ++ (cond (is_chain c) (32 ∷ []) [] ++ p)
  unfolding spaced trees_in meaning_by is_chain
  one_more n Cell.empty p = refl
  one_more n (Cell.chain c item) p =
      let ts = trees_in (stands text numbers (older_than n c)) in
      let t = tree_in (stands text numbers (older_than n item)) in
      let long = length-append (spaced names ts) (32 ∷ printed names t) in
      drop-append-le 1 (spaced names ts ++ (32 ∷ printed names t)) (32 ∷ p) (omega arith)
  one_more n (Cell.variant j c) p = refl
  one_more n (Cell.name place size) p = refl
  one_more n (Cell.number high low) p = refl
  one_more n (Cell.variable i kind) p = refl
  one_more n Cell.absent p = refl
  one_more n (Cell.list c) p = refl
  one_more n (Cell.declared depth index) p = refl

  after_items : (n : ℕ) (p : List ℕ)
      → drop 1 (spaced names (trees_in (stands text numbers n)) ++ (32 ∷ p))
      ≡ items_bytes names text numbers true n ++ (gap_bytes numbers true n ++ p)
  after_items n p = rw (stands_is text numbers n) (one_more n (cell_in numbers n) p)

  module _ (n form a b : ℕ) (is : cell_of form a b ≡ cell_in numbers n) where
    stands_of : stands text numbers n ≡ meaning_by text numbers n (cell_of form a b)
    stands_of = stands_is text numbers n ∙ ap (meaning_by text numbers n) (sym is)

    pub item_variant : (chain : ℕ) → chain ≡ older_than n b → form ≡ 3
        → 40 ∷ (decimal a ++ (items_bytes names text numbers false chain ++ (41 ∷ [])))
        ≡ item_bytes names text numbers n
    unfolding printed tree_in meaning_by
    item_variant chain older e = rw older (sym (rw (stands_of, e)))

    pub item_list : (chain : ℕ) → chain ≡ older_than n a → form ≡ 8 →
        91 ∷ (items_bytes names text numbers true chain ++ (93 ∷ [])) ≡ item_bytes names text numbers n
    unfolding printed tree_in meaning_by
    item_list chain older e = rw older (sym (rw (stands_of, e)))

    pub item_plain : (form ≡ 3 → ⊥) → (form ≡ 8 → ⊥) →
        plain_bytes names text (cell_of form a b) ≡ item_bytes names text numbers n
    item_plain n3 n8 =
        sym
        (rw stands_of
        (item_by n (cell_of form a b)
        (form_not form a b 3 n3 (λ z. omega arith) (cell_of form a b) refl)
        (form_not form a b 8 n8 (λ z. omega arith) (cell_of form a b) refl)))

    pub items_none : (inList : Bool) → (form ≡ 2 → ⊥) → [] ≡ items_bytes names text numbers inList n
    unfolding spaced
    items_none inList n2 =
        let none : trees_in (stands text numbers n) ≡ no_trees =
        ap trees_in stands_of
        ∙ trees_by n (cell_of form a b) (form_not form a b 2 n2 (λ z. omega arith) (cell_of form a b) refl) in
        by_test inList (λ t. rw (t, none)) (λ t. rw (t, none))

    pub items_chain : (inList : Bool) (chain last : ℕ) → chain ≡ older_than n a → last ≡ older_than n b → form ≡ 2
        → items_bytes names text numbers inList chain
        ++ (gap_bytes numbers inList chain ++ item_bytes names text numbers last)
        ≡ items_bytes names text numbers inList n
    unfolding spaced trees_in meaning_by
    items_chain inList chain last older older_last e =
        let trees : trees_in (stands text numbers n)
        ≡ trees_in (stands text numbers chain) ▸ tree_in (stands text numbers last) =
        rw (older, older_last) (ap trees_in stands_of ∙ rw e) in
        by_test inList
        (λ t. rw (t, trees) (sym (after_items chain (item_bytes names text numbers last)))) (λ t. rw (t, trees))
