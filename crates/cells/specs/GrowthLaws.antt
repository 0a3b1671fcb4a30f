-- One cell more: the store holds it with the others, and `make` is what the definitions say.
--
-- Contents:
-- - what a store after a push has: Pushed, has_pushed, pushed_by
-- - one cell more: holds_more
-- - `make`: making, makes_found, makes_new, makes_full
use Rattle.std.specs.Prelude.{Option, Some, None, ◌≡◌, refl, List, [], ◌∷◌, ◌++◌, ◌⊎◌, ℕ, suc, ◌+◌, ◌-◌, ◌*◌, ◌≤◌}
use Rattle.std.specs.Prelude.{◌<◌, eqb, ltb, length}
use Rattle.std.specs.Prelude.{get_or}
use Rattle.std.proofs.Common.{sym, ap, ◌∙◌, inl, inr, arith, add-one, length-append}
use Rattle.std.proofs.Math.ListN.{set, length-set, get_or-append}
use Rattle.std.proofs.Math.Seq.{get_or-set_same, get_or-set_other}
use Rattle.std.proofs.lemmas.List.{get_or_at}
use borrow.Author.Tests.{eq-eqb, ne_eqb, eqb-true, eqb-false, lt-ltb, le-ltb, ltb-true, ltb-false}
use Rattle.characters.specs.Cases.{by_test}
use Rattle.semantics.specs.Cells.{Cell, numbers_of, identity_of, find_cell}
use Rattle.semantics.specs.Run.{make}
use Rattle.cells.specs.declared.numbers.CellNumbers.{CellNumbers}
use Rattle.cells.specs.declared.store.Made.{Made}
use Rattle.cells.specs.Store.{cell_made, listed, hash_of, numbers_at, link_at, head_at, find_in, pushed, made_as}
use Rattle.cells.specs.Store.{made_in, Leads}
use Rattle.cells.specs.Store.{here, next, Holds, Making, Makes}
use Rattle.cells.specs.NumbersLaws.{hash_lt}
use Rattle.cells.specs.IndexLaws.{finds, not_found}

-- ---- What a store after a push has
pub record Pushed (f g : List ℕ) (c : CellNumbers) (n hash : ℕ) : Type 0 where
  pub long : length g ≡ length f
  pub form : get_or g (n * 3 - 3) 0 ≡ c.form
  pub a : get_or g (n * 3 - 3 + 1) 0 ≡ c.a
  pub b : get_or g (n * 3 - 3 + 2) 0 ≡ c.b
  pub link : link_at g n ≡ head_at f hash
  pub head : head_at g hash ≡ n
  pub before : (i : ℕ) → i < n * 3 - 3 → get_or g i 0 ≡ get_or f i 0
  pub links : (i : ℕ) → 0 < i → i < n → link_at g i ≡ link_at f i
  pub heads : (i : ℕ) → i < 1024 → (i ≡ hash → ⊥) → head_at g i ≡ head_at f i

module _ (f : List ℕ) (c : CellNumbers) (n hash : ℕ) (room : 17408 ≤ length f) (least : 0 < n) (most : n ≤ 4096)
    (small : hash < 1024) where
  abbrev one : List ℕ
  one = set f (n * 3 - 3) c.form

  abbrev two : List ℕ
  two = set one (n * 3 - 3 + 1) c.a

  abbrev three : List ℕ
  three = set two (n * 3 - 3 + 2) c.b

  abbrev four : List ℕ
  four = set three (12287 + n) (head_at f hash)

  past_head : (i : ℕ) → (i ≡ 16384 + hash → ⊥) → get_or (pushed f c n hash) i 0 ≡ get_or four i 0
  unfolding pushed
  past_head i h = get_or-set_other four (16384 + hash) i n 0 h

  past_link : (i : ℕ) → (i ≡ 12287 + n → ⊥) → get_or four i 0 ≡ get_or three i 0
  past_link i h = get_or-set_other three (12287 + n) i (head_at f hash) 0 h

  past_cell : (i : ℕ) → (i < n * 3 - 3) ⊎ (n * 3 ≤ i) → get_or three i 0 ≡ get_or f i 0
  past_cell i (inl h) =
      get_or-set_other two (n * 3 - 3 + 2) i c.b 0 (λ e. omega arith)
      ∙ get_or-set_other one (n * 3 - 3 + 1) i c.a 0 (λ e. omega arith)
      ∙ get_or-set_other f (n * 3 - 3) i c.form 0 (λ e. omega arith)
  past_cell i (inr h) =
      get_or-set_other two (n * 3 - 3 + 2) i c.b 0 (λ e. omega arith)
      ∙ get_or-set_other one (n * 3 - 3 + 1) i c.a 0 (λ e. omega arith)
      ∙ get_or-set_other f (n * 3 - 3) i c.form 0 (λ e. omega arith)

  low : (i : ℕ) → i < 12288 → get_or (pushed f c n hash) i 0 ≡ get_or three i 0
  low i h = past_head i (λ e. omega arith) ∙ past_link i (λ e. omega arith)

  pub has_pushed : Pushed f (pushed f c n hash) c n hash
  unfolding pushed
  has_pushed = record {
    long = simp length-set;
    form =
        low (n * 3 - 3) (omega arith)
        ∙ get_or-set_other two (n * 3 - 3 + 2) (n * 3 - 3) c.b 0 (λ e. omega arith)
        ∙ get_or-set_other one (n * 3 - 3 + 1) (n * 3 - 3) c.a 0 (λ e. omega arith)
        ∙ get_or-set_same f (n * 3 - 3) c.form 0 (omega arith);
    a =
        low (n * 3 - 3 + 1) (omega arith)
        ∙ get_or-set_other two (n * 3 - 3 + 2) (n * 3 - 3 + 1) c.b 0 (λ e. omega arith)
        ∙ get_or-set_same one (n * 3 - 3 + 1) c.a 0 (simp length-set (omega arith));
    b = low (n * 3 - 3 + 2) (omega arith) ∙ get_or-set_same two (n * 3 - 3 + 2) c.b 0 (simp length-set (omega arith));
    link = past_head (12287 + n) (λ e. omega arith)
        ∙ get_or-set_same three (12287 + n) (head_at f hash) 0 (simp length-set (omega arith));
    head = get_or-set_same four (16384 + hash) n 0 (simp length-set (omega arith));
    before = λ i h. low i (omega arith) ∙ past_cell i (inl h);
    links =
        λ i l h. past_head (12287 + i) (λ e. omega arith) ∙ past_link (12287 + i) (λ e. omega arith)
        ∙ past_cell (12287 + i) (inr (omega arith));
    heads =
        λ i l h. past_head (16384 + i) (λ e. h (omega arith)) ∙ past_link (16384 + i) (λ e. omega arith)
        ∙ past_cell (16384 + i) (inr (omega arith));
  }

-- by five stores
pub pushed_by : (f : List ℕ) (c : CellNumbers) (n hash older : ℕ) → older ≡ head_at f hash → {g₁ g₂ g₃ g₄ g₅ : List ℕ}
    → g₁ ≡ set f (n * 3 - 3) c.form → g₂ ≡ set g₁ (n * 3 - 3 + 1) c.a → g₃ ≡ set g₂ (n * 3 - 3 + 2) c.b →
    g₄ ≡ set g₃ (12287 + n) older → g₅ ≡ set g₄ (16384 + hash) n → g₅ ≡ pushed f c n hash
unfolding pushed
pushed_by f c n hash older e e₁ e₂ e₃ e₄ e₅ = rw (e₅, e₄, e₃, e₂, e₁, e)

-- ---- One cell more
module _ (text f g : List ℕ) (cells : List Cell) (held : Holds text f cells) (cell : Cell) (c : CellNumbers)
    (numbers : listed c ≡ numbers_of cell) (fits : length cells < 4096)
    (new : (i : ℕ) → i < length cells → identity_of text cell ≡ identity_of text (get_or cells i Cell.empty) → ⊥)
    (p : Pushed f g c (suc (length cells)) (hash_of text c)) where
  lengths : length (cells ++ (cell ∷ [])) ≡ suc (length cells)
  lengths = length-append cells (cell ∷ []) ∙ omega arith

  -- an earlier cell, or the last
  last_or : (i : ℕ) → i < length (cells ++ (cell ∷ [])) → (i ≡ length cells) ⊎ (i < length cells)
  last_or i l =
      by_test (ltb i (length cells))
      (λ t. inr (ltb-true i (length cells) t))
      (λ t. let k = ltb-false i (length cells) t in let m = lengths in inl (omega arith))

  last_is : get_or (cells ++ (cell ∷ [])) (length cells) Cell.empty ≡ cell
  last_is = get_or_at cells cell [] Cell.empty (length cells) refl

  earlier_is : (i : ℕ) → i < length cells → get_or (cells ++ (cell ∷ [])) i Cell.empty ≡ get_or cells i Cell.empty
  earlier_is i l = get_or-append cells (cell ∷ []) Cell.empty i l

  -- the numbers of an earlier cell are as they were
  numbers_still : (n : ℕ) → 0 < n → n ≤ length cells → numbers_at g n ≡ numbers_at f n
  numbers_still n h l =
      let x = p.before (n * 3 - 3) (omega arith) in
      let y = p.before (n * 3 - 3 + 1) (omega arith) in
      let z = p.before (n * 3 - 3 + 2) (omega arith) in
      rw (x, y, z)

  numbers_new : numbers_at g (suc (length cells)) ≡ c
  numbers_new = rw (p.form, p.a, p.b)

  link_still : (n : ℕ) → 0 < n → n ≤ length cells → link_at g n ≡ link_at f n
  link_still n h l = p.links n h (omega arith)

  stored_more : (i : ℕ) → (i ≡ length cells) ⊎ (i < length cells) →
      listed (numbers_at g (suc i)) ≡ numbers_of (get_or (cells ++ (cell ∷ [])) i Cell.empty)
  stored_more i (inl e) = rw (e, last_is) (ap listed numbers_new ∙ numbers)
  stored_more i (inr l) = rw (earlier_is i l) (ap listed (numbers_still (suc i) (omega arith) l) ∙ held.stored i l)

  abbrev identity : ℕ → List ℕ
  identity i = identity_of text (get_or (cells ++ (cell ∷ [])) i Cell.empty)

  once_more : (i k : ℕ) → (i ≡ length cells) ⊎ (i < length cells) → (k ≡ length cells) ⊎ (k < length cells) →
      identity i ≡ identity k → i ≡ k
  once_more i k (inl x) (inl y) e = x ∙ sym y
  once_more i k (inl x) (inr y) e = absurd (new k y (rw (x, last_is, earlier_is k y) at e))
  once_more i k (inr x) (inl y) e = absurd (new i x (sym (rw (y, last_is, earlier_is i x) at e)))
  once_more i k (inr x) (inr y) e = held.once i k x y (rw (earlier_is i x, earlier_is k y) at e)

  heads_more : (hash : ℕ) → hash < 1024 → head_at g hash ≤ suc (length cells)
  heads_more hash l =
      by_test (eqb hash (hash_of text c))
      (λ t. rw (eqb-true hash (hash_of text c) t, p.head) (omega arith))
      (λ t. rw (p.heads hash l (eqb-false hash (hash_of text c) t)) (omega (arith, held.heads hash l)))

  older_more : (n : ℕ) → 0 < n → n ≤ suc (length cells) → link_at g n < n
  older_more n h l =
      by_test (eqb n (suc (length cells)))
      (λ t.
      let e = eqb-true n (suc (length cells)) t in
      rw (e, p.link) (omega (arith, held.heads (hash_of text c) (hash_lt text c))))
      (λ t.
      let e = eqb-false n (suc (length cells)) t in let m : n ≤ length cells = omega (arith, e) in
      rw (link_still n h m) (held.older n h m))

  leads_still : (m n : ℕ) → Leads f m n → m ≤ length cells → Leads g m n
  leads_still m n here l = here
  leads_still m n (next h d) l =
      let older = held.older m (omega (arith, h)) l in
      let rest : Leads g (link_at g m) n =
      rw (link_still m (omega (arith, h)) l) (leads_still (link_at f m) n d (omega arith)) in
      next h rest

  -- a cell that its bucket's head led to is led to still
  leads_more : (hash n : ℕ) → hash < 1024 → Leads f (head_at f hash) n → Leads g (head_at g hash) n
  leads_more hash n l d =
      let still = leads_still (head_at f hash) n d (held.heads hash l) in
      by_test (eqb hash (hash_of text c))
      (λ t.
      let e = eqb-true hash (hash_of text c) t in
      let rest : Leads g (link_at g (suc (length cells))) n = rw (p.link, ← e) still in
      rw (e, p.head) (next {m = suc (length cells)} (λ z. omega arith) rest))
      (λ t. rw (p.heads hash l (eqb-false hash (hash_of text c) t)) still)

  reached_more : (n : ℕ) → 0 < n → n ≤ suc (length cells) → Leads g (head_at g (hash_of text (numbers_at g n))) n
  reached_more n h l =
      by_test (eqb n (suc (length cells)))
      (λ t. let e = eqb-true n (suc (length cells)) t in rw (e, numbers_new, p.head) here)
      (λ t.
      let e = eqb-false n (suc (length cells)) t in
      let m : n ≤ length cells = omega (arith, e) in
      rw (numbers_still n h m) (leads_more (hash_of text (numbers_at f n)) n
      (hash_lt text (numbers_at f n)) (held.reached n h m)))

  pub holds_more : Holds text g (cells ++ (cell ∷ []))
  holds_more = record {
    room = rw p.long held.room;
    few = rw lengths fits;
    stored = λ i l. stored_more i (last_or i l);
    once = λ i k l m e. once_more i k (last_or i l) (last_or k m) e;
    heads = λ hash l. rw lengths (heads_more hash l);
    older = λ n h l. older_more n h (rw lengths at l);
    reached = λ n h l. reached_more n h (rw lengths at l);
  }

-- ---- `make`
module _ (text store : List ℕ) (cells : List Cell) (held : Holds text store cells) (cell : Cell) (c : CellNumbers)
    (numbers : listed c ≡ numbers_of cell) where
  abbrev sought : ℕ
  sought = find_in text store c (length cells) (head_at store (hash_of text c))

  finds_it : find_cell text cell 1 cells ≡ sought
  finds_it = finds text store cells held cell c numbers

  making_found : (sought ≡ 0 → ⊥) → Making text store cells cell (Some (cell_made sought (length cells)))
  unfolding make
  making_found h =
      let t = le-ltb (length cells) (length cells) (omega arith) in
      record {
        is = λ s e. rw (e, finds_it, ne_eqb sought 0 h, t, ← e);
        holds = rw t held;
        count = rw t;
      }

  making_new : sought ≡ 0 → length cells < 4096
      → Making text (pushed store c (suc (length cells)) (hash_of text c)) cells cell
      (Some (cell_made (suc (length cells)) (suc (length cells))))
  unfolding make
  making_new h fits =
      let t = lt-ltb (length cells) (suc (length cells)) (omega arith) in
      let p =
      has_pushed store c (suc (length cells)) (hash_of text c) held.room (omega arith) fits (hash_lt text c) in
      record {
        is = λ s e. rw (e, finds_it, eq-eqb sought 0 h, lt-ltb (length cells) 4096 fits, t);
        holds = rw t (holds_more text store _ cells held cell c numbers fits
            (not_found text store cells held cell c numbers h) p);
        count = rw t (sym (length-append cells (cell ∷ []) ∙ omega arith));
      }

  making_full : sought ≡ 0 → 4096 ≤ length cells → Making text store cells cell None
  unfolding make
  making_full h full = record {
    is = λ s e. rw (e, finds_it, eq-eqb sought 0 h, le-ltb (length cells) 4096 full);
    holds = held;
    count = refl;
  }

  pub making : Making text (made_in text store (length cells) c).1 cells cell (made_in text store (length cells) c).0
  making =
      by_test (eqb sought 0)
      (λ z.
      let none = eqb-true sought 0 z in
      by_test (ltb (length cells) 4096)
      (λ t. rw (le-ltb 0 sought (omega arith), t, add-one) (making_new none (ltb-true (length cells) 4096 t)))
      (λ t. rw (le-ltb 0 sought (omega arith), t) (making_full none (ltb-false (length cells) 4096 t))))
      (λ z.
      let some_cell = eqb-false sought 0 z in rw (lt-ltb 0 sought (omega (arith, some_cell))) (making_found some_cell))

module _ (text f : List ℕ) (count : ℕ) (c : CellNumbers) where
  pushed_beyond : (n hash i : ℕ) → n ≤ 4096 → hash < 1024 → 17408 ≤ i → get_or (pushed f c n hash) i 0 ≡ get_or f i 0
  unfolding pushed
  pushed_beyond n hash i most small h =
      let one = set f (n * 3 - 3) c.form in
      let two = set one (n * 3 - 3 + 1) c.a in
      let three = set two (n * 3 - 3 + 2) c.b in
      let four = set three (12287 + n) (head_at f hash) in
      get_or-set_other four (16384 + hash) i n 0 (λ e. omega arith)
      ∙ get_or-set_other three (12287 + n) i (head_at f hash) 0 (λ e. omega arith)
      ∙ get_or-set_other two (n * 3 - 3 + 2) i c.b 0 (λ e. omega arith)
      ∙ get_or-set_other one (n * 3 - 3 + 1) i c.a 0 (λ e. omega arith)
      ∙ get_or-set_other f (n * 3 - 3) i c.form 0 (λ e. omega arith)

  made_beyond : (n i : ℕ) → 17408 ≤ i → get_or (made_as f count c (hash_of text c) n).1 i 0 ≡ get_or f i 0
  made_beyond n i h =
      by_test (ltb 0 n)
      (λ t. rw t)
      (λ t.
      by_test (ltb count 4096)
      (λ u.
      let fits = ltb-true count 4096 u in
      rw (t, u) (pushed_beyond (count + 1) (hash_of text c) i (omega arith) (hash_lt text c) h))
      (λ u. rw (t, u)))

  makes : (g : List ℕ) (r : Option Made) → r ≡ (made_in text f count c).0 →
      g ≡ (made_in text f count c).1 → Makes text f g count c r
  makes g r e s = record {
    is = e;
    store = s;
    beyond = λ i h. rw s (made_beyond (find_in text f c count (head_at f (hash_of text c))) i h);
    does = λ cells cell held n numbers. rw (e, s, ← n) (making text f cells held cell c numbers);
  }

  -- by the code's way to what was made
  module _ (hash first n : ℕ) (h : hash ≡ hash_of text c) (e : first ≡ head_at f hash)
      (found : n ≡ find_in text f c count first) where
    way : n ≡ find_in text f c count (head_at f (hash_of text c))
    way = found ∙ ap (find_in text f c count) (e ∙ ap (head_at f) h)

    pub makes_found : 0 < n → Makes text f f count c (Some (cell_made n count))
    makes_found l = let t = lt-ltb 0 n l in makes f (Some (cell_made n count)) (rw (← way, t)) (rw (← way, t))

    module _ (none : n ≤ 0) where
      pub makes_new : count < 4096 → (g : List ℕ) → g ≡ pushed f c (count + 1) hash →
          Makes text f g count c (Some (cell_made (count + 1) (count + 1)))
      makes_new l g p =
          let t = le-ltb 0 n none in
          let u = lt-ltb count 4096 l in
          makes g (Some (cell_made (count + 1) (count + 1))) (rw (← way, t, u)) (p ∙ rw (← way, t, u, h))

      pub makes_full : 4096 ≤ count → Makes text f f count c None
      makes_full l =
          let t = le-ltb 0 n none in
          let u = le-ltb count 4096 l in
          makes f None (rw (← way, t, u)) (rw (← way, t, u))
