-- What the cells of a run stand for in the table in which it ends. Each law says of a cell made on the way what it
-- stands for there.
use Rattle.std.specs.Prelude.{◌≡◌, true, false, List, ℕ, ◌/◌, ◌%◌, ◌^◌}
use Rattle.std.proofs.Math.Path.{refl, ap, subst}
use Rattle.std.proofs.Common.{◌∙◌, arith}
use Rattle.std.specs.Prelude.{Option, None, Some}
use Rattle.std.proofs.Math.Pow.{split}
use Rattle.characters.specs.Cases.{by_test, clash}
use Rattle.characters.specs.Spelling.{part_of}
use Rattle.book.specs.Book.{Book, nth_variant}
use Rattle.semantics.specs.Values.{Tree, Trees, no_trees, ◌▸◌}
use Rattle.semantics.specs.Tokens.{Item}
use Rattle.semantics.specs.Derivations.{last_of, tree_of, with_item}
use Rattle.semantics.specs.Cells.{Cell, tree_in, trees_in, meaning_of}
use Rattle.semantics.specs.Run.{ok, State, Made, make, item_cell, begin, with_cell, with_token}
use Rattle.semantics.proofs.Theorem.Results.{got, ok_inj}
use Rattle.semantics.proofs.Theorem.Table.{Table, Prefix, prefix_then, meaning, make_grows, make_means}

module _ (text : List ℕ) (Cf : List Cell) where
  -- the tree, and the trees, that a cell stands for
  abbrev pub tree_for : ℕ → Tree
  tree_for n = tree_in (meaning text Cf n)

  abbrev pub trees_for : ℕ → Trees
  trees_for n = trees_in (meaning text Cf n)

-- a state on the way to the table
abbrev pub Before : List Cell → State → Type 0
Before Cf s = Prefix s.cells Cf

-- nothing happened but that cells were made: the state before it was on the way too, and has the same marks
pub record Way (Cf : List Cell) (s t : State) : Type 0 where
  pub back : Before Cf s
  pub asked : t.asked ≡ s.asked

pub way_refl : {Cf : List Cell} {s : State} → Before Cf s → Way Cf s s
way_refl b = record { back = b; asked = refl }

pub way_then : {Cf : List Cell} {s t u : State} → Way Cf s t → Way Cf t u → Way Cf s u
way_then v w = record { back = v.back; asked = w.asked ∙ v.asked }

module _ (text : List ℕ) (Cf : List Cell) (table : Table text Cf) where
  module _ (s : State) (m : Made) where
    pub make_way : (c : Cell) → make text c s ≡ ok m → Before Cf m.state → Way Cf s m.state
    make_way c e b = let g = make_grows text c s m e in record { back = prefix_then g.prefix b; asked = g.asked }

    pub made_empty : make text Cell.empty s ≡ ok m → Before Cf m.state → trees_for text Cf m.cell ≡ no_trees
    unfolding meaning_of trees_in
    made_empty e b = ap trees_in (make_means text Cf table Cell.empty s m e b)

    pub made_chain : (c item : ℕ) → make text (Cell.chain c item) s ≡ ok m → Before Cf m.state →
        trees_for text Cf m.cell ≡ trees_for text Cf c ▸ tree_for text Cf item
    unfolding meaning_of trees_in
    made_chain c item e b = ap trees_in (make_means text Cf table (Cell.chain c item) s m e b)

    pub made_variant : (j c : ℕ) → make text (Cell.variant j c) s ≡ ok m → Before Cf m.state →
        tree_for text Cf m.cell ≡ Tree.variant j (trees_for text Cf c)
    unfolding meaning_of tree_in
    made_variant j c e b = ap tree_in (make_means text Cf table (Cell.variant j c) s m e b)

    pub made_list : (c : ℕ) → make text (Cell.list c) s ≡ ok m → Before Cf m.state →
        tree_for text Cf m.cell ≡ Tree.list (trees_for text Cf c)
    unfolding meaning_of tree_in
    made_list c e b = ap tree_in (make_means text Cf table (Cell.list c) s m e b)

    pub made_absent : make text Cell.absent s ≡ ok m → Before Cf m.state → tree_for text Cf m.cell ≡ Tree.absent
    unfolding meaning_of tree_in
    made_absent e b = ap tree_in (make_means text Cf table Cell.absent s m e b)

    pub made_name : (place size : ℕ) → make text (Cell.name place size) s ≡ ok m → Before Cf m.state →
        tree_for text Cf m.cell ≡ Tree.name (part_of text place size)
    unfolding meaning_of tree_in
    made_name place size e b = ap tree_in (make_means text Cf table (Cell.name place size) s m e b)

    pub made_item : (item : Item) → make text (item_cell item) s ≡ ok m → Before Cf m.state →
        tree_for text Cf m.cell ≡ tree_of text item
    unfolding meaning_of tree_in item_cell tree_of
    made_item (Item.name place size) e b = made_name place size e b
    made_item (Item.number n) e b =
        ap tree_in (make_means text Cf table (Cell.number (n / 2 ^ 32) (n % 2 ^ 32)) s m e b)
        ∙ ap Tree.number (split n 32)
    made_item (Item.variable i kind) e b = ap tree_in (make_means text Cf table (Cell.variable i kind) s m e b)
    made_item (Item.declared depth index) e b =
        ap tree_in (make_means text Cf table (Cell.declared depth index) s m e b)

    -- the kind of a declared name
    pub made_kind : (kind : ℕ) → make text (Cell.number 0 kind) s ≡ ok m → Before Cf m.state →
        tree_for text Cf m.cell ≡ Tree.number kind
    unfolding meaning_of tree_in
    made_kind kind e b =
        ap tree_in (make_means text Cf table (Cell.number 0 kind) s m e b) ∙ ap Tree.number (omega arith)

  module _ (book : Book) (j : ℕ) where
    -- the items of a variant under way, as a cell and as trees. A passing variant has the cell of its last item
    pub record Stands (items : ℕ) (ts : Trees) : Type 0 where
      pub passing : (nth_variant book j).passing ≡ true → tree_for text Cf items ≡ last_of ts
      pub plain : (nth_variant book j).passing ≡ false → trees_for text Cf items ≡ ts

    pub record BeginOk (s : State) (m : Made) : Type 0 where
      pub way : Way Cf s m.state
      pub stands : Stands m.cell no_trees

    pub begin_ok : (s : State) (m : Made) → begin book text j s ≡ ok m → Before Cf m.state → BeginOk s m
    unfolding begin last_of tree_in
    begin_ok s m e b =
        by_test (nth_variant book j).passing
        (λ t. let same = ok_inj (rw t at e) in
        subst (λ (z : Made). Before Cf z.state → BeginOk s z) same
        (λ b'. record { way = way_refl b'; stands = record { passing = λ p. refl; plain = λ p. clash t p } }) b)
        (λ t. let e' = rw t at e in
        record {
          way = make_way s m Cell.empty e' b;
          stands = record { passing = λ p. clash p t; plain = λ p. made_empty s m e' b };
        })

    pub record WithOk (items : ℕ) (add : Trees → Trees) (s : State) (m : Made) : Type 0 where
      pub way : Way Cf s m.state
      pub stands : (ts : Trees) → Stands items ts → Stands m.cell (add ts)

    pub with_cell_ok : (items item : ℕ) (t : Tree) (s : State) (m : Made) → with_cell book text j items item s ≡ ok m →
        Before Cf m.state → tree_for text Cf item ≡ t →
        WithOk items (λ ts. ts ▸ t) s m
    unfolding with_cell last_of
    with_cell_ok items item t s m e b v =
        by_test (nth_variant book j).passing
        (λ p. let same = ok_inj (rw p at e) in
        subst (λ (z : Made). Before Cf z.state → WithOk items (λ ts. ts ▸ t) s z) same
        (λ b'. record { way = way_refl b'; stands = λ ts h. record { passing = λ q. v; plain = λ q. clash p q } }) b)
        (λ p. let e' = rw p at e in
        record {
          way = make_way s m (Cell.chain items item) e' b;
          stands = λ ts h. record {
            passing = λ q. clash q p;
            plain = λ q.
                made_chain s m items item e' b ∙ ap (λ l. l ▸ tree_for text Cf item) (h.plain q) ∙ ap (λ x. ts ▸ x) v;
          };
        })

    pub with_token_ok : (items : ℕ) (item : Option Item) (s : State) (m : Made) →
        with_token book text j items item s ≡ ok m → Before Cf m.state →
        WithOk items (λ ts. with_item text ts item) s m
    unfolding with_token with_item
    with_token_ok items None s m e b =
        subst (λ (z : Made). Before Cf z.state → WithOk items (λ ts. ts) s z) (ok_inj e)
        (λ b'. record { way = way_refl b'; stands = λ ts h. h }) b
    with_token_ok items (Some item) s m e b =
        let g = got _ _ e in
        let w = with_cell_ok items g.val.cell (tree_for text Cf g.val.cell) g.val.state m g.next b refl in
        let v = made_item s g.val item g.ran w.way.back in
        let w' = with_cell_ok items g.val.cell (tree_of text item) g.val.state m g.next b v in
        record {
          way = way_then (make_way s g.val (item_cell item) g.ran w.way.back) w.way;
          stands = w'.stands;
        }
