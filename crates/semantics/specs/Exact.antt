-- Demand 3, what an answer has to do with the book's derivations: the parses listed, each once, are exactly those
-- with a finite derivation; a value is returned exactly when some derivation reaches the end and all that do agree.
-- Parses are alike if they are in rest, level, associativity and value.
use Rattle.std.specs.Prelude.{◌≡◌, true, false, List, [], ◌∷◌, ◌↔◌, ℕ, ◌+◌, ◌-◌, ◌*◌, ◌≤◌, ◌<◌, length, get_or, take}
use Rattle.std.specs.Prelude.{drop}
use Rattle.characters.specs.Spelling.{part_of}
use Rattle.book.specs.Book.{Book, associativity_number}
use Rattle.book.specs.Check.{check_book, Outcome}
use Rattle.semantics.specs.Numbers.{most_cells, half, no_parse, none_whole, different_values, not_accepted, is_limit}
use Rattle.semantics.specs.Numbers.{empty_form, chain_form, variant_form, name_form, number_form, variable_form}
use Rattle.semantics.specs.Numbers.{absent_form, list_form, declared_form, cell_size, parse_size}
use Rattle.semantics.specs.Values.{Tree, Trees, no_trees, ◌▸◌, Parse, whole}
use Rattle.semantics.specs.Derivations.{DerivesText}
use Rattle.semantics.specs.Answer.{Answered, answer_of}

-- ---- "A value is a tree, and its cell only stands for it"
-- the numbers of a cell: "three numbers (cell n at 3n - 3, ..), from cell 1"; there is no 4,097th
pub record CellAt (cells : List ℕ) (n : ℕ) (numbers : List ℕ) : Type 0 where
  pub least : 0 < n
  pub most : n ≤ most_cells
  pub are : take cell_size (drop (cell_size * n - cell_size) cells) ≡ numbers

-- The numbers alone say what a cell stands for. A cell refers to cells before it, each of the kind that is due, and
-- there are no other forms than these
module _ (text cells : List ℕ) where
  mutual
    -- cell n stands for a tree
    pub data StandsFor : ℕ → Tree → Type 0 where
      -- "3 variant (numbered over the book from 0), chain"
      variant : {n j c items : _} → CellAt cells n (variant_form ∷ j ∷ c ∷ []) →
          c < n → StandsForTrees c items → StandsFor n (Tree.variant j items)
      -- "4 name place, length": a part of the text, and inside it
      name : {n place size spelling : _} → CellAt cells n (name_form ∷ place ∷ size ∷ []) →
          place + size ≤ length text → spelling ≡ part_of text place size → StandsFor n (Tree.name spelling)
      -- "5 number high, low half": each below 2^32
      number : {n high low value : _} → CellAt cells n (number_form ∷ high ∷ low ∷ []) →
          high < half → low < half → value ≡ high * half + low → StandsFor n (Tree.number value)
      -- "6 name number, kind"
      variable : {n i kind : _} → CellAt cells n (variable_form ∷ i ∷ kind ∷ []) → StandsFor n (Tree.variable i kind)
      -- "7 absent"
      absent : {n : _} → CellAt cells n (absent_form ∷ 0 ∷ 0 ∷ []) → StandsFor n Tree.absent
      -- "8 list, chain"
      list : {n c values : _} → CellAt cells n (list_form ∷ c ∷ 0 ∷ []) →
          c < n → StandsForTrees c values → StandsFor n (Tree.list values)
      -- "cell 9" (document 02 d)
      declared : {n depth index : _} → CellAt cells n (declared_form ∷ depth ∷ index ∷ []) →
          StandsFor n (Tree.declared depth index)

    -- cell n, of a chain, stands for trees
    pub data StandsForTrees : ℕ → Trees → Type 0 where
      -- "1 empty chain"
      empty : {n : _} → CellAt cells n (empty_form ∷ 0 ∷ 0 ∷ []) → StandsForTrees n no_trees
      -- "2 chain, item"
      chain : {n c item items t : _} → CellAt cells n (chain_form ∷ c ∷ item ∷ []) →
          c < n → item < n → StandsForTrees c items → StandsFor item t → StandsForTrees n (items ▸ t)

-- ---- Entries and derivations
-- entry i of the parses list holds a parse: "rest, level, associativity, cell"
pub record ListEntry (text : List ℕ) (a : Answered) (i : ℕ) (p : Parse Tree) : Type 0 where
  pub rest : get_or a.parses (parse_size * i) 0 ≡ p.rest
  pub level : get_or a.parses (parse_size * i + 1) 0 ≡ p.level
  pub associativity : get_or a.parses (parse_size * i + 2) 0 ≡ associativity_number p.associativity
  pub value : StandsFor text a.cells (get_or a.parses (parse_size * i + 3) 0) p.value

-- one of the entries that count holds it
abbrev pub Lists : List ℕ → Answered → Parse Tree → Type 0
Lists text a p = (i : ℕ) × (i < a.answer.parses) × ListEntry text a i p

-- "its derivation reaches the end"
pub record ReachesEnd (book : Book) (text : List ℕ) (start : ℕ) (p : Parse Tree) : Type 0 where
  pub derived : DerivesText book text start p
  pub ends : whole text p ≡ true

module _ (book : Book) (text : List ℕ) (start : ℕ) where
  -- some derivation reaches the end, and all that do have the same value
  pub record Agree : Type 0 where
    pub exists : (p : Parse Tree) × ReachesEnd book text start p
    pub all : (p q : Parse Tree) → ReachesEnd book text start p → ReachesEnd book text start q → p.value ≡ q.value

  -- there are parses, and none is whole
  pub record NoneWhole : Type 0 where
    pub exists : (p : Parse Tree) × DerivesText book text start p
    pub all : (p : Parse Tree) → DerivesText book text start p → whole text p ≡ false

  -- two derivations reach the end, with different values
  pub record Differ : Type 0 where
    pub first : Parse Tree
    pub second : Parse Tree
    pub reaches : ReachesEnd book text start first × ReachesEnd book text start second
    pub apart : first.value ≡ second.value → ⊥

  -- there is none
  abbrev pub NoParse : Type 0
  NoParse = (p : Parse Tree) → DerivesText book text start p → ⊥

  pub record Exact (a : Answered) : Type 0 where
    -- "exactly those with a finite derivation"
    pub derivable : (p : Parse Tree) → DerivesText book text start p ↔ Lists text a p
    -- "each once": a parse stands in one entry, and each entry that counts holds one parse
    pub once : (p : Parse Tree) (i k : ℕ) → i < a.answer.parses → k < a.answer.parses →
        ListEntry text a i p → ListEntry text a k p → i ≡ k
    pub each : (i : ℕ) → i < a.answer.parses →
        (p : Parse Tree) × ListEntry text a i p × ((q : Parse Tree) → ListEntry text a i q → q ≡ p)
    -- a value is returned exactly when .., and its cell stands for it
    pub value : a.answer.refusal ≡ 0 ↔ Agree
    pub value_cell : a.answer.refusal ≡ 0 → (p : Parse Tree) → ReachesEnd book text start p →
        StandsFor text a.cells a.answer.value p.value
    -- the refusals of the end
    pub has_no_parse : a.answer.refusal ≡ no_parse ↔ NoParse
    pub has_none_whole : a.answer.refusal ≡ none_whole ↔ NoneWhole
    pub differ : a.answer.refusal ≡ different_values ↔ Differ

-- The theorem (Theorem.Found): of every call whose book is accepted, that isn't refused before the run, and that
-- meets no limit, whatever the lent lists held
abbrev pub FoundIsExactlyDerivable : Type 0
FoundIsExactlyDerivable =
    (cells parses bytes text : List ℕ) (start allowance : ℕ) (book : Book) → check_book bytes ≡ Outcome.book book →
    not_accepted (answer_of cells parses bytes text start allowance).answer.refusal ≡ false →
    is_limit (answer_of cells parses bytes text start allowance).answer.refusal ≡ false →
    Exact book text start (answer_of cells parses bytes text start allowance)
