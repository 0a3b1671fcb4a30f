-- Document 01, "The run", its last paragraph, and document 02 d, cell 9: cells, and what they stand for.
use Rattle.std.specs.Prelude.{true, false, List, [], ◌∷◌, ◌++◌, ℕ, zero, suc, ◌+◌, ◌-◌, ◌*◌, get_or}
use Rattle.characters.specs.Spelling.{part_of, same}
use Rattle.semantics.specs.Numbers.{half, empty_form, chain_form, variant_form, name_form, number_form, variable_form}
use Rattle.semantics.specs.Numbers.{absent_form, list_form, declared_form}
use Rattle.semantics.specs.Values.{Tree, Trees, no_trees, ◌▸◌}

pub data Cell : Type 0 where
  empty : Cell
  chain variant name number variable : ℕ → ℕ → Cell
  absent : Cell
  list : ℕ → Cell
  declared : ℕ → ℕ → Cell

-- "three numbers (.. unstated ones 0)": the form, and what document 01 names after it; "cell 9" is of document 02 d
unfoldable pub numbers_of : Cell → List ℕ
numbers_of empty = empty_form ∷ 0 ∷ 0 ∷ []
numbers_of (chain c item) = chain_form ∷ c ∷ item ∷ []
numbers_of (variant j c) = variant_form ∷ j ∷ c ∷ []
numbers_of (name place size) = name_form ∷ place ∷ size ∷ []
numbers_of (number high low) = number_form ∷ high ∷ low ∷ []
numbers_of (variable i kind) = variable_form ∷ i ∷ kind ∷ []
numbers_of absent = absent_form ∷ 0 ∷ 0 ∷ []
numbers_of (list c) = list_form ∷ c ∷ 0 ∷ []
numbers_of (declared depth index) = declared_form ∷ depth ∷ index ∷ []

-- the cells that such numbers hold, by their forms from 1 on; three zeros, which are unused, read as an empty chain,
-- which stands for no tree
abbrev pub cell_of : ℕ → ℕ → ℕ → Cell
cell_of form a b =
    get_or
    (empty ∷ chain a b ∷ variant a b ∷ name a b ∷ number a b ∷ variable a b ∷ absent ∷ list a ∷ declared a b ∷ [])
    (form - 1) empty

unfoldable pub cells_in : List ℕ → List Cell
cells_in [] = []
cells_in (form ∷ []) = []
cells_in (form ∷ a ∷ []) = []
cells_in (form ∷ a ∷ b ∷ numbers) = cell_of form a b ∷ cells_in numbers

-- "equal ones once"; names are "equal by spelling"
unfoldable pub identity_of : List ℕ → Cell → List ℕ
identity_of text empty = numbers_of empty
identity_of text (chain c item) = numbers_of (chain c item)
identity_of text (variant j c) = numbers_of (variant j c)
identity_of text (name place size) = name_form ∷ part_of text place size
identity_of text (number high low) = numbers_of (number high low)
identity_of text (variable i kind) = numbers_of (variable i kind)
identity_of text absent = numbers_of absent
identity_of text (list c) = numbers_of (list c)
identity_of text (declared depth index) = numbers_of (declared depth index)

-- the number of the first equal cell among those numbered from n, or 0
unfoldable pub find_cell : List ℕ → Cell → ℕ → List Cell → ℕ
find_cell text c n [] = 0
find_cell text c n (d ∷ ds) =
    elim (same (identity_of text c) (identity_of text d)) [ true ↦ n | false ↦ find_cell text c (suc n) ds ]

-- ---- "A value is a tree, and its cell only stands for it"
-- what a cell stands for: a tree, or the trees of a chain. Every list of cells has some meaning: a number that is no
-- earlier cell of the right kind counts as absent, or as no trees. A run makes no such cell; what well-made cells
-- stand for, with no such rule, is `StandsFor` of Exact
pub data Meaning : Type 0 where
  one : Tree → Meaning
  several : Trees → Meaning

unfoldable pub tree_in : Meaning → Tree
tree_in (one t) = t
tree_in (several ts) = Tree.absent

unfoldable pub trees_in : Meaning → Trees
trees_in (one t) = no_trees
trees_in (several ts) = ts

-- the meaning of cell n, given those of the cells in order. There is no cell 0
abbrev pub nth_meaning : List Meaning → ℕ → Meaning
nth_meaning meanings zero = one Tree.absent
nth_meaning meanings (suc i) = get_or meanings i (one Tree.absent)

-- the meaning of a cell, given those of the cells before it
unfoldable pub meaning_of : List ℕ → List Meaning → Cell → Meaning
meaning_of text before empty = several no_trees
meaning_of text before (chain c item) = several (trees_in (nth_meaning before c) ▸ tree_in (nth_meaning before item))
meaning_of text before (variant j c) = one (Tree.variant j (trees_in (nth_meaning before c)))
meaning_of text before (name place size) = one (Tree.name (part_of text place size))
meaning_of text before (number high low) = one (Tree.number (high * half + low))
meaning_of text before (variable i kind) = one (Tree.variable i kind)
meaning_of text before absent = one Tree.absent
meaning_of text before (list c) = one (Tree.list (trees_in (nth_meaning before c)))
meaning_of text before (declared depth index) = one (Tree.declared depth index)

unfoldable pub meanings : List ℕ → List Meaning → List Cell → List Meaning
meanings text before [] = before
meanings text before (c ∷ cs) = meanings text (before ++ (meaning_of text before c ∷ [])) cs

-- the tree that cell n stands for
abbrev pub tree_at : List ℕ → List Cell → ℕ → Tree
tree_at text cells n = tree_in (nth_meaning (meanings text [] cells) n)
