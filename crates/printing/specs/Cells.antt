-- What is printed of a cell, by its number, as the code goes: from the cell to those that it refers to.
use Rattle.std.specs.Prelude.{◌≡◌, Bool, true, false, cond, ◌||◌, List, [], ◌∷◌, ℕ, ◌+◌, ◌-◌, ◌*◌, ◌<◌, ltb, eqb}
use Rattle.std.specs.Prelude.{length, get_or, drop}
use Rattle.characters.specs.Spelling.{part_of}
use Rattle.book.specs.Book.{Entry, nth_entry}
use Rattle.semantics.specs.Numbers.{half, absent_form}
use Rattle.semantics.specs.Cells.{Cell, cell_of, cells_in, Meaning, tree_in, trees_in, nth_meaning, meanings}
use Rattle.cells.specs.declared.numbers.CellNumbers.{CellNumbers}
use Rattle.printing.specs.Printing.{space, dollar, hyphen, decimal, declared_bytes, printed, spaced}

-- cell n of a list of numbers, and absent where there is none
abbrev pub cell_in : List ℕ → ℕ → Cell
cell_in numbers n =
    cond (eqb n 0 || ltb (length numbers) (n * 3)) Cell.absent
    (cell_of (get_or numbers (n * 3 - 3) 0) (get_or numbers (n * 3 - 3 + 1) 0) (get_or numbers (n * 3 - 3 + 2) 0))

-- the code's numbers of cell n
pub record CellRead (numbers : List ℕ) (n : ℕ) (c : CellNumbers) : Type 0 where
  pub is : cell_of c.form c.a c.b ≡ cell_in numbers n
  pub placed : (c.form ≡ absent_form → ⊥) → 0 < n

-- a cell that cell n may refer to; any other is none
abbrev pub older_than : ℕ → ℕ → ℕ
older_than n c = cond (ltb c n) c 0

-- what cell n stands for
abbrev pub stands : List ℕ → List ℕ → ℕ → Meaning
stands text numbers n = nth_meaning (meanings text [] (cells_in numbers)) n

-- ---- Bytes
-- "A spelling is the part of the text or of the book that contains it"
unfoldable pub spelling_of : List Entry → List ℕ → Cell → List ℕ
spelling_of names text Cell.empty = []
spelling_of names text (Cell.chain c item) = []
spelling_of names text (Cell.variant j c) = []
spelling_of names text (Cell.name place size) = part_of text place size
spelling_of names text (Cell.number high low) = []
spelling_of names text (Cell.variable i kind) = (nth_entry names i).spelling
spelling_of names text Cell.absent = []
spelling_of names text (Cell.list c) = []
spelling_of names text (Cell.declared depth index) = []

-- an item without items
unfoldable pub plain_bytes : List Entry → List ℕ → Cell → List ℕ
plain_bytes names text Cell.empty = hyphen ∷ []
plain_bytes names text (Cell.chain c item) = hyphen ∷ []
plain_bytes names text (Cell.variant j c) = hyphen ∷ []
plain_bytes names text (Cell.name place size) = part_of text place size
plain_bytes names text (Cell.number high low) = decimal (high * half + low)
plain_bytes names text (Cell.variable i kind) = dollar ∷ (nth_entry names i).spelling
plain_bytes names text Cell.absent = hyphen ∷ []
plain_bytes names text (Cell.list c) = hyphen ∷ []
plain_bytes names text (Cell.declared depth index) = declared_bytes depth index

abbrev pub item_bytes : List Entry → List ℕ → List ℕ → ℕ → List ℕ
item_bytes names text numbers n = printed names (tree_in (stands text numbers n))

-- the items of a chain, in a variant or in a list
abbrev pub items_bytes : List Entry → List ℕ → List ℕ → Bool → ℕ → List ℕ
items_bytes names text numbers inList n =
    let items = spaced names (trees_in (stands text numbers n)) in
    cond inList (drop 1 items) items

unfoldable pub is_chain : Cell → Bool
is_chain Cell.empty = false
is_chain (Cell.chain c item) = true
is_chain (Cell.variant j c) = false
is_chain (Cell.name place size) = false
is_chain (Cell.number high low) = false
is_chain (Cell.variable i kind) = false
is_chain Cell.absent = false
is_chain (Cell.list c) = false
is_chain (Cell.declared depth index) = false

-- what stands between the items of a chain and the next item
abbrev pub gap_bytes : List ℕ → Bool → ℕ → List ℕ
gap_bytes numbers inList n = cond inList (cond (is_chain (cell_in numbers n)) (space ∷ []) []) (space ∷ [])
