-- Cells as numbers in a store, with an index by which the cell equal to a wanted one is found. This is no part of what
-- document 01 says: `Makes` relates the store to the list of cells and to `make` of the definitions.
--
-- The store has the three numbers of cell n at 3n - 3, its link at `links` + n, and the head of hash h at `heads` + h.
-- A head is the newest cell of its hash, a link the next older one of the same hash, and 0 ends the bucket.
use Rattle.std.specs.Prelude.{Option, Some, None, ◌≡◌, Bool, cond, List, [], ◌∷◌, ◌++◌, ℕ, zero, suc, ◌+◌, ◌-◌, ◌*◌}
use Rattle.std.specs.Prelude.{◌%◌, ◌≤◌, ◌<◌, eqb}
use Rattle.std.specs.Prelude.{ltb, length, get_or, set, take}
use Rattle.characters.specs.Spelling.{part_of, same}
use Rattle.semantics.specs.Numbers.{cell_size, cells_size, most_cells, too_many_cells, name_form}
use Rattle.semantics.specs.Cells.{Cell, numbers_of, identity_of, cells_in}
use Rattle.semantics.specs.Run.{Result, met, ok, State, made, make}
use Rattle.cells.specs.declared.numbers.CellNumbers.{CellNumbers}
use Rattle.cells.specs.declared.store.Made.{Made}

-- ---- The layout
-- cells are numbered from 1, so that the first link stands right behind the cells
abbrev pub links : ℕ
links = cells_size - 1

-- behind the links of all cells
abbrev pub heads : ℕ
heads = cells_size + most_cells

-- how many hashes there are, and so heads
abbrev pub hashes : ℕ
hashes = 1024

abbrev pub store_size : ℕ
store_size = heads + hashes

-- ---- The numbers of one cell
abbrev pub listed : CellNumbers → List ℕ
listed c = c.form ∷ c.a ∷ c.b ∷ []

-- `identity_of`, by the numbers
unfoldable pub identity_in : List ℕ → CellNumbers → List ℕ
identity_in text c = cond (eqb c.form name_form) (name_form ∷ part_of text c.a c.b) (listed c)

-- equal cells, by their numbers
abbrev pub same_in : List ℕ → CellNumbers → CellNumbers → Bool
same_in text c d = same (identity_in text c) (identity_in text d)

-- by which a hash is multiplied before the next number joins it
abbrev pub multiplier : ℕ
multiplier = 31

abbrev pub mixed : ℕ → ℕ → ℕ
mixed hash x = (hash * multiplier + x) % hashes

unfoldable pub hash_from : ℕ → List ℕ → ℕ
hash_from hash [] = hash
hash_from hash (x ∷ xs) = hash_from (mixed hash x) xs

-- a cell's hash is one of its identity, so equal cells have one hash
abbrev pub hash_of : List ℕ → CellNumbers → ℕ
hash_of text c = hash_from 0 (identity_in text c)

-- ---- The store
-- "cell n at 3n - 3"
abbrev pub place_of : ℕ → ℕ
place_of n = n * cell_size - cell_size

abbrev pub numbers_at : List ℕ → ℕ → CellNumbers
numbers_at store n =
    record {
      form = get_or store (place_of n) 0;
      a = get_or store (place_of n + 1) 0;
      b = get_or store (place_of n + 2) 0;
    }

abbrev pub link_at : List ℕ → ℕ → ℕ
link_at store n = get_or store (links + n) 0

abbrev pub head_at : List ℕ → ℕ → ℕ
head_at store hash = get_or store (heads + hash) 0

-- the first of at most k cells in the bucket from n on that is equal to c, or 0
unfoldable pub find_in : List ℕ → List ℕ → CellNumbers → ℕ → ℕ → ℕ
find_in text store c zero n = 0
find_in text store c (suc k) n =
    cond (eqb n 0) 0 (cond (same_in text c (numbers_at store n)) n (find_in text store c k (link_at store n)))

-- the store with cell n more, the newest of its hash
unfoldable pub pushed : List ℕ → CellNumbers → ℕ → ℕ → List ℕ
pushed store c n hash =
    set
    (set (set (set (set store (place_of n) c.form) (place_of n + 1) c.a) (place_of n + 2) c.b) (links + n)
    (head_at store hash))
    (heads + hash)
    n

-- what is made, and the store after it, where n is the equal cell that was found, if any
abbrev pub cell_made : ℕ → ℕ → Made
cell_made cell count = record { cell = cell; count = count }

abbrev pub made_as : List ℕ → ℕ → CellNumbers → ℕ → ℕ → Option Made × List ℕ
made_as store count c hash n =
    cond (ltb 0 n) (Some (cell_made n count), store)
    (cond (ltb count most_cells) (Some (cell_made (count + 1) (count + 1)), pushed store c (count + 1) hash) (
      None,
      store,
    ))

abbrev pub made_in : List ℕ → List ℕ → ℕ → CellNumbers → Option Made × List ℕ
made_in text store count c =
    made_as store count c (hash_of text c) (find_in text store c count (head_at store (hash_of text c)))

-- ---- The store and the list of cells
-- the first `count` cells of a store
abbrev pub stored_cells : List ℕ → ℕ → List Cell
stored_cells store count = cells_in (take (cell_size * count) store)

-- the links from one cell lead to another
pub data Leads (store : List ℕ) : ℕ → ℕ → Type 0 where
  here : {n : ℕ} → Leads store n n
  next : {m n : ℕ} → (m ≡ 0 → ⊥) → Leads store (link_at store m) n → Leads store m n

-- the store holds the cells, equal ones once, and its index leads to each
pub record Holds (text store : List ℕ) (cells : List Cell) : Type 0 where
  pub room : store_size ≤ length store
  pub few : length cells ≤ most_cells
  pub stored : (i : ℕ) → i < length cells → listed (numbers_at store (suc i)) ≡ numbers_of (get_or cells i Cell.empty)
  pub once : (i k : ℕ) → i < length cells → k < length cells →
      identity_of text (get_or cells i Cell.empty) ≡ identity_of text (get_or cells k Cell.empty) → i ≡ k
  pub heads : (hash : ℕ) → hash < hashes → head_at store hash ≤ length cells
  pub older : (n : ℕ) → 0 < n → n ≤ length cells → link_at store n < n
  pub reached : (n : ℕ) → 0 < n → n ≤ length cells → Leads store (head_at store (hash_of text (numbers_at store n))) n

-- the cells after a cell was asked for
abbrev pub cells_after : Option Made → List Cell → Cell → List Cell
cells_after (Some m) cells cell = cond (ltb (length cells) m.count) (cells ++ (cell ∷ [])) cells
cells_after None cells cell = cells

abbrev pub count_after : Option Made → ℕ → ℕ
count_after (Some m) before = m.count
count_after None before = before

-- what the definitions give where the code gives this
abbrev pub given : Option Made → Cell → State → Result Rattle.semantics.specs.Run.Made
given (Some m) cell s =
    ok (made m.cell (record { units = s.units; cells = cells_after (Some m) s.cells cell; asked = s.asked }))
given None cell s = met too_many_cells s.units

-- a cell was made of those that the store held
pub record Making (text after : List ℕ) (cells : List Cell) (cell : Cell) (r : Option Made) : Type 0 where
  pub is : (s : State) → s.cells ≡ cells → make text cell s ≡ given r cell s
  pub holds : Holds text after (cells_after r cells cell)
  pub count : count_after r (length cells) ≡ length (cells_after r cells cell)

-- what `make` promises: by the numbers alone, whatever the store holds; and of a store that holds the cells
pub record Makes (text before after : List ℕ) (count : ℕ) (c : CellNumbers) (r : Option Made) : Type 0 where
  pub is : r ≡ (made_in text before count c).0
  pub store : after ≡ (made_in text before count c).1
  pub beyond : (i : ℕ) → store_size ≤ i → get_or after i 0 ≡ get_or before i 0
  pub does : (cells : List Cell) (cell : Cell) → Holds text before cells → length cells ≡ count →
      listed c ≡ numbers_of cell → Making text after cells cell r

-- what `clear` promises: no cells, for any text; and the heads alone are stored
pub record Cleared (before after : List ℕ) : Type 0 where
  pub holds : (text : List ℕ) → store_size ≤ length before → Holds text after []
  pub below : (i : ℕ) → i < heads → get_or after i 0 ≡ get_or before i 0
  pub beyond : (i : ℕ) → store_size ≤ i → get_or after i 0 ≡ get_or before i 0
