-- Document 01, "Printing", with the columns of document 02, a, and the declared variables of document 02, d: the line
-- for an answer, as a list of bytes.
use Rattle.std.specs.Prelude.{Bool, true, false, cond, ◌||◌, List, [], ◌∷◌, ◌++◌, ℕ, zero, suc, ◌+◌, ◌-◌, ◌*◌, ◌/◌}
use Rattle.std.specs.Prelude.{◌%◌, ltb, eqb, take, drop}
use Rattle.book.specs.Book.{Entry, nth_entry}
use Rattle.semantics.specs.Values.{Tree, Trees, no_trees, ◌▸◌}
use Rattle.semantics.specs.Cells.{cells_in, tree_at}
use Rattle.semantics.specs.Numbers.{cells_size, high_byte, no_parse}
use Rattle.semantics.specs.Answer.{Answer}

-- ---- The characters that a value is written with
abbrev pub line_feed : ℕ
line_feed = 10

abbrev pub space : ℕ
space = 32

-- `$`
abbrev pub dollar : ℕ
dollar = 36

-- `(` and `)`
abbrev pub open_parenthesis : ℕ
open_parenthesis = 40

abbrev pub close_parenthesis : ℕ
close_parenthesis = 41

-- `-`
abbrev pub hyphen : ℕ
hyphen = 45

-- `.`
abbrev pub dot : ℕ
dot = 46

-- `0`
abbrev pub zero_digit : ℕ
zero_digit = 48

-- `[` and `]`
abbrev pub open_bracket : ℕ
open_bracket = 91

abbrev pub close_bracket : ℕ
close_bracket = 93

-- ---- "numbers without leading zeros"
-- the digits of a tenth of the number, if that is not 0, and then its last digit. As many turns as the number are more
-- than enough
unfoldable pub digits : ℕ → ℕ → List ℕ
digits zero n = (zero_digit + n) ∷ []
digits (suc turns) n =
    elim (ltb n 10) [ true ↦ (zero_digit + n) ∷ [] | false ↦ digits turns (n / 10) ++ ((zero_digit + n % 10) ∷ []) ]

abbrev pub decimal : ℕ → List ℕ
decimal n = digits n n

-- ---- A value
-- a declared variable: "printed `$depth.index`" (document 02, d)
abbrev pub declared_bytes : ℕ → ℕ → List ℕ
declared_bytes depth index = dollar ∷ (decimal depth ++ (dot ∷ decimal index))

unfoldable mutual
  -- "variant as `(number items)`, list `[items]`, one space before each item but a list's first, .. absent `-`,
  -- variable `$` and spelling"
  pub printed : List Entry → Tree → List ℕ
  printed names (Tree.variant j items) =
      open_parenthesis ∷ (decimal j ++ (spaced names items ++ (close_parenthesis ∷ [])))
  printed names (Tree.name spelling) = spelling
  printed names (Tree.number n) = decimal n
  printed names (Tree.variable i kind) = dollar ∷ (nth_entry names i).spelling
  printed names Tree.absent = hyphen ∷ []
  printed names (Tree.declared depth index) = declared_bytes depth index
  printed names (Tree.list items) = open_bracket ∷ (drop 1 (spaced names items) ++ (close_bracket ∷ []))

  -- trees in order, a space before each
  pub spaced : List Entry → Trees → List ℕ
  spaced names no_trees = []
  spaced names (items ▸ item) = spaced names items ++ (space ∷ printed names item)

-- the value of a cell; a run has at most 4,096 cells, so what stands past their numbers is none. Every list of numbers
-- has a value: what is no cell is absent
abbrev pub value_bytes : List Entry → List ℕ → List ℕ → ℕ → List ℕ
value_bytes names text numbers n = printed names (tree_at text (cells_in (take cells_size numbers)) n)

-- ---- "For 11 and 30, L is 1 plus line feeds before the place"; "else both 0"
unfoldable pub line_feeds : List ℕ → ℕ
line_feeds [] = 0
line_feeds (b ∷ bs) = cond (eqb b line_feed) (suc (line_feeds bs)) (line_feeds bs)

-- ---- C is the column of the place, 1 at the beginning and after a line feed. Document 02, a: "A tab now moves the
-- column to the next of 9, 17, 25 and so on; every other byte still moves it by one."
abbrev pub tab : ℕ
tab = 9

-- the next of 9, 17, 25 and so on: the least that is above the column (`next_stop` of Worked)
abbrev pub tab_stop : ℕ → ℕ
tab_stop column = 9 + 8 * ((column - 1) / 8)

-- the column after a byte
unfoldable pub column_after : ℕ → ℕ → ℕ
column_after column b = cond (eqb b line_feed) 1 (cond (eqb b tab) (tab_stop column) (suc column))

-- the column after bytes, the first of which stands in this column
unfoldable pub column_from : ℕ → List ℕ → ℕ
column_from column [] = column
column_from column (b ∷ bs) = column_from (column_after column b) bs

abbrev pub has_line : Answer → Bool
has_line a = eqb a.refusal high_byte || eqb a.refusal no_parse

abbrev pub line_of : List ℕ → Answer → ℕ
line_of text a = cond (has_line a) (suc (line_feeds (take a.place text))) 0

abbrev pub column_of : List ℕ → Answer → ℕ
column_of text a = cond (has_line a) (column_from 1 (take a.place text)) 0

-- ---- The line
-- `value `
abbrev pub value_word : List ℕ
value_word = 118 ∷ 97 ∷ 108 ∷ 117 ∷ 101 ∷ 32 ∷ []

-- `refused `
abbrev pub refused_word : List ℕ
refused_word = 114 ∷ 101 ∷ 102 ∷ 117 ∷ 115 ∷ 101 ∷ 100 ∷ 32 ∷ []

-- ` place `
abbrev pub place_word : List ℕ
place_word = 32 ∷ 112 ∷ 108 ∷ 97 ∷ 99 ∷ 101 ∷ 32 ∷ []

-- ` kind `
abbrev pub kind_word : List ℕ
kind_word = 32 ∷ 107 ∷ 105 ∷ 110 ∷ 100 ∷ 32 ∷ []

-- ` argument `
abbrev pub argument_word : List ℕ
argument_word = 32 ∷ 97 ∷ 114 ∷ 103 ∷ 117 ∷ 109 ∷ 101 ∷ 110 ∷ 116 ∷ 32 ∷ []

-- ` line `
abbrev pub line_word : List ℕ
line_word = 32 ∷ 108 ∷ 105 ∷ 110 ∷ 101 ∷ 32 ∷ []

-- ` column `
abbrev pub column_word : List ℕ
column_word = 32 ∷ 99 ∷ 111 ∷ 108 ∷ 117 ∷ 109 ∷ 110 ∷ 32 ∷ []

-- "`refused N place P kind K argument A line L column C`"
unfoldable pub refused_line : List ℕ → Answer → List ℕ
refused_line text a =
    refused_word ++ (decimal a.refusal
    ++ (place_word ++ (decimal a.place
    ++ (kind_word ++ (decimal a.kind
    ++ (argument_word ++ (decimal a.argument
    ++ (line_word ++ (decimal (line_of text a)
    ++ (column_word ++ (decimal (column_of text a) ++ (line_feed ∷ []))))))))))))

-- "Success: `value ` and the value"; "One line feed ends each"
unfoldable pub line_bytes : List Entry → List ℕ → List ℕ → Answer → List ℕ
line_bytes names text numbers a =
    elim (eqb a.refusal 0)
    [ true ↦ value_word ++ (value_bytes names text numbers a.value ++ (line_feed ∷ [])) | false ↦ refused_line text a ]
