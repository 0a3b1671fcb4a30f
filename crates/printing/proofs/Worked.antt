-- Lines for answers, worked out: rows 1 and 7 of document 01's table, cases of "Printing" that the table doesn't have,
-- the columns of document 02, a, and a declared variable of document 02, d.
use Rattle.std.specs.Prelude.{◌≡◌, refl, List, [], ◌∷◌, ◌++◌, ℕ, zero, suc, ◌+◌, ◌-◌, ◌*◌, ◌/◌, ◌≤◌, ◌<◌, replicate}
use Rattle.std.proofs.Common.{ap, ◌∙◌, arith, take_all}
use Rattle.std.proofs.lemmas.List.{length-replicate}
use Rattle.book.specs.Book.{Entry}
use Rattle.semantics.specs.Values.{Tree, no_trees, ◌▸◌}
use Rattle.semantics.specs.Cells.{cells_in, tree_in, trees_in, meaning_of, meanings}
use Rattle.semantics.specs.Answer.{answer}
use Rattle.printing.specs.Printing.{digits, printed, spaced, line_feeds, tab_stop, column_after, column_from}
use Rattle.printing.specs.Printing.{line_of, column_of, refused_line, line_bytes}

numeral : ℕ → Tree
numeral n = Tree.variant 0 (no_trees ▸ Tree.number n)

-- row 1, `1-2-3`: "(1 (1 (0 1) (0 2)) (0 3))"
row_1 : printed [] (Tree.variant 1 (no_trees ▸ Tree.variant 1 (no_trees ▸ numeral 1 ▸ numeral 2) ▸ numeral 3))
    ≡ 40 ∷ 49 ∷ 32 ∷ 40 ∷ 49 ∷ 32 ∷ 40 ∷ 48 ∷ 32 ∷ 49 ∷ 41 ∷ 32 ∷ 40 ∷ 48 ∷ 32 ∷ 50 ∷ 41 ∷ 41 ∷ 32 ∷ 40 ∷ 48 ∷ 32
    ∷ 51 ∷ 41 ∷ 41
    ∷ []
unfolding numeral printed spaced digits
row_1 = refl

-- row 7, `(1`: "refused 30 place 2 kind 1 argument 41 line 1 column 3"
row_7 : line_bytes [] (40 ∷ 49 ∷ []) [] (answer 30 2 1 41 9 0 0)
    ≡ 114 ∷ 101 ∷ 102 ∷ 117 ∷ 115 ∷ 101 ∷ 100 ∷ 32 ∷ 51 ∷ 48 ∷ 32 ∷ 112 ∷ 108 ∷ 97 ∷ 99 ∷ 101 ∷ 32 ∷ 50 ∷ 32 ∷ 107
    ∷ 105 ∷ 110 ∷ 100
    ∷ 32 ∷ 49 ∷ 32 ∷ 97 ∷ 114 ∷ 103 ∷ 117 ∷ 109 ∷ 101 ∷ 110 ∷ 116 ∷ 32 ∷ 52 ∷ 49 ∷ 32 ∷ 108 ∷ 105 ∷ 110 ∷ 101 ∷ 32
    ∷ 49 ∷ 32 ∷ 99
    ∷ 111 ∷ 108 ∷ 117 ∷ 109 ∷ 110 ∷ 32 ∷ 51 ∷ 10 ∷ []
unfolding line_bytes refused_line digits line_feeds column_after column_from
row_7 = refl

-- the text `a`, line feed, `bc` and a byte of 128, which is refused with 11 at place 4: line 2, column 3
bad_byte : List ℕ
bad_byte = 97 ∷ 10 ∷ 98 ∷ 99 ∷ 128 ∷ []

second_line : (line_of bad_byte (answer 11 4 0 0 0 0 0) ≡ 2) × (column_of bad_byte (answer 11 4 0 0 0 0 0) ≡ 3)
unfolding bad_byte line_feeds column_after column_from
second_line = (refl, refl)

-- a refusal other than 11 and 30 has neither line nor column
no_line : (line_of bad_byte (answer 31 0 0 0 5 2 0) ≡ 0) × (column_of bad_byte (answer 31 0 0 0 5 2 0) ≡ 0)
no_line = (refl, refl)

-- ---- Columns
-- "the next of 9, 17, 25 and so on": it is one of them, above the column, and none of them lies between
next_stop : (column : ℕ) → ((k : ℕ) × (tab_stop column ≡ 9 + 8 * k)) × (column < tab_stop column)
    × ((k : ℕ) → column < 9 + 8 * k → tab_stop column ≤ 9 + 8 * k)
next_stop column = (((column - 1) / 8, refl), omega arith, λ k h. omega (arith, h))

-- the column of refusal 30 at a place
column_at : List ℕ → ℕ → ℕ
column_at text place = column_of text (answer 30 place 1 41 9 0 0)

-- so many spaces and a tab
tabbed : ℕ → List ℕ
tabbed spaces = replicate spaces 32 ++ (9 ∷ [])

-- tabs in columns 1, 7, 8, 9 and 16: a place on the tab itself, and one behind it
on_the_tab : (column_at (tabbed 0) 0 ≡ 1) × (column_at (tabbed 6) 6 ≡ 7) × (column_at (tabbed 7) 7 ≡ 8)
    × (column_at (tabbed 8) 8 ≡ 9) × (column_at (tabbed 15) 15 ≡ 16)
unfolding column_at tabbed column_after column_from
on_the_tab = (refl, refl, refl, refl, refl)

behind_the_tab : (column_at (tabbed 0) 1 ≡ 9) × (column_at (tabbed 6) 7 ≡ 9) × (column_at (tabbed 7) 8 ≡ 9)
    × (column_at (tabbed 8) 9 ≡ 17) × (column_at (tabbed 15) 16 ≡ 17)
unfolding column_at tabbed column_after column_from
behind_the_tab = (refl, refl, refl, refl, refl)

-- tabs after spaces: two spaces, a tab, three spaces, a tab
after_spaces : column_at (tabbed 2 ++ tabbed 3) 7 ≡ 17
unfolding column_at tabbed column_after column_from
after_spaces = refl

-- tabs before and after a line feed: tab, `1`, tab, line feed, tab, tab
two_lines : List ℕ
two_lines = 9 ∷ 49 ∷ 9 ∷ 10 ∷ 9 ∷ 9 ∷ []

first_of_two : (column_at two_lines 1 ≡ 9) × (column_at two_lines 2 ≡ 10) × (column_at two_lines 3 ≡ 17)
unfolding column_at two_lines column_after column_from
first_of_two = (refl, refl, refl)

second_of_two : (column_at two_lines 4 ≡ 1) × (column_at two_lines 5 ≡ 9) × (column_at two_lines 6 ≡ 17)
unfolding column_at two_lines column_after column_from
second_of_two = (refl, refl, refl)

-- in a comment: `(1//`, tab, `x`
in_comment : column_at (40 ∷ 49 ∷ 47 ∷ 47 ∷ 9 ∷ 120 ∷ []) 6 ≡ 10
unfolding column_at column_after column_from
in_comment = refl

-- a carriage return is a byte like any other: carriage return, tab, carriage return, tab
carriage_returns : column_at (13 ∷ 9 ∷ 13 ∷ 9 ∷ []) 4 ≡ 17
unfolding column_at column_after column_from
carriage_returns = refl

-- tabs alone: 4,096 of them, as many as a text can have, and any other number
tabs_from : (n k : ℕ) → column_from (1 + 8 * k) (replicate n 9) ≡ 1 + 8 * (n + k)
unfolding column_from column_after
tabs_from zero k = let ends : 1 + 8 * k ≡ 1 + 8 * (0 + k) = omega arith in ends
tabs_from (suc n) k =
    let stop : tab_stop (1 + 8 * k) ≡ 1 + 8 * suc k = omega arith in
    let ends : 1 + 8 * (n + suc k) ≡ 1 + 8 * (suc n + k) = omega arith in
    ap (λ (column : ℕ). column_from column (replicate n 9)) stop ∙ tabs_from n (suc k) ∙ ends

tabs : (n : ℕ) → column_at (replicate n 9) n ≡ 1 + 8 * n
unfolding column_at
tabs n =
    let ends : 1 + 8 * (n + 0) ≡ 1 + 8 * n = omega arith in
    rw (take_all {A = ℕ} n (replicate n 9) (omega (arith, length-replicate {A = ℕ} n 9))) (tabs_from n 0 ∙ ends)

tabs_4096 : column_at (replicate 4096 9) 4096 ≡ 32769
tabs_4096 = tabs 4096

-- ---- A value
-- cells: a variant of a list of a name and a number, an empty list, absent, and a variable
numbers : List ℕ
numbers =
    1 ∷ 0 ∷ 0 ∷ 4 ∷ 0 ∷ 2 ∷ 5 ∷ 4294967295 ∷ 4294967295 ∷ 2 ∷ 1 ∷ 2 ∷ 2 ∷ 4 ∷ 3 ∷ 8 ∷ 5 ∷ 0 ∷ 8 ∷ 1 ∷ 0 ∷ 7 ∷ 0 ∷ 0
    ∷ 6 ∷ 0 ∷ 3
    ∷ 2 ∷ 1 ∷ 6 ∷ 2 ∷ 10 ∷ 7 ∷ 2 ∷ 11 ∷ 8 ∷ 2 ∷ 12 ∷ 9 ∷ 3 ∷ 2 ∷ 13 ∷ []

names : List Entry
names = record { label = 3; spelling = 118 ∷ [] } ∷ []

-- "value (2 [ab 18446744073709551615] [] - $v)"
cells_printed : line_bytes names (97 ∷ 98 ∷ []) numbers (answer 0 0 0 0 20 1 14)
    ≡ 118 ∷ 97 ∷ 108 ∷ 117 ∷ 101 ∷ 32 ∷ 40 ∷ 50 ∷ 32 ∷ 91 ∷ 97 ∷ 98 ∷ 32 ∷ 49 ∷ 56 ∷ 52 ∷ 52 ∷ 54 ∷ 55 ∷ 52 ∷ 52
    ∷ 48 ∷ 55 ∷ 51
    ∷ 55 ∷ 48 ∷ 57 ∷ 53 ∷ 53 ∷ 49 ∷ 54 ∷ 49 ∷ 53 ∷ 93 ∷ 32 ∷ 91 ∷ 93 ∷ 32 ∷ 45 ∷ 32 ∷ 36 ∷ 118 ∷ 41 ∷ 10 ∷ []
unfolding names numbers line_bytes printed spaced digits cells_in tree_in trees_in meaning_of meanings
cells_printed = refl

-- cells: a variant of a declared variable, whose binder is the 13th outwards and which is the fourth there
declared_numbers : List ℕ
declared_numbers = 1 ∷ 0 ∷ 0 ∷ 9 ∷ 12 ∷ 3 ∷ 2 ∷ 1 ∷ 2 ∷ 3 ∷ 0 ∷ 3 ∷ []

-- "value (0 $12.3)"
declared_printed : line_bytes [] [] declared_numbers (answer 0 0 0 0 4 1 4)
    ≡ 118 ∷ 97 ∷ 108 ∷ 117 ∷ 101 ∷ 32 ∷ 40 ∷ 48 ∷ 32 ∷ 36 ∷ 49 ∷ 50 ∷ 46 ∷ 51 ∷ 41 ∷ 10 ∷ []
unfolding declared_numbers line_bytes printed spaced digits cells_in tree_in trees_in meaning_of meanings
declared_printed = refl
