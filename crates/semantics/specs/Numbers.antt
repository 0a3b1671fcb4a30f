-- The numbers of document 01 and of document 02 d, each by a name: sizes and limits, refusals, kinds of errors, forms
-- of cells. Those of the book, with its refusals 3 to 8 and refusal 1, are the crate book's.
use Rattle.std.specs.Prelude.{Bool, ◌||◌, ℕ, ◌^◌, eqb}
use Rattle.characters.specs.Classes.{between}
use Rattle.book.specs.Numbers.{short_lists}

-- ---- Sizes and limits
-- "cells under 12,288 numbers"; "the first 12,288 numbers of cells"
abbrev pub cells_size : ℕ
cells_size = 12288

-- "three numbers (cell n at 3n - 3, ..)"
abbrev pub cell_size : ℕ
cell_size = 3

-- "or parses under 256"; "256 of parses"
abbrev pub parses_size : ℕ
parses_size = 256

-- "Parses hold rest, level, associativity, cell"
abbrev pub parse_size : ℕ
parse_size = 4

-- "allowance 0 or above 1,000,000"
abbrev pub most_units : ℕ
most_units = 1000000

-- "above 4,096 bytes"
abbrev pub longest_text : ℕ
longest_text = 4096

-- "byte 128 or more"
abbrev pub first_high_byte : ℕ
first_high_byte = 128

-- "nesting beyond 200"
abbrev pub most_nesting : ℕ
most_nesting = 200

-- "a 65th different parse in any set"
abbrev pub most_parses : ℕ
most_parses = 64

-- each run of a call but the last adds a parse to its set, so that after this many there is none left to add
abbrev pub most_rounds : ℕ
most_rounds = 65

-- "a 65th declared name would be open"
abbrev pub most_declared : ℕ
most_declared = 64

-- "a 4,097th cell"
abbrev pub most_cells : ℕ
most_cells = 4096

-- "5 number high, low half", of 2^64
abbrev pub half : ℕ
half = 2 ^ 32

-- ---- Refusals, "no." of the table. 0 is none
-- "allowance 0 or above 1,000,000"
abbrev pub bad_allowance : ℕ
bad_allowance = 2

-- "nonterminal not in book"
abbrev pub unknown_start : ℕ
unknown_start = 9

-- "above 4,096 bytes"
abbrev pub long_text : ℕ
long_text = 10

-- "byte 128 or more"
abbrev pub high_byte : ℕ
high_byte = 11

-- "a unit beyond the allowance"
abbrev pub no_unit : ℕ
no_unit = 20

-- "nesting beyond 200"
abbrev pub too_deep : ℕ
too_deep = 21

-- "a 65th different parse in any set"
abbrev pub too_many_parses : ℕ
too_many_parses = 22

-- "a 4,097th cell"
abbrev pub too_many_cells : ℕ
too_many_cells = 23

-- "no parse; kind and argument filled"
abbrev pub no_parse : ℕ
no_parse = 30

-- "parses, none whole"
abbrev pub none_whole : ℕ
none_whole = 31

-- "different whole values"
abbrev pub different_values : ℕ
different_values = 32

-- document 02 d: "a 65th declared name would be open"
abbrev pub too_many_names : ℕ
too_many_names = 41

-- "1 to 11 (not accepted)"
abbrev pub not_accepted : ℕ → Bool
not_accepted refusal = between short_lists high_byte refusal

-- "limit met (20 to 23)"; 41, "a further limit of the run, counted in demands 2 and 3 with document 01's"
abbrev pub is_limit : ℕ → Bool
is_limit refusal = between no_unit too_many_cells refusal || eqb refusal too_many_names

-- ---- Kinds of errors
-- "1 character (its code)"
abbrev pub character_wanted : ℕ
character_wanted = 1

-- "2 word (number)"
abbrev pub word_wanted : ℕ
word_wanted = 2

-- "3 identifier wanted"
abbrev pub identifier_wanted : ℕ
identifier_wanted = 3

-- "4 text ended where step kinds 2 to 5 wanted a token"
abbrev pub text_ended : ℕ
text_ended = 4

-- "5 variable found"
abbrev pub variable_found : ℕ
variable_found = 5

-- "6 reserved word found"
abbrev pub reserved_found : ℕ
reserved_found = 6

-- "7 unknown name"
abbrev pub unknown_name : ℕ
unknown_name = 7

-- "8 wrong kind (kind wanted)"
abbrev pub wrong_kind : ℕ
wrong_kind = 8

-- "9 digits wanted"
abbrev pub digits_wanted : ℕ
digits_wanted = 9

-- "10 number too large"
abbrev pub too_large : ℕ
too_large = 10

-- "11 nonterminal wanted (number)"
abbrev pub nonterminal_wanted : ℕ
nonterminal_wanted = 11

-- of a declared name, "its error 11 has argument 32": no nonterminal has this number
abbrev pub declared_name : ℕ
declared_name = 32

-- "12 more wanted (the variant's nonterminal)"
abbrev pub more_wanted : ℕ
more_wanted = 12

-- ---- Forms of cells, the first of their three numbers
-- "1 empty chain"
abbrev pub empty_form : ℕ
empty_form = 1

-- "2 chain, item"
abbrev pub chain_form : ℕ
chain_form = 2

-- "3 variant (numbered over the book from 0), chain"
abbrev pub variant_form : ℕ
variant_form = 3

-- "4 name place, length"
abbrev pub name_form : ℕ
name_form = 4

-- "5 number high, low half"
abbrev pub number_form : ℕ
number_form = 5

-- "6 name number, kind"
abbrev pub variable_form : ℕ
variable_form = 6

-- "7 absent"
abbrev pub absent_form : ℕ
absent_form = 7

-- "8 list, chain"
abbrev pub list_form : ℕ
list_form = 8

-- "cell 9", a declared variable: "its binder's depth outwards and its index within that binder" (document 02 d)
abbrev pub declared_form : ℕ
declared_form = 9
