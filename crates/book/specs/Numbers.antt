-- The documents' numbers of a book, each named once: its refusals, and the limits of its sections and fields. Document
-- 01, and document 02 d of binders.
use Rattle.std.specs.Prelude.{ℕ}
use Rattle.book.specs.declared.refusals.Fault.{Fault}

-- ---- Refusals, in the table's order
-- lent numbers too few; here, an index
abbrev pub short_lists : ℕ
short_lists = 1

-- "ends too early"
abbrev pub book_ends_early : ℕ
book_ends_early = 3

-- "section count outside its limits or unequal to its sum"
abbrev pub bad_count : ℕ
bad_count = 4

-- "spelling not of length 1 to 15, or not identifier-shaped"
abbrev pub bad_spelling : ℕ
bad_spelling = 5

-- "any other field out of range"
abbrev pub bad_field : ℕ
bad_field = 6

-- "passing variant other than one step of kind 8"
abbrev pub bad_passing : ℕ
bad_passing = 7

-- "bytes left over"
abbrev pub bytes_left_over : ℕ
bytes_left_over = 8

-- a fault's number
abbrev pub fault_number : Fault → ℕ
fault_number Fault.ShortIndex = short_lists
fault_number Fault.EndsEarly = book_ends_early
fault_number Fault.BadCount = bad_count
fault_number Fault.BadSpelling = bad_spelling
fault_number Fault.BadField = bad_field
fault_number Fault.BadPassing = bad_passing
fault_number Fault.BytesLeftOver = bytes_left_over

-- ---- Sections
-- "Words, 0 to 64"
abbrev pub most_words : ℕ
most_words = 64

-- "Starting names, 0 to 64"
abbrev pub most_names : ℕ
most_names = 64

-- "Nonterminals, 1 to 32"
abbrev pub most_nonterminals : ℕ
most_nonterminals = 32

-- "Variants, the sum of those, at most 128"
abbrev pub most_variants : ℕ
most_variants = 128

-- ---- Bytes of a record
-- "mark, number of variants"
abbrev pub nonterminal_size : ℕ
nonterminal_size = 2

-- of a variant: "level; associativity ..; flags ..; steps"; of a step: "kind, a, b, c"
abbrev pub record_size : ℕ
record_size = 4

-- ---- Fields
-- "reserved 0 or 1"
abbrev pub reserved : ℕ
reserved = 1

-- "kind 0 to 7"
abbrev pub last_kind : ℕ
last_kind = 7

abbrev pub kinds : ℕ
kinds = 8

-- "length 1 to 15"
abbrev pub longest_spelling : ℕ
longest_spelling = 15

-- "Mark 0 plain; 1 calls `try_claim_as_var` first; 2 is `identifier_nonterminal`, with 0 variants"
abbrev pub identifier_mark : ℕ
identifier_mark = 2

-- document 02 d, "the binder of `CoreBinder::parse` as mark 3"
abbrev pub binder_mark : ℕ
binder_mark = 3

-- the last mark is a binder's
abbrev pub last_mark : ℕ
last_mark = 3

-- "number of variants 0 to 16"
abbrev pub variants_each : ℕ
variants_each = 16

-- "Level 255 is Rust's default and needs Both"
abbrev pub default_level : ℕ
default_level = 255

-- no byte is greater
abbrev pub largest_byte : ℕ
largest_byte = 255

abbrev pub both : ℕ
both = 3

-- "flags 0 to 3 (1 committed, plus 2 passing)"
abbrev pub committed_flags : ℕ
committed_flags = 1

abbrev pub last_flags : ℕ
last_flags = 3

-- "steps 0 to 8"
abbrev pub steps_each : ℕ
steps_each = 8

-- outside a binder: "Kinds: 0 character a; .. 13 the same, optional"
abbrev pub last_step_kind : ℕ
last_step_kind = 13

-- document 02 d, "a step of kind 14: body, opening, closing"
abbrev pub binder_kind : ℕ
binder_kind = 14

-- "Characters are 33 to 126"
abbrev pub first_character : ℕ
first_character = 33

abbrev pub last_character : ℕ
last_character = 126
