-- Document 01, "The book": what a book holds, section by section.
use Rattle.std.specs.Prelude.{Option, Some, None, Bool, false, cond, ◌&&◌, ◌||◌, List, [], ◌∷◌, ℕ, suc, eqb, get_or}
use Rattle.std.specs.Prelude.{take}
use Rattle.characters.specs.Spelling.{same}
use Rattle.book.specs.Numbers.{kinds}
use Rattle.book.specs.declared.names.StartingName.{StartingName}
use Rattle.book.specs.declared.records.Mark.{Mark}
use Rattle.book.specs.declared.records.Associativity.{Associativity}
use Rattle.book.specs.declared.records.Nonterminal.{Nonterminal}
use Rattle.book.specs.declared.records.Variant.{Variant}
use Rattle.book.specs.declared.records.Step.{Step}

-- a word, with 1 for its label if it is reserved and 0 if not; or a starting or
-- declared name, with its kind for its label
pub record Entry : Type 0 where
  pub label : ℕ
  pub spelling : List ℕ

-- A nonterminal's variants are the `count` ones from `first` on, and so are a variant's steps; both are numbered over
-- the book from 0
pub record Book : Type 0 where
  pub words : List Entry
  pub names : List Entry
  pub nonterminals : List Nonterminal
  pub variants : List Variant
  pub steps : List Step

-- ---- A record by its number. A number that the book doesn't have gets a fixed answer
abbrev pub nth_entry : List Entry → ℕ → Entry
nth_entry entries i = get_or entries i (record { label = 0; spelling = [] })

abbrev pub nth_nonterminal : Book → ℕ → Nonterminal
nth_nonterminal book i = get_or book.nonterminals i (record { mark = Mark.Plain; first = 0; count = 0 })

abbrev pub no_variant : Variant
no_variant =
    record { level = 0; associativity = Associativity.Left; committed = false; passing = false; first = 0; count = 0 }

abbrev pub nth_variant : Book → ℕ → Variant
nth_variant book j = get_or book.variants j no_variant

abbrev pub nth_step : List Step → ℕ → Step
nth_step steps k = get_or steps k (Step.Character 0)

-- ---- Lookups
-- a spelling is reserved if any equal word is
abbrev pub reserved_as : List ℕ → Entry → Bool
reserved_as spelling w = eqb w.label 1 && same spelling w.spelling

unfoldable pub is_reserved : List Entry → List ℕ → Bool
is_reserved [] spelling = false
is_reserved (w ∷ ws) spelling = reserved_as spelling w || is_reserved ws spelling

abbrev pub named : ℕ → ℕ → StartingName
named number kind = record { number = number; kind = kind }

-- "The last equal one wins": each equal name takes the place of what was found before it. The names are numbered from i
unfoldable pub lookup_from : Option StartingName → ℕ → List Entry → List ℕ → Option StartingName
lookup_from found i [] spelling = found
lookup_from found i (n ∷ ns) spelling =
    lookup_from (cond (same spelling n.spelling) (Some (named i n.label)) found) (suc i) ns spelling

abbrev pub lookup_name : List Entry → List ℕ → Option StartingName
lookup_name names spelling = lookup_from None 0 names spelling

-- the least number of an equal word. The words are numbered from i
unfoldable pub least_word : ℕ → List Entry → List ℕ → Option ℕ
least_word i [] spelling = None
least_word i (w ∷ ws) spelling =
    cond (same spelling w.spelling) (Some i) (least_word (suc i) ws spelling)

-- document 02 d, "the word whose number is its kind, 0 to 7 (the least if alike)"
abbrev pub kind_word : List Entry → List ℕ → Option ℕ
kind_word words spelling = least_word 0 (take kinds words) spelling

-- ---- Numbers of the documents
-- "Mark 0 plain; 1 calls `try_claim_as_var` first; 2 is `identifier_nonterminal`"; document 02 d, "the binder of
-- `CoreBinder::parse` as mark 3"
abbrev pub mark_number : Mark → ℕ
mark_number Mark.Plain = 0
mark_number Mark.Variable = 1
mark_number Mark.Identifier = 2
mark_number Mark.Binder = 3

-- "associativity 0 Left, 1 Right, 2 None, 3 Both"
abbrev pub associativity_number : Associativity → ℕ
associativity_number Associativity.Left = 0
associativity_number Associativity.Right = 1
associativity_number Associativity.None = 2
associativity_number Associativity.Both = 3

-- "Kinds: 0 character a; 1 word a; 2 identifier; .."; document 02 d, "a step of kind 14: body, opening, closing"
abbrev pub step_number : Step → ℕ
step_number (Step.Character a) = 0
step_number (Step.Word a) = 1
step_number Step.Identifier = 2
step_number Step.Number = 3
step_number Step.Variable = 4
step_number (Step.VariableOfKind a) = 5
step_number Step.RejectVariable = 6
step_number Step.RejectReserved = 7
step_number (Step.Nonterminal a) = 8
step_number (Step.Optional a) = 9
step_number (Step.Many a) = 10
step_number (Step.CommaList a) = 11
step_number (Step.Delimited a b c) = 12
step_number (Step.OptionalDelimited a b c) = 13
step_number (Step.Binder a b c) = 14
