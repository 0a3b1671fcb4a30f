-- What each struct and enum of the code stands for among the definitions of `semantics`.
use Rattle.std.specs.Prelude.{Bool, false, cond, List, ℕ, eqb}
use Rattle.std.specs.Prelude.{Option, None, Some}
use Rattle.book.specs.Book.{Book, lookup_name}
use Rattle.book.specs.declared.names.StartingName.{StartingName}
use Rattle.semantics.specs.Run.{closing_code}
use Rattle.semantics.specs.Steps as steps
use Rattle.semantics.specs.Tokens as tokens
use Rattle.tokens.specs.declared.steps.After.{After}
use Rattle.tokens.specs.declared.steps.Item.{Item}
use Rattle.tokens.specs.declared.steps.Taken.{Taken}
use Rattle.tokens.specs.declared.tokens.Variable.{Variable}

-- a variable of a kind that ends at a place and adds an item
abbrev pub variable_as : ℕ → ℕ → tokens.Item → tokens.Read tokens.Variable
variable_as end kind item = record { end = end; value = record { kind = kind; item = item } }

abbrev pub variable_of : Option Variable → Option (tokens.Read tokens.Variable)
variable_of None = None
variable_of (Some (Variable.Starting end number kind)) =
    Some (variable_as end kind (tokens.Item.variable number kind))
variable_of (Some (Variable.Declared end depth index kind)) =
    Some (variable_as end kind (tokens.Item.declared depth.0 index.0))

abbrev pub item_of : Option Item → Option tokens.Item
item_of None = None
item_of (Some (Item.Name place size)) = Some (tokens.Item.name place size)
item_of (Some (Item.Number value)) = Some (tokens.Item.number value)
item_of (Some (Item.Variable number kind)) = Some (tokens.Item.variable number kind)
item_of (Some (Item.Declared depth index)) = Some (tokens.Item.declared depth.0 index.0)

-- a list that begins, of a nonterminal or of the names before a body
abbrev pub list_of : Bool → Bool → ℕ → Option ℕ → ℕ → steps.Taken
list_of comma names N closing place =
    cond names (steps.Taken.names (closing_code closing) N place) (steps.Taken.list comma N closing place)

abbrev pub taken_of : Option Taken → steps.Taken
taken_of None = steps.Taken.nothing
taken_of (Some (Taken.Token next item)) = steps.read next (item_of item)
taken_of (Some (Taken.Child N)) = steps.Taken.child N
taken_of (Some (Taken.Optional N)) = steps.Taken.optional N
taken_of (Some (Taken.List comma names N closing place)) = list_of comma names N closing place
taken_of (Some (Taken.Unopened place)) = steps.Taken.unopened place
taken_of (Some (Taken.Body N)) = steps.Taken.body N

abbrev pub after_of : After → steps.After
after_of (After.Goes place) = steps.After.goes place
after_of (After.Halts place) = steps.After.halts place

-- ---- What the code's small functions give
-- the starting name that stands between two places of the text
abbrev pub starting_as : ℕ → Option StartingName → Option (tokens.Read tokens.Variable)
starting_as end (Some n) = Some (variable_as end n.kind (tokens.Item.variable n.number n.kind))
starting_as end None = None

abbrev pub starting_name : Book → List ℕ → ℕ → ℕ → Option (tokens.Read tokens.Variable)
starting_name book text at end = starting_as end (lookup_name book.names (tokens.spelled text at end))

-- what a variable that was looked for gives to a step
abbrev pub variable_taken : Option (tokens.Read tokens.Variable) → steps.Taken
variable_taken None = steps.Taken.nothing
variable_taken (Some v) = steps.read_variable v

-- whether one was found, and has a kind
abbrev pub has_kind : Option (tokens.Read tokens.Variable) → ℕ → Bool
has_kind None kind = false
has_kind (Some v) kind = eqb v.value.kind kind
