-- Sets of parses in a list of numbers, "in first-found order": at a set's place stands its count, and behind it four
-- numbers for each parse.
use Rattle.std.specs.Prelude.{◌≡◌, Bool, true, false, cond, List, [], ◌∷◌, ◌++◌, ◌⊎◌, ℕ, zero, suc, ◌+◌, ◌*◌, ◌<◌, ◌≤◌}
use Rattle.std.specs.Prelude.{ltb, length, get_or, set}
use Rattle.characters.specs.Slices.{Slice}
use Rattle.book.specs.Book.{associativity_number}
use Rattle.book.specs.Check.{associativity_of}
use Rattle.book.specs.declared.records.Associativity.{Associativity}
use Rattle.semantics.specs.Numbers.{parse_size, most_parses, too_many_parses}
use Rattle.semantics.specs.Values.{Parse}
use Rattle.semantics.specs.Uses.{Use}
use Rattle.semantics.specs.Run.{Result, met, ok, State, add, add_all, kept}
use Rattle.sets.specs.declared.Parse as code

abbrev pub parse : ℕ → ℕ → Associativity → ℕ → Parse ℕ
parse rest level associativity value =
    record { rest = rest; level = level; associativity = associativity; value = value }

-- the code's parse, as document 01 has it
abbrev pub parse_of : code.Parse → Parse ℕ
parse_of p = parse p.rest p.level p.associativity p.value

-- the numbers of a set: its count, and four for each parse
abbrev pub set_size : ℕ
set_size = 1 + parse_size * most_parses

-- ---- What a list of numbers says: every list gives a set
abbrev pub parse_at : List ℕ → ℕ → Parse ℕ
parse_at numbers place =
    parse (get_or numbers place 0) (get_or numbers (place + 1) 0) (associativity_of (get_or numbers (place + 2) 0))
    (get_or numbers (place + 3) 0)

-- k parses from a place on
unfoldable pub list_at : List ℕ → ℕ → ℕ → List (Parse ℕ)
list_at numbers place zero = []
list_at numbers place (suc k) = parse_at numbers place ∷ list_at numbers (place + 4) k

-- a count that is no count is the greatest
abbrev pub count_of : ℕ → ℕ
count_of x = cond (ltb x most_parses) x most_parses

unfoldable pub set_at : List ℕ → ℕ → List (Parse ℕ)
set_at numbers place = list_at numbers (place + 1) (count_of (get_or numbers place 0))

-- the four numbers of a parse, from a place on
abbrev pub put_parse : List ℕ → ℕ → Parse ℕ → List ℕ
put_parse numbers place p =
    set
    (set (set (set numbers place p.rest) (place + 1) p.level) (place + 2)
    (associativity_number p.associativity))
    (place + 3)
    p.value

-- ---- The slice that a function is lent
-- the set at a place is inside the slice
abbrev pub HasSet : ℕ → Slice → Type 0
HasSet place numbers = place + set_size ≤ length numbers

-- ---- What a function changes
-- at most so many numbers from a place on change
pub record Only (before after : List ℕ) (place size : ℕ) : Type 0 where
  pub low : (i : ℕ) → i < place → get_or after i 0 ≡ get_or before i 0
  pub high : (i : ℕ) → place + size ≤ i → get_or after i 0 ≡ get_or before i 0

-- two sets have no number in common
abbrev pub Apart : ℕ → ℕ → Type 0
Apart place other = (place + set_size ≤ other) ⊎ (other + set_size ≤ place)

-- the set at a place becomes this one, and no other number changes
pub record Becomes (before after : List ℕ) (place : ℕ) (set : List (Parse ℕ)) : Type 0 where
  pub now : set_at after place ≡ set
  pub only : Only before after place set_size

-- one parse more at the end, unless there are as many as a set may have
unfoldable pub appended : List (Parse ℕ) → Parse ℕ → List (Parse ℕ)
appended set p = cond (ltb (length set) most_parses) (set ++ (p ∷ [])) set

pub record Appended (r : Bool) (before after : List ℕ) (place : ℕ) (p : Parse ℕ) : Type 0 where
  pub now : set_at after place ≡ appended (set_at before place) p
  pub fits : r ≡ ltb (length (set_at before place)) most_parses
  pub only : Only before after place set_size

-- the result of an addition, by a function's answer and the set that it leaves: false is the limit, and then nothing is
-- said of the set
abbrev pub result : Bool → List (Parse ℕ) → State → Result (List (Parse ℕ))
result true set s = ok set
result false set s = met too_many_parses s.units

-- a parse joins the set at a place
pub record Added (r : Bool) (before after : List ℕ) (place : ℕ) (p : Parse ℕ) : Type 0 where
  pub now : (s : State) → add s (set_at before place) p ≡ result r (set_at after place) s
  pub only : Only before after place set_size

-- the set at `from` joins the set at `into`
pub record AllAdded (r : Bool) (before after : List ℕ) (into from : ℕ) : Type 0 where
  pub now : (s : State) → add_all s (set_at before into) (set_at before from) ≡ result r (set_at after into) s
  pub only : Only before after into set_size

-- the parse goes to the end of the set, if it is kept
unfoldable pub keep_end : Bool → List (Parse ℕ) → Parse ℕ → List (Parse ℕ)
keep_end true set p = appended set p
keep_end false set p = set

-- the set at `into` becomes what a use of this associativity and level keeps of the set at `from`
pub record Kept (before after : List ℕ) (into from : ℕ) (associativity : Associativity) (level : ℕ) : Type 0 where
  pub now : (u : Use) → u.associativity ≡ associativity → u.level ≡ level →
      set_at after into ≡ kept u (set_at before from)
  pub only : Only before after into set_size
