-- Document 02 d, by examples: names in nested scopes, what is read as a declared name, the run behind an opening, and
-- answers by a book with a binder.
use Rattle.std.specs.Prelude.{◌≡◌, refl, true, false, List, [], ◌∷◌, ◌++◌, ℕ, replicate}
use Rattle.std.specs.Prelude.{Option, None, Some}
use Rattle.book.specs.Book.{Entry, Book}
use Rattle.book.specs.Check.{check_book, Outcome}
use Rattle.book.specs.declared.records.Mark.{Mark}
use Rattle.book.specs.declared.records.Associativity.{Associativity}
use Rattle.book.specs.declared.records.Variant.{Variant}
use Rattle.book.specs.declared.records.Step.{Step}
use Rattle.semantics.specs.Values.{Tree, no_trees, ◌▸◌}
use Rattle.semantics.specs.Uses.{Use, use_of, within, behind, Path, scope_of, minimum, same_start, governor}
use Rattle.semantics.specs.Tokens.{Item, Variable, Read, variable_in, has_claimant, claimed, declaration_at}
use Rattle.semantics.specs.Steps.{Taken, step_at}
use Rattle.semantics.specs.Cells.{Cell}
use Rattle.semantics.specs.Errors.{error, step_error, declaration_error}
use Rattle.semantics.specs.Run.{Result, met, ok, State, Parsed, parsed, call, open_scope, body_after, name_choice}
use Rattle.semantics.specs.Run.{parse_by, runner}
use Rattle.semantics.proofs.ExampleBook.{computing, value, refused, reads, reads_within}

-- an entry of one letter
abbrev entry : ℕ → ℕ → Entry
entry label letter = record { label = label; spelling = letter ∷ [] }

abbrev variant_of : ℕ → ℕ → Variant
variant_of first n = record {
  level = 255;
  associativity = Associativity.Both;
  committed = true;
  passing = false;
  first = first;
  count = n;
}

-- words: `t`, which is reserved, `u` twice, `v` five times, and `w`; starting names: `s` of kind 2 and `q` of kind 3.
-- Nonterminal 0 is a binder with `<` and `>`, whose body is nonterminal 1, of mark 1: a variable, or `-` and a binder
abbrev bytes : List ℕ
bytes =
    9 ∷ 1 ∷ 1 ∷ 116 ∷ 0 ∷ 1 ∷ 117 ∷ 0 ∷ 1 ∷ 117 ∷ 0 ∷ 1 ∷ 118 ∷ 0 ∷ 1 ∷ 118 ∷ 0 ∷ 1 ∷ 118 ∷ 0 ∷ 1 ∷ 118 ∷ 0 ∷ 1 ∷ 118
    ∷ 0 ∷ 1 ∷ 119
    ∷ 2 ∷ 2 ∷ 1 ∷ 115 ∷ 3 ∷ 1 ∷ 113
    ∷ 2 ∷ 3 ∷ 1 ∷ 1 ∷ 2
    ∷ 3 ∷ 255 ∷ 3 ∷ 1 ∷ 1 ∷ 255 ∷ 3 ∷ 1 ∷ 1 ∷ 255 ∷ 3 ∷ 1 ∷ 2
    ∷ 4 ∷ 14 ∷ 1 ∷ 60 ∷ 62 ∷ 4 ∷ 0 ∷ 0 ∷ 0 ∷ 0 ∷ 45 ∷ 0 ∷ 0 ∷ 8 ∷ 0 ∷ 0 ∷ 0 ∷ []

abbrev book : Book
book = record {
  words = entry 1 116 ∷ entry 0 117 ∷ entry 0 117 ∷ (replicate 5 (entry 0 118) ++ (entry 0 119 ∷ []));
  names = entry 2 115 ∷ entry 3 113 ∷ [];
  nonterminals =
      record { mark = Mark.Binder; first = 0; count = 1 } ∷ record { mark = Mark.Variable; first = 1; count = 2 } ∷ [];
  variants = variant_of 0 1 ∷ variant_of 1 1 ∷ variant_of 2 2 ∷ [];
  steps = Step.Binder 1 60 62 ∷ Step.Variable ∷ Step.Character 45 ∷ Step.Nonterminal 0 ∷ [];
}

-- ---- Names in scope: behind `<t a, u a, t b>`, in `<>`, in `<t a, u c, t s>`
abbrev inner : List Entry
inner = entry 0 97 ∷ entry 1 97 ∷ entry 0 98 ∷ []

abbrev outer : List Entry
outer = entry 0 97 ∷ entry 1 99 ∷ entry 0 115 ∷ []

abbrev f : Use
f = use_of book 1 4 1 4

abbrev path : Path
path = behind inner ∷ within f ∷ behind [] ∷ within f ∷ behind outer ∷ within f ∷ []

-- what a letter names there
abbrev names : ℕ → Option Variable
names letter = variable_in book.names 0 (scope_of path) (letter ∷ [])

-- what a step takes there of the letter `a`, at the place 4
abbrev letter : List ℕ
letter = 32 ∷ 32 ∷ 32 ∷ 32 ∷ 97 ∷ []

abbrev takes : Step → Taken
takes step = step_at book letter (scope_of path) step 4

abbrev variable : ℕ → Item → Option Variable
variable kind item = Some (record { kind = kind; item = item })

-- ---- Declared names
abbrev declares : List ℕ → Option (Read Entry)
declares text = declaration_at book text 0

abbrev declared : ℕ → ℕ → Option (Read Entry)
declared end kind = Some (record { end = end; value = entry kind 120 })

-- ---- The run behind the opening of `<u a>a`: of a call of the binder at place 0, whose variant has begun
abbrev state : ℕ → List Cell → State
state units cells = record { units = units; cells = cells; asked = false ∷ [] }

abbrev text : List ℕ
text = 60 ∷ 117 ∷ 32 ∷ 97 ∷ 62 ∷ 97 ∷ []

abbrev behind_opening : ℕ → Result Parsed
behind_opening levels =
    name_choice book text (runner book text levels) (call [] [] 0 0 []) 0 [] 1 62 1 [] 1 1 []
    (state 5 (Cell.empty ∷ []))

-- n names are declared in a scope that has 32
abbrev opens : ℕ → Result State
opens n = open_scope (Some (replicate n (entry 0 97))) (replicate 32 (entry 0 97) ∷ []) (state 7 [])

-- the body behind 65 names, with these cells, no unit and no level of nesting
abbrev body : List Cell → Result Parsed
body cs = body_after book text None (Some (replicate 65 (entry 0 97))) (call [] [] 0 0 []) 0 1 2 [] 5 1 [] (state 0 cs)

-- ---- Values: of the binder's variant, of the variable's, and of the variant with `-`
abbrev bound : Tree → Tree → Tree
bound kinds body = Tree.variant 0 (no_trees ▸ kinds ▸ body)

abbrev variable_tree : Tree → Tree
variable_tree v = Tree.variant 1 (no_trees ▸ v)

abbrev minus : Tree → Tree
minus body = Tree.variant 2 (no_trees ▸ body)

abbrev kind : ℕ → Tree
kind k = Tree.list (no_trees ▸ Tree.number k)

pub record DeclaredNameAnswers : Type 0 where
  -- "An equal name declared later wins", in its binder, and before those of the binders around it
  pub later : names 97 ≡ variable 1 (Item.declared 0 1)
  -- "its binder's depth outwards and its index within that binder, .. depth counting read openings only": the empty one
  -- too, and no use
  pub outwards : names 99 ≡ variable 1 (Item.declared 2 1)
  -- a declared name wins before a starting name; behind all binders stand those
  pub hides : names 115 ≡ variable 0 (Item.declared 2 2)
  pub starting : names 113 ≡ variable 3 (Item.variable 1 3)
  -- "The body is read in a new scope, and a governor must have the same scope"; and so must what claims
  pub governed : governor (within f ∷ path) 1 4 ≡ same_start 0 f path
  pub ungoverned : governor path 1 4 ≡ minimum 0
  pub claims : has_claimant book text (within f ∷ path) 4 ≡ true
  pub unclaimed : has_claimant book text path 4 ≡ false
  -- kinds 5 and 6 and the claim look in the scope, too: `a` is of kind 1 there, and no starting name
  pub of_kind : takes (Step.VariableOfKind 1) ≡ Taken.token (record { next = 5; item = Some (Item.declared 0 1) })
  pub of_no_kind : takes (Step.VariableOfKind 0) ≡ Taken.nothing
  pub wrong_kind_lem : step_error book letter (scope_of path) (Step.VariableOfKind 0) 4 ≡ error 4 8 0
  pub no_variable : takes Step.RejectVariable ≡ Taken.nothing
  pub declared_claimed : claimed book letter (within f ∷ path) 4 ≡ true
  -- "A declared name is the word whose number is its kind, 0 to 7 (the least if alike), then an identifier": `t x`, by
  -- a reserved word; `u x`; `w x`; and `u t`, a reserved identifier
  pub reserved_kind : declares (116 ∷ 32 ∷ 120 ∷ []) ≡ declared 3 0
  pub least : declares (117 ∷ 32 ∷ 120 ∷ []) ≡ declared 3 1
  pub above_7 : declares (119 ∷ 32 ∷ 120 ∷ []) ≡ None
  pub reserved : declares (117 ∷ 32 ∷ 116 ∷ []) ≡ None
  -- "its error 11 has argument 32": `x`; behind the word, of an identifier: `u`, `u t`, `u 1`
  pub no_kind : declaration_error book (120 ∷ []) 0 ≡ error 0 11 32
  pub ended : declaration_error book (117 ∷ []) 0 ≡ error 1 4 0
  pub reserved_error : declaration_error book (117 ∷ 32 ∷ 116 ∷ []) 0 ≡ error 2 6 0
  pub no_identifier : declaration_error book (117 ∷ 32 ∷ 49 ∷ []) 0 ≡ error 2 3 0
  -- "41, .. when a body's scope opens, .. and a 65th declared name would be open": those of all binders
  pub open_64 : opens 32 ≡ ok (state 7 [])
  pub open_65 : opens 33 ≡ met 41 7
  pub nested_65 :
      body_after book text None (Some (replicate 33 (entry 0 97)))
      (call (behind (replicate 32 (entry 0 97)) ∷ []) [] 0 0 []) 0 1 2 [] 5 1 [] (state 0 (Cell.empty ∷ []))
      ≡ met 41 0
  -- behind the cells of the kinds, and "before the body's unit"
  pub after_the_cells : body (replicate 4096 Cell.absent) ≡ met 23 0
  pub before_the_unit : body (Cell.empty ∷ []) ≡ met 41 0
  -- a unit for the choice, the name, the body's call and the first step of each of the body's two variants; the name's
  -- kind "is made last"; "Its items are the kinds as a list of numbers, .. and the body"
  pub read :
      behind_opening 2 ≡ ok (parsed (parse_by book text 0 6 11 ∷ []) None (state 0
      (Cell.empty ∷ Cell.list 1 ∷ Cell.number 0 1 ∷ Cell.chain 1 3 ∷ Cell.list 4 ∷ Cell.chain 1 5 ∷ Cell.declared 0 0
      ∷ Cell.chain 1 7 ∷ Cell.variant 1 8 ∷ Cell.chain 6 9 ∷ Cell.variant 0 10 ∷ [])))
  -- what follows a name is one level further in, and so is the body's call
  pub too_deep_lem : behind_opening 1 ≡ met 21 2
  -- a book with a binder is accepted
  pub accepted : check_book bytes ≡ Outcome.book book
  -- "an opening character, a comma list of names, a closing character, and a body": `<u a>a`; `< u a , >a`, as a comma
  -- list may end with a comma; `<>s`
  pub one : reads bytes text ≡ value (bound (kind 1) (variable_tree (Tree.declared 0 0))) 1
  pub last_comma :
      reads bytes (60 ∷ 32 ∷ 117 ∷ 32 ∷ 97 ∷ 32 ∷ 44 ∷ 32 ∷ 62 ∷ 97 ∷ [])
      ≡ value (bound (kind 1) (variable_tree (Tree.declared 0 0))) 1
  pub empty : reads bytes (60 ∷ 62 ∷ 115 ∷ []) ≡ value (bound (Tree.list no_trees) (variable_tree (Tree.variable 0 2)))
      1
  -- "without the opening, the body alone"; kinds "absent without the opening": `s`
  pub alone : reads bytes (115 ∷ []) ≡ value (bound Tree.absent (variable_tree (Tree.variable 0 2))) 1
  -- `<u a>-<t b>a`, and `<u a>-a`, where an absent opening is no binder
  pub depth_1 :
      reads bytes (60 ∷ 117 ∷ 32 ∷ 97 ∷ 62 ∷ 45 ∷ 60 ∷ 116 ∷ 32 ∷ 98 ∷ 62 ∷ 97 ∷ [])
      ≡ value (bound (kind 1) (minus (bound (kind 0) (variable_tree (Tree.declared 1 0))))) 1
  pub depth_0 :
      reads bytes (60 ∷ 117 ∷ 32 ∷ 97 ∷ 62 ∷ 45 ∷ 97 ∷ [])
      ≡ value (bound (kind 1) (minus (bound Tree.absent (variable_tree (Tree.declared 0 0))))) 1
  -- `<,>s`: neither a name nor the closing; `<u a`; `<u a>b`
  pub no_name : reads bytes (60 ∷ 44 ∷ 62 ∷ 115 ∷ []) ≡ refused 30 1 12 0
  pub unclosed : reads bytes (60 ∷ 117 ∷ 32 ∷ 97 ∷ []) ≡ refused 30 4 1 62
  pub unknown : reads bytes (60 ∷ 117 ∷ 32 ∷ 97 ∷ 62 ∷ 98 ∷ []) ≡ refused 30 5 11 1
  -- `<u a>a` takes 7 units, and not one less
  pub enough : reads_within 7 bytes text ≡ value (bound (kind 1) (variable_tree (Tree.declared 0 0))) 1
  pub too_few : reads_within 6 bytes text ≡ refused 20 0 0 0

pub declared_name_answers : DeclaredNameAnswers
unfolding computing
declared_name_answers = record {
  later = refl;
  outwards = refl;
  hides = refl;
  starting = refl;
  governed = refl;
  ungoverned = refl;
  claims = refl;
  unclaimed = refl;
  of_kind = refl;
  of_no_kind = refl;
  wrong_kind_lem = refl;
  no_variable = refl;
  declared_claimed = refl;
  reserved_kind = refl;
  least = refl;
  above_7 = refl;
  reserved = refl;
  no_kind = refl;
  ended = refl;
  reserved_error = refl;
  no_identifier = refl;
  open_64 = refl;
  open_65 = refl;
  nested_65 = refl;
  after_the_cells = refl;
  before_the_unit = refl;
  read = refl;
  too_deep_lem = refl;
  accepted = refl;
  one = refl;
  last_comma = refl;
  empty = refl;
  alone = refl;
  depth_1 = refl;
  depth_0 = refl;
  no_name = refl;
  unclosed = refl;
  unknown = refl;
  enough = refl;
  too_few = refl;
}
