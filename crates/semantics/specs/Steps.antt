-- Document 01, "The book" and "Derivations": the steps of a variant, what each takes at a place, and what is left to
-- do of them; with those of document 02 d's binders.
use Rattle.std.specs.Prelude.{Bool, true, false, List, map, ℕ, ◌-◌, eqb, take, drop}
use Rattle.std.specs.Prelude.{Option, None, Some}
use Rattle.characters.specs.Skipping.{skip_from}
use Rattle.characters.specs.Spelling.{same}
use Rattle.characters.specs.Lexemes.{number_at}
use Rattle.characters.specs.declared.lexemes.Number.{Number}
use Rattle.book.specs.Book.{Entry, Book, nth_entry}
use Rattle.book.specs.declared.records.Step.{Step}
use Rattle.book.specs.declared.records.Variant.{Variant}
use Rattle.semantics.specs.Uses.{Scope}
use Rattle.semantics.specs.Tokens.{Item, name, number, Variable, Read, when, character_end, identifier_end, spelled}
use Rattle.semantics.specs.Tokens.{reserved_at, free_end, variable_at}

-- where a token ends, and what it adds
pub record Token : Type 0 where
  pub next : ℕ
  pub item : Option Item

-- what a step takes at a place
pub data Taken : Type 0 where
  -- kinds 0 to 7: a token; kinds 6 and 7 take one that is empty, where they reject nothing
  token : Token → Taken
  -- kinds 8 and 9: a child of a nonterminal, or perhaps one
  child optional : ℕ → Taken
  -- kinds 10 to 13: a list begins: with commas or without, of a nonterminal, up to a closing or none, at a place
  list : Bool → ℕ → Option ℕ → ℕ → Taken
  -- kind 13 without its opening: the empty list, at a place
  unopened : ℕ → Taken
  -- document 02 d, kind 14: names begin, up to a closing, for a body of a nonterminal, at a place; without the
  -- opening, "the body alone"
  names : ℕ → ℕ → ℕ → Taken
  body : ℕ → Taken
  -- no such token, or no opening of kind 12
  nothing : Taken

abbrev pub read : ℕ → Option Item → Taken
read next item = token (record { next = next; item = item })

abbrev pub read_variable : Read Variable → Taken
read_variable v = read v.end (Some v.value.item)

-- "Every token skips first; what follows it is unskipped"; "Kinds 2 to 5 .. add one item, others none; 6 and 7 don't
-- move the place"
unfoldable pub step_at : Book → List ℕ → Scope → Step → ℕ → Taken
step_at book text scope (Step.Character a) x = elim (character_end text a x)
    [ Some end ↦ read end None | None ↦ nothing ]
step_at book text scope (Step.Word a) x =
    let at = skip_from text x in
    elim (identifier_end text at) [
      | Some end ↦ when (same (spelled text at end) (nth_entry book.words a).spelling)
          (λ _. read end None) (λ _. nothing)
      | None ↦ nothing
    ]
step_at book text scope Step.Identifier x =
    let at = skip_from text x in
    elim (free_end book text at) [ Some end ↦ read end (Some (name at (end - at))) | None ↦ nothing ]
step_at book text scope Step.Number x =
    elim (number_at text (skip_from text x)) [
      | Number.Value value end ↦ read end (Some (number value))
      | Number.TooLarge ↦ nothing
      | Number.Nothing ↦ nothing
    ]
step_at book text scope Step.Variable x =
    elim (variable_at book text scope (skip_from text x)) [ Some v ↦ read_variable v | None ↦ nothing ]
step_at book text scope (Step.VariableOfKind a) x =
    elim (variable_at book text scope (skip_from text x)) [
      | Some v ↦ when (eqb v.value.kind a) (λ _. read_variable v) (λ _. nothing)
      | None ↦ nothing
    ]
step_at book text scope Step.RejectVariable x =
    elim (variable_at book text scope (skip_from text x)) [ Some v ↦ nothing | None ↦ read x None ]
step_at book text scope Step.RejectReserved x =
    when (reserved_at book text (skip_from text x)) (λ _. nothing) (λ _. read x None)
step_at book text scope (Step.Nonterminal M) x = child M
step_at book text scope (Step.Optional M) x = optional M
step_at book text scope (Step.Many M) x = list false M None x
step_at book text scope (Step.CommaList M) x = list true M None x
step_at book text scope (Step.Delimited M b c) x =
    elim (character_end text b x) [ Some y ↦ list true M (Some c) y | None ↦ nothing ]
-- "If .. an optional opening is there it must be taken; without its opening kind 13 is the empty list"; "an optional
-- opening in vain, still leaves the place skipped"
step_at book text scope (Step.OptionalDelimited M b c) x =
    elim (character_end text b x) [ Some y ↦ list true M (Some c) y | None ↦ unopened (skip_from text x) ]
-- document 02 d, "an opening character, a comma list of names, a closing character, and a body; without the opening,
-- the body alone"
step_at book text scope (Step.Binder M b c) x =
    elim (character_end text b x) [ Some y ↦ names c M y | None ↦ body M ]

-- ---- Lists
-- after an element the list goes on at a place, or halts there
pub data After : Type 0 where
  goes halts : ℕ → After

module _ (text : List ℕ) where
  -- "A comma list is stop, or one followed by stop or, after a comma, by the list again. A comma looked for in vain ..
  -- still leaves the place skipped. If a comma .. is there it must be taken"; many has no comma. 44 is the comma
  unfoldable pub after_element : Bool → ℕ → After
  after_element false place = goes place
  after_element true place =
      elim (character_end text 44 place) [ Some end ↦ goes end | None ↦ halts (skip_from text place) ]

  -- behind a list: the closing of a delimited one, or nothing
  unfoldable pub closed : Option ℕ → ℕ → Option ℕ
  closed None place = Some place
  closed (Some c) place = character_end text c place

-- ---- What is left to do
-- a step; the elements of a list, with or without commas, of a nonterminal, after those already read, up to a
-- closing; or the end of such a list; the names of a binder, after those already read, with the values of their kinds,
-- up to a closing and then for a body of a nonterminal; or the end of such names
pub data Todo (Values : Type 0) : Type 0 where
  taking : Step → Todo Values
  elements : Bool → ℕ → Values → Option ℕ → Todo Values
  ending : Values → Option ℕ → Todo Values
  naming closing : List Entry → Values → ℕ → ℕ → Todo Values

-- the steps of a variant
abbrev pub steps_of : Book → Variant → List Step
steps_of book w = take w.count (drop w.first book.steps)

abbrev pub todo_of : {Values : Type 0} → Book → Variant → List (Todo Values)
todo_of book w = map taking (steps_of book w)
