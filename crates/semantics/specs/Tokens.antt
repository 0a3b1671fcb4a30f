-- Document 01, "The book" and "Derivations": characters, identifiers and variables at a place of the text, and the
-- claim of a mark-1 use; with document 02 d, variables in a scope and declared names.
use Rattle.std.specs.Prelude.{Bool, true, false, ◌&&◌, ◌||◌, List, [], ◌∷◌, ℕ, suc, ◌+◌, ◌-◌, ltb, eqb, length, get_or}
use Rattle.std.specs.Prelude.{Option, None, Some}
use Rattle.characters.specs.Skipping.{skip_from}
use Rattle.characters.specs.Spelling.{part_of}
use Rattle.characters.specs.Lexemes.{identifier_at}
use Rattle.book.specs.Book.{Entry, Book, is_reserved, lookup_name, kind_word}
use Rattle.book.specs.declared.names.StartingName.{StartingName}
use Rattle.semantics.specs.Uses.{within, behind, Path, Scope, scope_of, has_mark}

-- a branch waits for its test
abbrev pub when : {A : Type 0} → Bool → (Unit {0} → A) → (Unit {0} → A) → A
when true f g = f tt
when false f g = g tt

unfoldable pub is_some : {A : Type 0} → Option A → Bool
is_some None = false
is_some (Some a) = true

-- what a token adds: an identifier by the place and length of its spelling; a number; a variable that is a starting
-- name by its number and kind; one that is declared by its binder's depth outwards and its index within that binder
pub data Item : Type 0 where
  name : ℕ → ℕ → Item
  number : ℕ → Item
  variable declared : ℕ → ℕ → Item

-- a variable: its kind, and what it adds
pub record Variable : Type 0 where
  pub kind : ℕ
  pub item : Item

-- what is read at a place, and where it ends
pub record Read (A : Type 0) : Type 0 where
  pub end : ℕ
  pub value : A

-- What a spelling names. Document 02 d: "An equal name declared later wins": the innermost binder that has it decides,
-- and in the binder the last; behind all binders stand the starting names, of which "The last equal one wins". d
-- openings were read between the name and the binders looked at: "both from 0, .. depth counting read openings only"
unfoldable pub variable_in : List Entry → ℕ → Scope → List ℕ → Option Variable
variable_in names d [] spelling =
    elim (lookup_name names spelling) [
      | Some n ↦ Some (record { kind = n.kind; item = variable n.number n.kind })
      | None ↦ None
    ]
variable_in names d (binder ∷ scope) spelling =
    elim (lookup_name binder spelling) [
      | Some n ↦ Some (record { kind = n.kind; item = declared d n.number })
      | None ↦ variable_in names (suc d) scope spelling
    ]

module _ (text : List ℕ) where
  -- the end of the character a, after skipping
  unfoldable pub character_end : ℕ → ℕ → Option ℕ
  character_end a place =
      let at = skip_from text place in
      when (ltb at (length text) && eqb (get_or text at 0) a) (λ _. Some (at + 1)) (λ _. None)

  -- an identifier at a place: its end
  unfoldable pub identifier_end : ℕ → Option ℕ
  identifier_end at = identifier_at text at

  abbrev pub spelled : ℕ → ℕ → List ℕ
  spelled at end = part_of text at (end - at)

module _ (book : Book) (text : List ℕ) where
  -- whether a reserved word stands at a place
  unfoldable pub reserved_at : ℕ → Bool
  reserved_at at =
      elim (identifier_end text at) [ Some end ↦ is_reserved book.words (spelled text at end) | None ↦ false ]

  -- an identifier that is not reserved, of kind 2, of a mark-2 use and of a declared name: "2, 4, 5 and a mark-2 use
  -- refuse a reserved word", and by document 02 f "Identifiers still refuse reserved words"
  unfoldable pub free_end : ℕ → Option ℕ
  free_end at = when (reserved_at at) (λ _. None) (λ _. identifier_end text at)

  -- a variable at a place of a scope: a name, reserved or not. Document 02 f: "The starting name shall win in steps of
  -- kinds 4 and 5, in kind 6 and in the claim of mark 1"
  unfoldable pub variable_at : Scope → ℕ → Option (Read Variable)
  variable_at scope at =
      elim (identifier_end text at) [
        | Some end ↦ elim (variable_in book.names 0 scope (spelled text at end)) [
          | Some v ↦ Some (record { end = end; value = v })
          | None ↦ None
        ]
        | None ↦ None
      ]

  -- whether an enclosing mark-1 use of the same scope begins at a place
  unfoldable pub has_claimant : Path → ℕ → Bool
  has_claimant [] u = false
  has_claimant (behind names ∷ path) u = false
  has_claimant (within f ∷ path) u = (has_mark book 1 f.nonterminal && eqb f.start u) || has_claimant path u

  -- "unless an enclosing mark-1 use at the same place and scope could read a variable there"
  abbrev pub claimed : Path → ℕ → Bool
  claimed path u = is_some (variable_at (scope_of path) u) && has_claimant path u

  -- ---- Declared names. Document 02 d: "A declared name is the word whose number is its kind, 0 to 7 (the least if
  -- alike), then an identifier"
  -- the kind's word at a place, reserved or not
  unfoldable pub kind_at : ℕ → Option (Read ℕ)
  kind_at at =
      elim (identifier_end text at) [
        | Some end ↦ elim (kind_word book.words (spelled text at end)) [
          | Some kind ↦ Some (record { end = end; value = kind })
          | None ↦ None
        ]
        | None ↦ None
      ]

  -- a name of a kind, at a place
  unfoldable pub name_of_kind : ℕ → ℕ → Option (Read Entry)
  name_of_kind kind at =
      elim (free_end at) [
        | Some end ↦ Some (record { end = end; value = record { label = kind; spelling = spelled text at end } })
        | None ↦ None
      ]

  -- a declared name at a place, with its kind for its label
  unfoldable pub declaration_at : ℕ → Option (Read Entry)
  declaration_at at = elim (kind_at at) [ Some k ↦ name_of_kind k.value (skip_from text k.end) | None ↦ None ]
