-- Document 02 f, "A starting name that is also reserved": both definitions that it has changed, as they were, and what
-- it is that nothing else moves: "Old answers that change, for such a word only". They stand in no other file. All is
-- outside every opening (the scope []): names declared inside a rule came later.
use Rattle.std.specs.Prelude.{◌≡◌, true, false, List, [], ℕ, ◌<◌, length}
use Rattle.std.specs.Prelude.{Option, None, Some}
use Rattle.book.specs.Book.{Book, nth_entry, is_reserved}
use Rattle.book.specs.declared.records.Step.{Step}
use Rattle.semantics.specs.Numbers.{unknown_name, wrong_kind}
use Rattle.semantics.specs.Tokens.{Variable, Read, when, is_some, spelled, reserved_at, free_end}
use Rattle.semantics.specs.Tokens.{variable_in, variable_at}
use Rattle.semantics.specs.Errors.{Error, error, identifier_error, step_error}

module _ (book : Book) (text : List ℕ) where
  -- a variable at a place: "2, 4, 5 and a mark-2 use refuse a reserved word"
  unfoldable pub variable_before : ℕ → Option (Read Variable)
  variable_before at =
      elim (free_end book text at) [
        | Some end ↦ elim (variable_in book.names 0 [] (spelled text at end)) [
          | Some v ↦ Some (record { end = end; value = v })
          | None ↦ None
        ]
        | None ↦ None
      ]

  -- the error of kind 5 at a skipped place
  unfoldable pub kind_error_before : ℕ → ℕ → Error
  kind_error_before a at =
      identifier_error book text at
      (when (is_some (variable_before at)) (λ _. error at wrong_kind a) (λ _. error at unknown_name 0))

  -- both are at a place what they were
  pub record AsBefore (at : ℕ) : Type 0 where
    pub variable : variable_at book text [] at ≡ variable_before at
    pub errors : (a : ℕ) → step_error book text [] (Step.VariableOfKind a) at ≡ kind_error_before a at

  -- no starting name stands at a place that is a reserved word
  abbrev pub NoReservedNameAt : ℕ → Type 0
  NoReservedNameAt at = reserved_at book text at ≡ true → variable_at book text [] at ≡ None

-- no starting name of the book is a reserved word
abbrev pub NoReservedName : Book → Type 0
NoReservedName book =
    (i : ℕ) → i < length book.names → is_reserved book.words (nth_entry book.names i).spelling ≡ false

-- "for such a word only", at a place and of a book
abbrev pub UnmovedAt : Type 0
UnmovedAt = (book : Book) (text : List ℕ) (at : ℕ) → NoReservedNameAt book text at → AsBefore book text at

abbrev pub Unmoved : Type 0
Unmoved = (book : Book) → NoReservedName book → (text : List ℕ) (at : ℕ) → AsBefore book text at
