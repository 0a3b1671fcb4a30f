-- Document 01, "Errors", with those of document 02 d's declared names.
use Rattle.std.specs.Prelude.{Bool, cond, ◌&&◌, ◌||◌, List, ℕ, leb, ltb, eqb, length}
use Rattle.std.specs.Prelude.{Option, None, Some}
use Rattle.characters.specs.Skipping.{skip_from}
use Rattle.characters.specs.Lexemes.{number_at}
use Rattle.characters.specs.declared.lexemes.Number.{Number}
use Rattle.book.specs.Book.{Book}
use Rattle.book.specs.declared.records.Step.{Step}
use Rattle.semantics.specs.Numbers.{character_wanted, word_wanted, identifier_wanted, text_ended, variable_found}
use Rattle.semantics.specs.Numbers.{reserved_found, unknown_name, wrong_kind, digits_wanted, too_large}
use Rattle.semantics.specs.Numbers.{nonterminal_wanted, more_wanted, declared_name}
use Rattle.semantics.specs.Uses.{Scope}
use Rattle.semantics.specs.Tokens.{identifier_end, reserved_at, variable_at, kind_at, is_some, when}

pub record Error : Type 0 where
  pub place : ℕ
  pub kind : ℕ
  pub argument : ℕ

abbrev pub error : ℕ → ℕ → ℕ → Error
error place kind argument = record { place = place; kind = kind; argument = argument }

-- "The furthest place wins, then least kind, then least argument"
abbrev pub wins : Error → Error → Bool
wins a b =
    ltb b.place a.place
    || (eqb a.place b.place
    && (ltb a.kind b.kind || (eqb a.kind b.kind && leb a.argument b.argument)))

unfoldable pub join : Error → Error → Error
join a b = cond (wins a b) a b

-- an error that counts only beyond a skipped place, where a call begins or a choice is made: "more than skipped text
-- lies between" exactly if the error's place is greater (`more_than_skipped` of ErrorLaws)
unfoldable pub beyond : ℕ → Error → Option Error
beyond place e = cond (ltb place e.place) (Some e) None

unfoldable pub join_with : Option Error → Option Error → Option Error
join_with None b = b
join_with (Some a) None = Some a
join_with (Some a) (Some b) = Some (join a b)

-- "When both sides of a choice fail, errors that consumed nothing since it drop; if none remain, 12 there", with "the
-- variant's nonterminal"
unfoldable pub choice_error : ℕ → ℕ → Error → Error → Error
choice_error at N a b = elim (beyond at (join a b)) [ Some e ↦ e | None ↦ error at more_wanted N ]

-- what `chosen` of the run gives of the failures of both sides: a side that yields a parse leaves no error
unfoldable pub chosen_failure : ℕ → ℕ → Option Error → Option Error → Option Error
chosen_failure at N None second = None
chosen_failure at N (Some a) None = None
chosen_failure at N (Some a) (Some b) = Some (choice_error at N a b)

-- what a step gives where it takes nothing
module _ (book : Book) (text : List ℕ) where
  -- an identifier was wanted: the text ended, it is reserved, or none is there; else another kind of error. Kind 2
  -- has no other
  unfoldable pub identifier_error : ℕ → Error → Error
  identifier_error at other =
      when (eqb at (length text)) (λ _. error at text_ended 0)
      (λ _. when (reserved_at book text at) (λ _. error at reserved_found 0)
      (λ _. elim (identifier_end text at) [ Some end ↦ other | None ↦ error at identifier_wanted 0 ]))

  -- a declared name was wanted: "a call of a committed variant .. (its error 11 has argument 32 ..)"; behind the word
  -- of its kind an identifier, as in kind 2, and that error counts, since more than skipped text lies between
  unfoldable pub declaration_error : ℕ → Error
  declaration_error at =
      elim (kind_at book text at) [
        | Some k ↦
            let after = skip_from text k.end in identifier_error after (error after identifier_wanted 0)
        | None ↦ error at nonterminal_wanted declared_name
      ]

  -- at a skipped place. Kinds 8 to 11, 13 and 14 always take something and are never asked for
  unfoldable pub step_error : Scope → Step → ℕ → Error
  step_error scope (Step.Character a) at = error at character_wanted a
  step_error scope (Step.Word a) at = error at word_wanted a
  step_error scope Step.Identifier at = identifier_error at (error at identifier_wanted 0)
  step_error scope Step.Number at =
      when (eqb at (length text)) (λ _. error at text_ended 0)
      (λ _. elim (number_at text at) [
        | Number.Nothing ↦ error at digits_wanted 0
        | Number.TooLarge ↦ error at too_large 0
        | Number.Value value end ↦ error at too_large 0
      ])
  step_error scope Step.Variable at = identifier_error at (error at unknown_name 0)
  -- a name of another kind, else as kind 4. Document 02 f: kinds 4 and 5 "now read the name, or give 8"
  step_error scope (Step.VariableOfKind a) at =
      when (is_some (variable_at book text scope at)) (λ _. error at wrong_kind a)
      (λ _. identifier_error at (error at unknown_name 0))
  step_error scope Step.RejectVariable at = error at variable_found 0
  step_error scope Step.RejectReserved at = error at reserved_found 0
  step_error scope (Step.Nonterminal a) at = error at nonterminal_wanted a
  step_error scope (Step.Optional a) at = error at nonterminal_wanted a
  step_error scope (Step.Many a) at = error at nonterminal_wanted a
  step_error scope (Step.CommaList a) at = error at nonterminal_wanted a
  step_error scope (Step.Delimited a b c) at = error at character_wanted b
  step_error scope (Step.OptionalDelimited a b c) at = error at nonterminal_wanted a
  step_error scope (Step.Binder a b c) at = error at nonterminal_wanted a
