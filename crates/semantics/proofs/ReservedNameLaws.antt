-- Laws of starting names that are reserved, document 02 f.
--
--   unmoved_at    at a place where no such name stands, a variable and the error of kind 5 are what they were
--   unmoved       so they are at every place, by every book that has no such name
--   variable_before_lem, error_before   where a reserved word stands there was no variable, and kind 5 gave 6
--   claim_unseen  where a reserved word stands, a mark-2 use reads nothing, claimed or not
use Rattle.std.specs.Prelude.{◌≡◌, true, false, ℕ, suc, ◌<◌, eqb, length}
use Rattle.std.proofs.Math.Path.{refl, sym}
use Rattle.std.proofs.Common.{ap, ◌∙◌, arith, ne_eqb}
use mathlib.Core.List.{List, [], ◌∷◌}
use Rattle.std.specs.Prelude.{None, Some}
use Rattle.characters.specs.Cases.{by_test, clash}
use Rattle.characters.specs.Spelling.{same}
use Rattle.characters.proofs.SpellingLaws.{same_equal}
use Rattle.book.specs.Book.{Book, Entry, nth_entry, is_reserved, lookup_from}
use Rattle.book.specs.declared.names.StartingName.{StartingName}
use Rattle.book.specs.declared.records.Step.{Step}
use Rattle.semantics.specs.Numbers.{reserved_found, wrong_kind}
use Rattle.semantics.specs.Tokens.{Variable, Read, is_some, identifier_end, spelled, reserved_at, free_end}
use Rattle.semantics.specs.Tokens.{variable_in, variable_at, claimed}
use Rattle.semantics.specs.Errors.{Error, error, identifier_error, step_error}
use Rattle.semantics.specs.Run.{ok, State, parsed, Call, failed_call, named, run_identifier}
use Rattle.semantics.specs.ReservedNames.{variable_before, kind_error_before, NoReservedNameAt, NoReservedName}
use Rattle.semantics.specs.ReservedNames.{UnmovedAt, Unmoved}
use Rattle.semantics.proofs.Theorem.Results.{option_cases, none_some}
use Rattle.semantics.proofs.Theorem.Tokens.{identifier_within}

module _ (book : Book) (text : List ℕ) where
  free_reserved : (at : ℕ) → reserved_at book text at ≡ true → free_end book text at ≡ None
  unfolding free_end
  free_reserved at reserved = rw reserved

  free_unreserved : (at : ℕ) → reserved_at book text at ≡ false → free_end book text at ≡ identifier_end text at
  unfolding free_end
  free_unreserved at unreserved = rw unreserved refl

  -- where an identifier stands, the text hasn't ended
  not_ended : (at end : ℕ) → identifier_end text at ≡ Some end → eqb at (length text) ≡ false
  not_ended at end e =
      let within = identifier_within text at end e in
      ne_eqb at (length text) (λ is. omega (arith, within.0, within.1))

  -- where one that isn't reserved stands, none is missing
  identifier_there : (at end : ℕ) (other : Error) → identifier_end text at ≡ Some end →
      reserved_at book text at ≡ false → identifier_error book text at other ≡ other
  unfolding identifier_error
  identifier_there at end other e unreserved = rw (not_ended at end e, unreserved, e, identifier_error) refl

  pub variable_before_lem : (at : ℕ) → reserved_at book text at ≡ true → variable_before book text at ≡ None
  unfolding variable_before
  variable_before_lem at reserved = rw (free_reserved at reserved, variable_before) refl

  pub error_before : (a at : ℕ) → reserved_at book text at ≡ true →
      kind_error_before book text a at ≡ error at reserved_found 0
  unfolding kind_error_before identifier_error reserved_at
  error_before a at reserved =
      option_cases (identifier_end text at)
      (λ missing. clash reserved (rw (missing, reserved_at) refl))
      (λ end e. rw (not_ended at end e, reserved, identifier_error) refl)

  pub claim_unseen : (c : Call) (s : State) → reserved_at book text c.start ≡ true →
      run_identifier book text c s ≡ ok (parsed [] (Some (failed_call c None)) s)
  unfolding run_identifier free_end named
  claim_unseen c s reserved =
      by_test (claimed book text c.path c.start) (λ is. rw (is, named)) (λ is. rw (is, reserved, named))

  -- ---- At a place
  module _ (at : ℕ) (no_name : NoReservedNameAt book text at) where
    variable_as_before : variable_at book text [] at ≡ variable_before book text at
    unfolding variable_at variable_before
    variable_as_before =
        by_test (reserved_at book text at)
        (λ t. no_name t ∙ sym (variable_before_lem at t))
        (λ t. rw (free_unreserved at t, variable_before) refl)

    variable_unreserved : (v : Read Variable) → variable_at book text [] at ≡ Some v → reserved_at book text at ≡ false
    variable_unreserved v there =
        by_test (reserved_at book text at) (λ t. absurd (none_some (sym (no_name t) ∙ there))) (λ t. t)

    errors_as_before : (a : ℕ) → step_error book text [] (Step.VariableOfKind a) at ≡ kind_error_before book text a at
    unfolding step_error kind_error_before is_some variable_at
    errors_as_before a =
        option_cases (variable_at book text [] at)
        (λ e. rw (sym variable_as_before ∙ e, e) refl)
        (λ v e.
        option_cases (identifier_end text at)
        (λ missing. absurd (none_some (rw (missing, variable_at) at e)))
        (λ end there. rw (sym variable_as_before ∙ e, e)
        (sym (identifier_there at end (error at wrong_kind a) there (variable_unreserved v e)))))

pub unmoved_at : UnmovedAt
unmoved_at book text at no_name =
    record { variable = variable_as_before book text at no_name; errors = errors_as_before book text at no_name }

-- ---- Of a book
-- a reserved spelling is no name, if none is
lookup_nothing : (words names : List Entry) (i : ℕ) (spelling : List ℕ) → is_reserved words spelling ≡ true →
    ((m : ℕ) → m < length names → is_reserved words (nth_entry names m).spelling ≡ false) →
    lookup_from None i names spelling ≡ None
unfolding lookup_from
lookup_nothing words [] i spelling reserved none_reserved = refl
lookup_nothing words (n ∷ names) i spelling reserved none_reserved =
    by_test (same spelling n.spelling)
    (λ t.
    let is : spelling ≡ n.spelling = same_equal spelling n.spelling t in
    clash reserved (ap (is_reserved words) is ∙ none_reserved 0 (omega arith)))
    (λ t. rw t (lookup_nothing words names (suc i) spelling reserved (λ m l. none_reserved (suc m) (omega arith))))

no_name_at : (book : Book) → NoReservedName book → (text : List ℕ) (at : ℕ) → NoReservedNameAt book text at
unfolding variable_in variable_at reserved_at
no_name_at book none_reserved text at reserved_there =
    option_cases (identifier_end text at)
    (λ e. rw (e, variable_at))
    (λ end e.
    let reserved : is_reserved book.words (spelled text at end) ≡ true = rw (e, reserved_at) at reserved_there in
    let no_name = lookup_nothing book.words book.names 0 (spelled text at end) reserved none_reserved in
    rw (e, variable_at, variable_in, no_name) refl)

pub unmoved : Unmoved
unmoved book none_reserved text at = unmoved_at book text at (no_name_at book none_reserved text at)
