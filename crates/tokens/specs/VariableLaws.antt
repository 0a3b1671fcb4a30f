-- Laws of variables: how a step goes on with what was looked for, and the two places in which a name is looked for.
--
-- Contents:
-- - declared names, then starting names: variable_none, variable_declared, variable_starting
-- - steps: reads, of_kind, of_other_kind, rejects, passes
-- - errors: kind_found, kind_missing
use Rattle.std.specs.Prelude.{◌≡◌, Bool, true, false, ℕ, suc}
use Rattle.std.proofs.Math.Path.{refl, sym}
use Rattle.std.proofs.Common.{◌∙◌}
use mathlib.Core.List.{List, [], ◌∷◌}
use Rattle.std.specs.Prelude.{Option, None, Some}
use Rattle.characters.specs.Cases.{clash}
use Rattle.characters.specs.Skipping.{skip_from}
use Rattle.book.specs.Book.{Book, Entry, lookup_from, lookup_name}
use Rattle.book.specs.declared.names.StartingName.{StartingName}
use Rattle.book.specs.declared.records.Step.{Step}
use Rattle.semantics.specs.Uses.{Scope}
use Rattle.semantics.specs.Tokens.{Variable, Read, identifier_end, spelled, variable_in, variable_at, is_some}
use Rattle.semantics.specs.Steps.{nothing, read, step_at}
use Rattle.semantics.specs.Errors.{error, step_error}
use Rattle.semantics.specs.Numbers.{wrong_kind}
use Rattle.calls.specs.NamesLaws.{or_else}
use Rattle.tokens.specs.Maps.{starting_name, variable_taken, has_kind}

-- ---- Declared names, then starting names
names_behind : (names : List Entry) (d : ℕ) (scope : Scope) (spelling : List ℕ) →
    variable_in names d scope spelling ≡ or_else (variable_in [] d scope spelling) (variable_in names 0 [] spelling)
unfolding variable_in lookup_from or_else
names_behind names d [] spelling = refl
names_behind names d (binder ∷ scope) spelling =
    by (lookup_name binder spelling) refl (names_behind names (suc d) scope spelling)
  where
    by : (f : Option StartingName) → f ≡ lookup_name binder spelling →
        variable_in names (suc d) scope spelling
        ≡ or_else (variable_in [] (suc d) scope spelling) (variable_in names 0 [] spelling) →
        variable_in names d (binder ∷ scope) spelling
        ≡ or_else (variable_in [] d (binder ∷ scope) spelling) (variable_in names 0 [] spelling)
    by (Some n) e h = rw (← e, variable_in)
    by None e h = rw (← e, variable_in) h

module _ (book : Book) (text : List ℕ) (scope : Scope) (at : ℕ) where
  pub variable_none : identifier_end text at ≡ None → None ≡ variable_at book text scope at
  unfolding variable_at
  variable_none e = rw (e, variable_at)

  module _ (end : ℕ) (e : identifier_end text at ≡ Some end) where
    named : (v : Variable) → variable_in book.names 0 scope (spelled text at end) ≡ Some v →
        Some (record { end = end; value = v }) ≡ variable_at book text scope at
    unfolding variable_at
    named v f = rw (e, variable_at, f)

    unnamed : variable_in book.names 0 scope (spelled text at end) ≡ None → None ≡ variable_at book text scope at
    unfolding variable_at
    unnamed f = rw (e, variable_at, f)

    pub variable_declared : (v : Variable) → Some v ≡ variable_in [] 0 scope (spelled text at end) →
        Some (record { end = end; value = v }) ≡ variable_at book text scope at
    unfolding or_else
    variable_declared v f = named v (names_behind book.names 0 scope (spelled text at end) ∙ rw (← f))

    pub variable_starting : None ≡ variable_in [] 0 scope (spelled text at end) →
        starting_name book text at end ≡ variable_at book text scope at
    unfolding variable_in or_else
    variable_starting f =
        by (lookup_name book.names (spelled text at end)) refl
        (names_behind book.names 0 scope (spelled text at end) ∙ rw (← f))
      where
        by : (g : Option StartingName) → g ≡ lookup_name book.names (spelled text at end) →
            variable_in book.names 0 scope (spelled text at end)
            ≡ variable_in book.names 0 [] (spelled text at end) →
            starting_name book text at end ≡ variable_at book text scope at
        by (Some n) g h = rw (← g) (named _ (h ∙ rw (← g, variable_in)))
        by None g h = rw (← g) (unnamed (h ∙ rw (← g, variable_in)))

-- ---- Steps
module _ (book : Book) (text : List ℕ) (scope : Scope) (x : ℕ) where
  pub reads : (o : Option (Read Variable)) → o ≡ variable_at book text scope (skip_from text x) →
      variable_taken o ≡ step_at book text scope Step.Variable x
  unfolding step_at
  reads None e = rw (← e, step_at)
  reads (Some v) e = rw (← e, step_at)

  pub of_kind : (o : Option (Read Variable)) → o ≡ variable_at book text scope (skip_from text x) →
      (a : ℕ) (t : Bool) → t ≡ has_kind o a → t ≡ true →
      variable_taken o ≡ step_at book text scope (Step.VariableOfKind a) x
  unfolding step_at
  of_kind None e a t f h = rw (← e, step_at)
  of_kind (Some v) e a t f h = rw (← e, step_at, sym f ∙ h)

  pub of_other_kind : (o : Option (Read Variable)) → o ≡ variable_at book text scope (skip_from text x) →
      (a : ℕ) (t : Bool) → t ≡ has_kind o a → t ≡ false → nothing ≡ step_at book text scope (Step.VariableOfKind a) x
  unfolding step_at
  of_other_kind None e a t f h = rw (← e, step_at)
  of_other_kind (Some v) e a t f h = rw (← e, step_at, sym f ∙ h)

  pub rejects : (o : Option (Read Variable)) → o ≡ variable_at book text scope (skip_from text x) →
      (t : Bool) → t ≡ is_some o → t ≡ true → nothing ≡ step_at book text scope Step.RejectVariable x
  unfolding step_at is_some
  rejects None e t f h = clash (sym f ∙ h) refl
  rejects (Some v) e t f h = rw (← e, step_at)

  pub passes : (o : Option (Read Variable)) → o ≡ variable_at book text scope (skip_from text x) →
      (t : Bool) → t ≡ is_some o → t ≡ false → read x None ≡ step_at book text scope Step.RejectVariable x
  unfolding step_at is_some
  passes None e t f h = rw (← e, step_at)
  passes (Some v) e t f h = clash refl (sym f ∙ h)

-- ---- Errors
module _ (book : Book) (text : List ℕ) (scope : Scope) (kind at : ℕ) (o : Option (Read Variable))
    (e : o ≡ variable_at book text scope at) (t : Bool) (f : t ≡ is_some o) where
  pub kind_found : t ≡ true → error at wrong_kind kind ≡ step_error book text scope (Step.VariableOfKind kind) at
  unfolding step_error
  kind_found h = rw (← e, sym f ∙ h)

  pub kind_missing : t ≡ false →
      step_error book text scope Step.Variable at ≡ step_error book text scope (Step.VariableOfKind kind) at
  unfolding step_error
  kind_missing h = rw (← e, sym f ∙ h)
