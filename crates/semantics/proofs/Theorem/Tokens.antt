-- Where tokens end, and what they add: an identifier ends behind its place, inside the text; a name that is read is a
-- part of the text, and a number has 64 bits.
use Rattle.std.specs.Prelude.{◌≡◌, List, [], ◌∷◌, ℕ, suc, ◌+◌, ◌^◌, ◌≤◌, ◌<◌, eqb}
use Rattle.std.proofs.Math.Path.{refl, ap}
use Rattle.std.proofs.Common.{◌∙◌, subst, length-take}
use Rattle.std.specs.Prelude.{Option, None, Some}
use native.Mathlib.Omega.{arith}
use Rattle.std.proofs.Math.ListN.{length, take}
use Rattle.characters.specs.Cases.{by_test}
use Rattle.characters.specs.Skipping.{skip_from}
use Rattle.characters.specs.Spelling.{same}
use Rattle.characters.specs.Lexemes.{identifier_at, number_at}
use Rattle.characters.proofs.LexemeLaws.{identifier_bounds, number_bounds}
use Rattle.characters.specs.declared.lexemes.Number.{Number}
use Rattle.book.specs.Book.{Entry, Book, nth_entry, lookup_name, least_word, kind_word}
use Rattle.book.specs.Numbers.{kinds}
use Rattle.book.specs.declared.names.StartingName.{StartingName}
use Rattle.book.specs.declared.records.Step.{Step}
use Rattle.semantics.specs.Uses.{Scope}
use Rattle.semantics.specs.Tokens.{Item, Variable, Read, character_end, identifier_end, spelled, reserved_at}
use Rattle.semantics.specs.Tokens.{free_end, variable_in, variable_at, kind_at, name_of_kind, declaration_at}
use Rattle.semantics.specs.Steps.{Token, Taken, step_at}
use Rattle.semantics.proofs.Theorem.Results.{none_some, some_inj, option_cases}

-- ---- Identifiers
identifier_told : (text : List ℕ) (at end : ℕ) (i : Option ℕ) → identifier_at text at ≡ i →
    identifier_end text at ≡ Some end → (at < end) × (end ≤ length text)
unfolding identifier_end
identifier_told text at end (Some y) e q =
    identifier_bounds text at end (e ∙ ap Some (some_inj (rw (e, identifier_end) at q)))
identifier_told text at end None e q = absurd (none_some (rw (e, identifier_end) at q))

pub identifier_within : (text : List ℕ) (at end : ℕ) → identifier_end text at ≡ Some end →
    (at < end) × (end ≤ length text)
identifier_within text at end q = identifier_told text at end (identifier_at text at) refl q

pub free_end_within : (book : Book) (text : List ℕ) (at end : ℕ) → free_end book text at ≡ Some end →
    (at < end) × (end ≤ length text)
unfolding free_end
free_end_within book text at end q =
    by_test (reserved_at book text at)
    (λ t. absurd (none_some (rw (t, free_end) at q)))
    (λ t. identifier_within text at end (rw (t, free_end) at q))

-- ---- Declared names
nothing_kind : {kind : ℕ} → None ≡ Some kind → ⊥
nothing_kind e = let z : ◌≡◌ {A = ℕ} 0 1 = cc in omega arith

kind_inj : {i kind : ℕ} → Some i ≡ Some kind → i ≡ kind
kind_inj e = cc

-- the number of a word is one of those looked at
least_below : (i : ℕ) (words : List Entry) (spelling : List ℕ) (kind : ℕ) →
    least_word i words spelling ≡ Some kind → kind < i + length words
unfolding least_word
least_below i [] spelling kind e = absurd (nothing_kind e)
least_below i (w ∷ words) spelling kind e =
    by_test (same spelling w.spelling)
    (λ t. let is : i ≡ kind = kind_inj (rw (t, least_word) at e) in omega arith)
    (λ t. let k = least_below (suc i) words spelling kind (rw (t, least_word) at e) in omega arith)

module _ (book : Book) (text : List ℕ) where
  kind_below : (at : ℕ) (k : Read ℕ) → kind_at book text at ≡ Some k → k.value < kinds
  unfolding kind_at
  kind_below at k q =
      option_cases (identifier_end text at)
      (λ e. absurd (none_some (rw (e, kind_at) at q)))
      (λ end e. by end (kind_word book.words (spelled text at end)) refl (rw (e, kind_at) at q))
    where
      by : (end : ℕ) (w : Option ℕ) → kind_word book.words (spelled text at end) ≡ w →
          elim w [
            | Some kind ↦ Some (record { end = end; value = kind })
            | None ↦ None
          ] ≡ Some k → k.value < kinds
      by end (Some kind) there is =
          let words = take kinds book.words in
          let few : length words ≤ kinds = rw (length-take kinds book.words) (omega arith) in
          let same : kind ≡ k.value = ap (λ (z : Read ℕ). z.value) (some_inj is) in
          let below = least_below 0 words (spelled text at end) kind there in omega arith
      by end None there is = absurd (none_some is)

  -- the kind of a declared name is the number of one of the words for kinds
  pub declared_kind : (at : ℕ) (d : Read Entry) → declaration_at book text at ≡ Some d → d.value.label < kinds
  unfolding declaration_at name_of_kind
  declared_kind at d q =
      option_cases (kind_at book text at)
      (λ e. absurd (none_some (rw (e, declaration_at) at q)))
      (λ k e.
      let after = skip_from text k.end in
      option_cases (free_end book text after)
      (λ missing. absurd (none_some (rw (e, missing, declaration_at, name_of_kind) at q)))
      (λ end there.
      let is : k.value ≡ d.value.label =
      ap (λ (z : Read Entry). z.value.label) (some_inj (rw (e, there, declaration_at, name_of_kind) at q)) in
      let below = kind_below at k e in omega arith))

-- ---- What a step reads
abbrev pub ReadFits : List ℕ → Item → Type 0
ReadFits text (Item.name place size) = place + size ≤ length text
ReadFits text (Item.number n) = n < 2 ^ 64
ReadFits text (Item.variable i kind) = Unit {0}
ReadFits text (Item.declared depth index) = Unit {0}

abbrev pub AddsFit : List ℕ → Option Item → Type 0
AddsFit text None = Unit {0}
AddsFit text (Some item) = ReadFits text item

abbrev TakenFits : List ℕ → Taken → Type 0
TakenFits text (Taken.token t) = AddsFit text t.item
TakenFits text (Taken.child M) = Unit {0}
TakenFits text (Taken.optional M) = Unit {0}
TakenFits text (Taken.list comma M close y) = Unit {0}
TakenFits text (Taken.unopened y) = Unit {0}
TakenFits text (Taken.names close M y) = Unit {0}
TakenFits text (Taken.body M) = Unit {0}
TakenFits text Taken.nothing = Unit {0}

-- a variable fits: it is a starting name or a declared one
variable_in_fits : (text : List ℕ) (names : List Entry) (d : ℕ) (scope : Scope) (spelling : List ℕ) (v : Variable) →
    variable_in names d scope spelling ≡ Some v → ReadFits text v.item
unfolding variable_in
variable_in_fits text names d [] spelling v e = by (lookup_name names spelling) e
  where
    by : (f : Option StartingName) →
        elim f [
          | Some n ↦ Some (record { kind = n.kind; item = Item.variable n.number n.kind })
          | None ↦ None
        ] ≡ Some v → ReadFits text v.item
    by (Some n) e = subst (λ (w : Variable). ReadFits text w.item) (some_inj e) tt
    by None e = absurd (none_some e)
variable_in_fits text names d (binder ∷ scope) spelling v e =
    by (lookup_name binder spelling) e (λ outer. variable_in_fits text names (suc d) scope spelling v outer)
  where
    by : (f : Option StartingName) →
        elim f [
          | Some n ↦ Some (record { kind = n.kind; item = Item.declared d n.number })
          | None ↦ variable_in names (suc d) scope spelling
        ] ≡ Some v → (variable_in names (suc d) scope spelling ≡ Some v → ReadFits text v.item) →
        ReadFits text v.item
    by (Some n) e outer = subst (λ (w : Variable). ReadFits text w.item) (some_inj e) tt
    by None e outer = outer e

variable_fits : (book : Book) (text : List ℕ) (scope : Scope) (at : ℕ) (v : Read Variable) →
    variable_at book text scope at ≡ Some v → ReadFits text v.value.item
unfolding variable_at
variable_fits book text scope at v q =
    option_cases (identifier_end text at)
    (λ e. absurd (none_some (rw (e, variable_at) at q)))
    (λ end e.
    option_cases (variable_in book.names 0 scope (spelled text at end))
    (λ missing. absurd (none_some (rw (e, missing, variable_at) at q)))
    (λ w there.
    subst (λ (z : Read Variable). ReadFits text z.value.item) (some_inj (rw (e, there, variable_at) at q))
    (variable_in_fits text book.names 0 scope (spelled text at end) w there)))

module _ (book : Book) (text : List ℕ) (scope : Scope) (x : ℕ) where
  number_fits : (n : Number) → number_at text (skip_from text x) ≡ n →
      TakenFits text (step_at book text scope Step.Number x)
  unfolding step_at
  number_fits (Number.Value value end) e = rw (e, step_at) (number_bounds text (skip_from text x) value end e).2
  number_fits Number.TooLarge e = rw (e, step_at) tt
  number_fits Number.Nothing e = rw (e, step_at) tt

  step_fits : (step : Step) → TakenFits text (step_at book text scope step x)
  unfolding step_at
  step_fits (Step.Character a) =
      option_cases (character_end text a x) (λ e. rw (e, step_at) tt) (λ end e. rw (e, step_at) tt)
  step_fits (Step.Word a) =
      option_cases (identifier_end text (skip_from text x))
      (λ e. rw (e, step_at) tt)
      (λ end e. by_test (same (spelled text (skip_from text x) end) (nth_entry book.words a).spelling)
      (λ t. rw (e, t, step_at) tt)
      (λ t. rw (e, t, step_at) tt))
  step_fits Step.Identifier =
      option_cases (free_end book text (skip_from text x))
      (λ e. rw (e, step_at) tt)
      (λ end e. let w = free_end_within book text (skip_from text x) end e in rw (e, step_at) (omega (arith, w.0, w.1)))
  step_fits Step.Number = number_fits (number_at text (skip_from text x)) refl
  step_fits Step.Variable =
      option_cases (variable_at book text scope (skip_from text x)) (λ e. rw (e, step_at) tt)
      (λ v e. rw (e, step_at) (variable_fits book text scope (skip_from text x) v e))
  step_fits (Step.VariableOfKind a) =
      option_cases (variable_at book text scope (skip_from text x))
      (λ e. rw (e, step_at) tt)
      (λ v e. by_test (eqb v.value.kind a)
      (λ t. rw (e, t, step_at) (variable_fits book text scope (skip_from text x) v e))
      (λ t. rw (e, t, step_at) tt))
  step_fits Step.RejectVariable =
      option_cases (variable_at book text scope (skip_from text x)) (λ e. rw (e, step_at) tt)
      (λ v e. rw (e, step_at) tt)
  step_fits Step.RejectReserved =
      by_test (reserved_at book text (skip_from text x)) (λ t. rw (t, step_at) tt) (λ t. rw (t, step_at) tt)
  step_fits (Step.Nonterminal M) = tt
  step_fits (Step.Optional M) = tt
  step_fits (Step.Many M) = tt
  step_fits (Step.CommaList M) = tt
  step_fits (Step.Delimited M b c) =
      option_cases (character_end text b x) (λ e. rw (e, step_at) tt) (λ y e. rw (e, step_at) tt)
  step_fits (Step.OptionalDelimited M b c) =
      option_cases (character_end text b x) (λ e. rw (e, step_at) tt) (λ y e. rw (e, step_at) tt)
  step_fits (Step.Binder M b c) =
      option_cases (character_end text b x) (λ e. rw (e, step_at) tt) (λ y e. rw (e, step_at) tt)

  pub token_fits : (step : Step) (t : Token) → step_at book text scope step x ≡ Taken.token t → AddsFit text t.item
  token_fits step t e = subst (TakenFits text) e (step_fits step)
