-- What a step takes fits into 32 bits: places of a short text, and the numbers of a book that fit.
--
-- Contents:
-- - by_option
-- - places: skip_fits, free_end_fits
-- - characters: character_within, character_fits, closed_fits, after_fits, goes_fits, halts_fits
-- - names: name_fits
-- - variables: variable_fits
-- - what a step takes: taken_fits
-- - the same by what was taken: token_fits, list_fits, unopened_fits
use Rattle.std.proofs.Math.Path.{◌≡◌, refl}
use Rattle.std.specs.Prelude.{Bool, true, false, cond, ℕ, suc, ◌+◌, ◌≤◌, ◌<◌, ltb, eqb, length, get_or}
use mathlib.Core.List.{List, [], ◌∷◌}
use Rattle.std.specs.Prelude.{Option, None, Some}
use Rattle.std.proofs.Common.{arith, ltb-true, ltb-false}
use Rattle.characters.specs.Cases.{by_test}
use Rattle.characters.specs.Skipping.{skip_from}
use Rattle.characters.proofs.SkippingLaws.{skip_within, skip_out}
use Rattle.characters.specs.Lexemes.{number_at}
use Rattle.characters.proofs.LexemeLaws.{number_bounds}
use Rattle.characters.specs.declared.lexemes.Number.{Number}
use Rattle.characters.specs.Spelling.{same}
use Rattle.book.specs.Book.{Book, Entry, nth_entry, lookup_from, lookup_name, named}
use Rattle.book.specs.declared.names.StartingName.{StartingName}
use Rattle.book.specs.declared.records.Step.{Step}
use Rattle.semantics.specs.Uses.{Scope}
use Rattle.semantics.specs.Tokens as tokens
use Rattle.semantics.specs.Tokens.{Variable, Read, character_end, identifier_end, spelled, reserved_at, free_end}
use Rattle.semantics.specs.Tokens.{variable_in, variable_at}
use Rattle.semantics.proofs.Theorem.Tokens.{identifier_within, free_end_within}
use Rattle.semantics.specs.Steps as steps
use Rattle.semantics.specs.Steps.{After, goes, halts, after_element, closed, step_at}
use Rattle.tokens.specs.Maps.{item_of, taken_of}
use Rattle.tokens.specs.declared.steps.Item.{Item}
use Rattle.tokens.specs.declared.steps.Taken.{Taken}
use Rattle.transitions.specs.Fit.{Fits, Fit, ItemFits, TakenFits}

pub by_option : {A P : Type 0} (o : Option A) → ((a : A) → o ≡ Some a → P) → (o ≡ None → P) → P
by_option None f g = g refl
by_option (Some a) f g = f a refl

-- ---- Places
pub skip_fits : (text : List ℕ) (x : ℕ) → length text ≤ 4096 → x < 4294967296 → skip_from text x < 4294967296
skip_fits text x short h =
    by_test (ltb x (length text))
    (λ t. let inside = ltb-true x (length text) t in omega (arith, skip_within text x (omega arith)))
    (λ t. omega (arith, skip_out text x (ltb-false x (length text) t)))

pub free_end_fits : (book : Book) (text : List ℕ) (at end : ℕ) → length text ≤ 4096 →
    free_end book text at ≡ Some end → end < 4294967296
free_end_fits book text at end short q = omega (arith, free_end_within book text at end q)

-- ---- Characters
pub character_within : (text : List ℕ) (a x end : ℕ) → character_end text a x ≡ Some end → end ≤ length text
unfolding character_end
character_within text a x end q =
    by_test (ltb (skip_from text x) (length text))
    (λ t. by_test (eqb (get_or text (skip_from text x) 0) a)
    (λ u. let p : Some (skip_from text x + 1) ≡ Some end = rw (t, u, character_end) at q in
    let s : skip_from text x + 1 ≡ end = cc in
    omega (arith, ltb-true (skip_from text x) (length text) t))
    (λ u.
    let p : None ≡ Some end = rw (t, u, character_end) at q in let z : ◌≡◌ {A = ℕ} 0 1 = cc in absurd (omega arith)))
    (λ t. let p : None ≡ Some end = rw (t, character_end) at q in let z : ◌≡◌ {A = ℕ} 0 1 = cc in absurd (omega arith))

pub character_fits : (text : List ℕ) (a x end : ℕ) → length text ≤ 4096 → character_end text a x ≡ Some end → Fits end
character_fits text a x end short q = omega (arith, character_within text a x end q)

-- where a list is closed
pub closed_fits : (text : List ℕ) (close : Option ℕ) (x y : ℕ) → length text ≤ 4096 → Fits x →
    closed text close x ≡ Some y → Fits y
unfolding closed
closed_fits text None x y short h q = let s : x ≡ y = cc in omega arith
closed_fits text (Some c) x y short h q = character_fits text c x y short q

abbrev AfterFits : After → Type 0
AfterFits (goes y) = Fits y
AfterFits (halts y) = Fits y

-- where a list is after an element
pub after_fits : (text : List ℕ) (comma : Bool) (x : ℕ) → length text ≤ 4096 → Fits x →
    AfterFits (after_element text comma x)
unfolding after_element
after_fits text false x short h = h
after_fits text true x short h =
    by_option (character_end text 44 x)
    (λ y e. rw (e, after_element) (character_fits text 44 x y short e))
    (λ e. rw (e, after_element) (skip_fits text x short h))

pub goes_fits : (text : List ℕ) (comma : Bool) (x y : ℕ) → length text ≤ 4096 → Fits x →
    goes y ≡ after_element text comma x → Fits y
goes_fits text comma x y short h e = rw (← e) at (after_fits text comma x short h)

pub halts_fits : (text : List ℕ) (comma : Bool) (x y : ℕ) → length text ≤ 4096 → Fits x →
    halts y ≡ after_element text comma x → Fits y
halts_fits text comma x y short h e = rw (← e) at (after_fits text comma x short h)

-- ---- Names
found_fits : (t : Bool) (bound i label : ℕ) (found : Option StartingName) → i < bound → Fits label →
    ((n : StartingName) → found ≡ Some n → (n.number < bound) × Fits n.kind) →
    (n : StartingName) → cond t (Some (named i label)) found ≡ Some n → (n.number < bound) × Fits n.kind
found_fits true bound i label found l f h n e =
    let p : named i label ≡ n = cc in
    let both : (i < bound) × Fits label = (l, f) in
    rw (← p) both
found_fits false bound i label found l f h n e = h n e

lookup_fits : (bound i : ℕ) (found : Option StartingName) (names : List Entry) (spelling : List ℕ) →
    i + length names ≤ bound → ((m : ℕ) → Fits (nth_entry names m).label) →
    ((n : StartingName) → found ≡ Some n → (n.number < bound) × Fits n.kind) →
    (n : StartingName) → lookup_from found i names spelling ≡ Some n → (n.number < bound) × Fits n.kind
unfolding lookup_from
lookup_fits bound i found [] spelling room kinds h n e = h n e
lookup_fits bound i found (x ∷ names) spelling room kinds h n e =
    lookup_fits bound (suc i) (cond (same spelling x.spelling) (Some (named i x.label)) found) names spelling
    (omega arith) (λ m. kinds (suc m))
    (found_fits (same spelling x.spelling) bound i x.label found (omega arith) (kinds 0) h) n e

-- a name's number is below the number of names, and its kind fits as theirs do
pub name_fits : (names : List Entry) (spelling : List ℕ) → ((m : ℕ) → Fits (nth_entry names m).label) →
    (n : StartingName) → lookup_name names spelling ≡ Some n → (n.number < length names) × Fits n.kind
name_fits names spelling kinds n e =
    lookup_fits (length names) 0 None names spelling (omega arith) kinds
    (λ n e. let z : ◌≡◌ {A = ℕ} 0 1 = cc in absurd (omega arith)) n e

-- ---- Variables
abbrev ItemIn : Option tokens.Item → Type 0
ItemIn None = Unit {0}
ItemIn (Some (tokens.Item.name place size)) = Fits place × Fits size
ItemIn (Some (tokens.Item.number value)) = Unit {0}
ItemIn (Some (tokens.Item.variable number kind)) = Fits number × Fits kind
ItemIn (Some (tokens.Item.declared depth index)) = Unit {0}

module _ (book : Book) (text : List ℕ) (fit : Fit book text) where
  starting_fits : (spelling : List ℕ) (v : Variable) (f : Option StartingName) → lookup_name book.names spelling ≡ f →
      elim f [
        | Some n ↦ Some (record { kind = n.kind; item = tokens.Item.variable n.number n.kind })
        | None ↦ None
      ] ≡ Some v → ItemIn (Some v.item)
  starting_fits spelling v (Some n) q p =
      let s : record { kind = n.kind; item = tokens.Item.variable n.number n.kind } ≡ v = cc in
      let low = name_fits book.names spelling fit.kinds n q in
      let both : Fits n.number × Fits n.kind = (omega (arith, fit.names, low.0), low.1) in
      rw (← s) both
  starting_fits spelling v None q p = let z : ◌≡◌ {A = ℕ} 0 1 = cc in absurd (omega arith)

  -- a starting name fits; a declared one is two numbers of the code
  named_fits : (d : ℕ) (scope : Scope) (spelling : List ℕ) (v : Variable) →
      variable_in book.names d scope spelling ≡ Some v → ItemIn (Some v.item)
  unfolding variable_in
  named_fits d [] spelling v q = starting_fits spelling v (lookup_name book.names spelling) refl q
  named_fits d (binder ∷ scope) spelling v q =
      by (lookup_name binder spelling) refl (λ e. named_fits (suc d) scope spelling v e)
    where
      by : (f : Option StartingName) → f ≡ lookup_name binder spelling →
          (variable_in book.names (suc d) scope spelling ≡ Some v → ItemIn (Some v.item)) →
          ItemIn (Some v.item)
      by (Some n) e h =
          let p : Some (record { kind = n.kind; item = tokens.Item.declared d n.number }) ≡ Some v =
          rw (← e, variable_in) at q in
          let s : record { kind = n.kind; item = tokens.Item.declared d n.number } ≡ v = cc in
          rw (← s) tt
      by None e h = h (rw (← e, variable_in) at q)

  pub variable_fits : (scope : Scope) (at : ℕ) (v : Read Variable) → variable_at book text scope at ≡ Some v →
      Fits v.end × ItemIn (Some v.value.item)
  unfolding variable_at
  variable_fits scope at v q =
      by_option (identifier_end text at)
      (λ end e. by_option (variable_in book.names 0 scope (spelled text at end))
      (λ w f.
      let p : Some (record { end = end; value = w }) ≡ Some v = rw (e, variable_at, f) at q in
      let s : record { end = end; value = w } ≡ v = cc in
      let ends : Fits end = omega (arith, identifier_within text at end e, fit.short) in
      let both : Fits end × ItemIn (Some w.item) = (ends, named_fits 0 scope (spelled text at end) w f) in
      rw (← s) both)
      (λ f.
      let p : None ≡ Some v = rw (e, variable_at, f) at q in let z : ◌≡◌ {A = ℕ} 0 1 = cc in absurd (omega arith)))
      (λ e. let p : None ≡ Some v = rw (e, variable_at) at q in let z : ◌≡◌ {A = ℕ} 0 1 = cc in absurd (omega arith))

-- ---- What a step takes
abbrev TakenIn : steps.Taken → Type 0
TakenIn (steps.Taken.token t) = Fits t.next × ItemIn t.item
TakenIn (steps.Taken.child N) = Unit {0}
TakenIn (steps.Taken.optional N) = Unit {0}
TakenIn (steps.Taken.list comma N close place) = Fits place
TakenIn (steps.Taken.unopened place) = Fits place
TakenIn (steps.Taken.names close N place) = Fits place
TakenIn (steps.Taken.body N) = Unit {0}
TakenIn steps.Taken.nothing = Unit {0}

module _ (book : Book) (text : List ℕ) (scope : Scope) (fit : Fit book text) (x : ℕ) (h : Fits x) where
  at_fits : Fits (skip_from text x)
  at_fits = skip_fits text x fit.short h

  character_taken : (a : ℕ) → TakenIn (step_at book text scope (Step.Character a) x)
  unfolding step_at
  character_taken a =
      by_option (character_end text a x)
      (λ end e. rw (e, step_at) (character_fits text a x end fit.short e, tt)) (λ e. rw (e, step_at) tt)

  word_taken : (a : ℕ) → TakenIn (step_at book text scope (Step.Word a) x)
  unfolding step_at
  word_taken a =
      by_option (identifier_end text (skip_from text x))
      (λ end e. let short = fit.short in
      let fits : Fits end = omega (arith, identifier_within text (skip_from text x) end e) in
      by_test (same (spelled text (skip_from text x) end) (nth_entry book.words a).spelling)
      (λ t. rw (e, t, step_at) (fits, tt)) (λ t. rw (e, t, step_at) tt))
      (λ e. rw (e, step_at) tt)

  identifier_taken : TakenIn (step_at book text scope Step.Identifier x)
  unfolding step_at
  identifier_taken =
      by_option (free_end book text (skip_from text x))
      (λ end e.
      let fits = free_end_fits book text (skip_from text x) end fit.short e in
      rw (e, step_at) (fits, (at_fits, omega arith)))
      (λ e. rw (e, step_at) tt)

  number_told : (n : Number) → number_at text (skip_from text x) ≡ n → TakenIn (step_at book text scope Step.Number x)
  unfolding step_at
  number_told (Number.Value value end) e =
      let short = fit.short in
      let fits : Fits end = omega (arith, (number_bounds text (skip_from text x) value end e).1) in
      rw (e, step_at) (fits, tt)
  number_told Number.TooLarge e = rw (e, step_at) tt
  number_told Number.Nothing e = rw (e, step_at) tt

  variable_taken_lem : TakenIn (step_at book text scope Step.Variable x)
  unfolding step_at
  variable_taken_lem =
      by_option (variable_at book text scope (skip_from text x))
      (λ v e. let f = variable_fits book text fit scope (skip_from text x) v e in rw (e, step_at) f)
      (λ e. rw (e, step_at) tt)

  kind_taken : (a : ℕ) → TakenIn (step_at book text scope (Step.VariableOfKind a) x)
  unfolding step_at
  kind_taken a =
      by_option (variable_at book text scope (skip_from text x))
      (λ v e. let f = variable_fits book text fit scope (skip_from text x) v e in
      by_test (eqb v.value.kind a) (λ t. rw (e, t, step_at) f) (λ t. rw (e, t, step_at) tt))
      (λ e. rw (e, step_at) tt)

  reject_variable_taken : TakenIn (step_at book text scope Step.RejectVariable x)
  unfolding step_at
  reject_variable_taken =
      by_option (variable_at book text scope (skip_from text x)) (λ v e. rw (e, step_at) tt)
      (λ e. rw (e, step_at) (h, tt))

  reject_reserved_taken : TakenIn (step_at book text scope Step.RejectReserved x)
  unfolding step_at
  reject_reserved_taken =
      by_test (reserved_at book text (skip_from text x)) (λ e. rw (e, step_at) tt) (λ e. rw (e, step_at) (h, tt))

  delimited_taken : (M b c : ℕ) → TakenIn (step_at book text scope (Step.Delimited M b c) x)
  unfolding step_at
  delimited_taken M b c =
      by_option (character_end text b x)
      (λ end e. rw (e, step_at) (character_fits text b x end fit.short e)) (λ e. rw (e, step_at) tt)

  optional_taken : (M b c : ℕ) → TakenIn (step_at book text scope (Step.OptionalDelimited M b c) x)
  unfolding step_at
  optional_taken M b c =
      by_option (character_end text b x) (λ end e. rw (e, step_at) (character_fits text b x end fit.short e))
      (λ e. rw (e, step_at) at_fits)

  binder_taken : (M b c : ℕ) → TakenIn (step_at book text scope (Step.Binder M b c) x)
  unfolding step_at
  binder_taken M b c =
      by_option (character_end text b x) (λ end e. rw (e, step_at) (character_fits text b x end fit.short e))
      (λ e. rw (e, step_at) tt)

  step_taken : (step : Step) → TakenIn (step_at book text scope step x)
  unfolding step_at
  step_taken (Step.Character a) = character_taken a
  step_taken (Step.Word a) = word_taken a
  step_taken Step.Identifier = identifier_taken
  step_taken Step.Number = number_told (number_at text (skip_from text x)) refl
  step_taken Step.Variable = variable_taken_lem
  step_taken (Step.VariableOfKind a) = kind_taken a
  step_taken Step.RejectVariable = reject_variable_taken
  step_taken Step.RejectReserved = reject_reserved_taken
  step_taken (Step.Nonterminal M) = tt
  step_taken (Step.Optional M) = tt
  step_taken (Step.Many M) = h
  step_taken (Step.CommaList M) = h
  step_taken (Step.Delimited M b c) = delimited_taken M b c
  step_taken (Step.OptionalDelimited M b c) = optional_taken M b c
  step_taken (Step.Binder M b c) = binder_taken M b c

item_in : (i : Option Item) → ItemIn (item_of i) → ItemFits i
item_in None f = f
item_in (Some (Item.Name place size)) f = f
item_in (Some (Item.Number value)) f = f
item_in (Some (Item.Variable number kind)) f = f
item_in (Some (Item.Declared depth index)) f = f

taken_in : (t : Option Taken) → TakenIn (taken_of t) → TakenFits t
taken_in None f = f
taken_in (Some (Taken.Token next item)) f = (f.0, item_in item f.1)
taken_in (Some (Taken.Child N)) f = f
taken_in (Some (Taken.Optional N)) f = f
taken_in (Some (Taken.List comma true N closing place)) f = f
taken_in (Some (Taken.List comma false N closing place)) f = f
taken_in (Some (Taken.Unopened place)) f = f
taken_in (Some (Taken.Body N)) f = f

pub taken_fits : (book : Book) (text : List ℕ) (scope : Scope) → Fit book text → (x : ℕ) → Fits x → (step : Step) →
    (t : Option Taken) → taken_of t ≡ step_at book text scope step x → TakenFits t
taken_fits book text scope fit x h step t e = taken_in t (rw e (step_taken book text scope fit x h step))

-- ---- The same by what was taken
module _ (o : Option Taken) (f : TakenFits o) (t : Taken) (is : o ≡ Some t) where
  pub token_fits : (next : ℕ) (item : Option Item) → t ≡ Taken.Token next item → Fits next × ItemFits item
  token_fits next item e = rw (is, e) at f

  pub list_fits : (comma names : Bool) (N : ℕ) (closing : Option ℕ) (place : ℕ) →
      t ≡ Taken.List comma names N closing place → Fits place
  list_fits comma names N closing place e = rw (is, e) at f

  pub unopened_fits : (place : ℕ) → t ≡ Taken.Unopened place → Fits place
  unopened_fits place e = rw (is, e) at f
