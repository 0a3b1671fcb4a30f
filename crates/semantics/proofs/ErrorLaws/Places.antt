-- Places: what a step takes, and where a list goes on, never lies before its place, and a declared name ends behind its
-- own; an error stands where its step was wanted, and that of a declared name at a skipped place; a governor at its own
-- start and a use that claims a name begin where the child does, and the opening that a child stands behind is no use.
use Rattle.std.specs.Prelude.{◌≡◌, Bool, ◌&&◌, ℕ, ◌≤◌, ◌<◌, ltb, length, get_or}
use Rattle.std.proofs.Math.Path.{refl, ap}
use Rattle.std.proofs.Common.{sym, subst}
use Rattle.std.proofs.Math.Bool.{true, false, and-eq-true_iff}
use Rattle.std.proofs.lemmas.Bool.{false≢true}
use mathlib.Core.List.Memᴰ
use mathlib.Core.List.{List, [], ◌∷◌}
use Rattle.std.specs.Prelude.{Option, None, Some}
use native.Mathlib.Omega.{arith}
use Rattle.std.proofs.Math.Dec.{eqb}
use borrow.Author.Tests.{eqb-true}
use Rattle.characters.specs.Cases.{by_test}
use Rattle.characters.specs.Skipping.{skip_from}
use Rattle.characters.proofs.SkippingLaws.{skip_forward, skip_twice}
use Rattle.characters.specs.Spelling.{same}
use Rattle.characters.specs.Lexemes.{number_at}
use Rattle.characters.proofs.LexemeLaws.{number_bounds}
use Rattle.characters.specs.declared.lexemes.Number.{Number}
use Rattle.book.specs.Book.{Entry, Book, nth_entry, kind_word}
use Rattle.book.specs.declared.records.Step.{Step}
use Rattle.semantics.specs.Numbers.{identifier_wanted}
use Rattle.semantics.specs.Uses.{Use, Enclosing, within, behind, Path, behind_any, has_mark, Governor, minimum}
use Rattle.semantics.specs.Uses.{same_start, Scope, outwards, govern, governor}
use Rattle.semantics.specs.Tokens.{Variable, Read, is_some, character_end, identifier_end, spelled, reserved_at}
use Rattle.semantics.specs.Tokens.{free_end, variable_in, variable_at, has_claimant, kind_at, name_of_kind}
use Rattle.semantics.specs.Tokens.{declaration_at}
use Rattle.semantics.specs.Steps.{Taken, step_at, After, goes, halts, after_element, closed}
use Rattle.semantics.specs.Errors.{Error, error, identifier_error, declaration_error, step_error}
use Rattle.semantics.proofs.Theorem.Lists.{◌∈◌}
use Rattle.semantics.proofs.Theorem.Results.{some_inj, none_some, option_cases}
use Rattle.semantics.proofs.Theorem.Sound.{At, here, there, past}
use Rattle.semantics.proofs.Theorem.Tokens.{identifier_within, free_end_within}

-- ---- Uses around a call
pub at_in : {P : Path} {i : ℕ} {f : Use} {Q : Path} → At P i f Q → within f ∈ P
at_in here = Memᴰ.head refl
at_in (there a) = Memᴰ.tail (at_in a)
at_in (past a) = Memᴰ.tail (at_in a)

-- uses that are equal as parts of a path begin at one place
pub same_begin : {f g : Use} → within f ≡ within g → f.start ≡ g.start
same_begin e = ap start_of e
  where
    start_of : Enclosing → ℕ
    start_of (within f) = f.start
    start_of (behind names) = 0

-- an opening is no use
use_no_opening : {f : Use} {names : List Entry} → within f ≡ behind names → ⊥
use_no_opening e = false≢true (sym (ap is_use e))
  where
    is_use : Enclosing → Bool
    is_use (within f) = true
    is_use (behind names) = false

-- so the uses around a body are those around its opening
pub behind_any_in : (opening : Option (List Entry)) {P : Path} {f : Use} → within f ∈ behind_any opening P → within f ∈
    P
behind_any_in None m = m
behind_any_in (Some names) (Memᴰ.head e) = absurd (use_no_opening e)
behind_any_in (Some names) (Memᴰ.tail m) = m

pub behind_any_at : (opening : Option (List Entry)) {P Q : Path} {i : ℕ} {f : Use} → At (behind_any opening P) i f Q →
    At P i f Q
behind_any_at None a = a
behind_any_at (Some names) (past a) = a

-- a governor at its own start begins where the child does
abbrev Begins : ℕ → Governor → Type 0
Begins u (minimum m) = Unit {0}
Begins u (same_start i f Q) = f.start ≡ u

outwards_begins : (u : ℕ) (g : Governor) → Begins u g → Begins u (outwards g)
unfolding outwards
outwards_begins u (minimum m) h = tt
outwards_begins u (same_start i f Q) h = h

govern_begins : (u : ℕ) (a b : Bool) (f : Use) (P : Path) (g : Governor) → (b ≡ true → f.start ≡ u) → Begins u g →
    Begins u (govern a b f P g)
unfolding govern
govern_begins u true true f P g k h = k refl
govern_begins u true false f P g k h = tt
govern_begins u false b f P g k h = outwards_begins u g h

governor_begins : (P : Path) (N u : ℕ) → Begins u (governor P N u)
unfolding governor
governor_begins [] N u = tt
governor_begins (behind names ∷ P) N u = tt
governor_begins (within f ∷ P) N u =
    govern_begins u _ (eqb f.start u) f P _ (λ t. eqb-true f.start u t) (governor_begins P N u)

pub gov_start : (P : Path) (N u : ℕ) {i : ℕ} {f : Use} {Q : Path} →
    governor P N u ≡ same_start i f Q → f.start ≡ u
gov_start P N u e = subst (Begins u) e (governor_begins P N u)

-- a use that claims a name begins where the name does
pub record Claimant (P : Path) (u : ℕ) : Type 0 where
  pub by : Use
  pub member : within by ∈ P
  pub start : by.start ≡ u

-- ---- Places go forward
module _ (text : List ℕ) where
  pub character_forward : (a x end : ℕ) → character_end text a x ≡ Some end → x ≤ end
  unfolding character_end
  character_forward a x end q =
      let h = skip_forward text x in
      by_test (ltb (skip_from text x) (length text) && eqb (get_or text (skip_from text x) 0) a)
      (λ t. let is = some_inj (rw (t, character_end) at q) in omega arith)
      (λ t. absurd (none_some (rw (t, character_end) at q)))

  pub closed_forward : (close : Option ℕ) (x y : ℕ) → closed text close x ≡ Some y → x ≤ y
  unfolding closed
  closed_forward None x y q = let is = some_inj q in omega arith
  closed_forward (Some c) x y q = character_forward c x y q

  abbrev pub Onward : ℕ → After → Type 0
  Onward x (goes y) = x ≤ y
  Onward x (halts y) = x ≤ y

  pub after_onward : (comma : Bool) (x : ℕ) → Onward x (after_element text comma x)
  unfolding after_element
  after_onward false x = omega arith
  after_onward true x =
      option_cases (character_end text 44 x)
      (λ e. rw (e, after_element) (skip_forward text x))
      (λ end e. rw (e, after_element) (character_forward 44 x end e))

module _ (book : Book) (text : List ℕ) where
  -- a variable ends behind its place, if its identifier does
  read_forward : {at end : ℕ} (f : Option Variable) (v : Read Variable) → at < end →
      elim f [ Some w ↦ Some (record { end = end; value = w }) | None ↦ None ] ≡ Some v → at < v.end
  read_forward {end = end} (Some w) v l p =
      let is : end ≡ v.end = ap (λ (r : Read Variable). r.end) (some_inj p) in omega arith
  read_forward None v l p = absurd (none_some p)

  variable_forward : (scope : Scope) (at : ℕ) (v : Read Variable) → variable_at book text scope at ≡ Some v → at < v.end
  unfolding variable_at
  variable_forward scope at v q =
      option_cases (identifier_end text at)
      (λ e. absurd (none_some (rw (e, variable_at) at q)))
      (λ end e.
      read_forward (variable_in book.names 0 scope (spelled text at end)) v (identifier_within text at end e).0
      (rw (e, variable_at) at q))

  kind_forward : (at : ℕ) (k : Read ℕ) → kind_at book text at ≡ Some k → at < k.end
  unfolding kind_at
  kind_forward at k q =
      option_cases (identifier_end text at)
      (λ e. absurd (none_some (rw (e, kind_at) at q)))
      (λ end e.
      by end (identifier_within text at end e).0 (kind_word book.words (spelled text at end))
      (rw (e, kind_at) at q))
    where
      by : (end : ℕ) → at < end → (w : Option ℕ) →
          elim w [
            | Some kind ↦ Some (record { end = end; value = kind })
            | None ↦ None
          ] ≡ Some k → at < k.end
      by end l (Some kind) p =
          let is : end ≡ k.end = ap (λ (r : Read ℕ). r.end) (some_inj p) in omega arith
      by end l None p = absurd (none_some p)

  name_forward : (kind at : ℕ) (d : Read Entry) → name_of_kind book text kind at ≡ Some d → at < d.end
  unfolding name_of_kind
  name_forward kind at d q =
      option_cases (free_end book text at)
      (λ e. absurd (none_some (rw (e, name_of_kind) at q)))
      (λ end e.
      let less = (free_end_within book text at end e).0 in
      let is : end ≡ d.end = ap (λ (w : Read Entry). w.end) (some_inj (rw (e, name_of_kind) at q)) in
      omega arith)

  -- a declared name ends behind its place
  pub declaration_forward : (at : ℕ) (d : Read Entry) → declaration_at book text at ≡ Some d → at < d.end
  unfolding declaration_at
  declaration_forward at d q =
      option_cases (kind_at book text at)
      (λ e. absurd (none_some (rw (e, declaration_at) at q)))
      (λ k e.
      let kind = kind_forward at k e in
      let on = skip_forward text k.end in
      let name = name_forward k.value (skip_from text k.end) d (rw (e, declaration_at) at q) in
      omega arith)

  -- what a step takes, it takes at its place or further on
  abbrev pub TakenOn : ℕ → Taken → Type 0
  TakenOn x (Taken.token t) = x ≤ t.next
  TakenOn x (Taken.child M) = Unit {0}
  TakenOn x (Taken.optional M) = Unit {0}
  TakenOn x (Taken.list comma M close y) = x ≤ y
  TakenOn x (Taken.unopened y) = x ≤ y
  TakenOn x (Taken.names close M y) = x ≤ y
  TakenOn x (Taken.body M) = Unit {0}
  TakenOn x Taken.nothing = Unit {0}

  module _ (scope : Scope) (x : ℕ) where
    skip_on : x ≤ skip_from text x
    skip_on = skip_forward text x

    number_on : (n : Number) → number_at text (skip_from text x) ≡ n → TakenOn x (step_at book text scope Step.Number x)
    unfolding step_at
    number_on (Number.Value value end) e =
        rw (e, step_at) (omega (arith, skip_on, (number_bounds text (skip_from text x) value end e).0))
    number_on Number.TooLarge e = rw (e, step_at) tt
    number_on Number.Nothing e = rw (e, step_at) tt

    step_on : (step : Step) → TakenOn x (step_at book text scope step x)
    unfolding step_at
    step_on (Step.Character a) =
        option_cases (character_end text a x) (λ e. rw (e, step_at) tt)
        (λ end e. rw (e, step_at) (character_forward text a x end e))
    step_on (Step.Word a) =
        option_cases (identifier_end text (skip_from text x))
        (λ e. rw (e, step_at) tt)
        (λ end e. let w = identifier_within text (skip_from text x) end e in
        by_test (same (spelled text (skip_from text x) end) (nth_entry book.words a).spelling)
        (λ t. rw (e, t, step_at) (omega (arith, skip_on, w.0)))
        (λ t. rw (e, t, step_at) tt))
    step_on Step.Identifier =
        option_cases (free_end book text (skip_from text x))
        (λ e. rw (e, step_at) tt)
        (λ end e. rw (e, step_at) (omega (arith, skip_on, (free_end_within book text (skip_from text x) end e).0)))
    step_on Step.Number = number_on (number_at text (skip_from text x)) refl
    step_on Step.Variable =
        option_cases (variable_at book text scope (skip_from text x))
        (λ e. rw (e, step_at) tt)
        (λ v e. rw (e, step_at) (omega (arith, skip_on, variable_forward scope (skip_from text x) v e)))
    step_on (Step.VariableOfKind a) =
        option_cases (variable_at book text scope (skip_from text x))
        (λ e. rw (e, step_at) tt)
        (λ v e. by_test (eqb v.value.kind a)
        (λ t. rw (e, t, step_at) (omega (arith, skip_on, variable_forward scope (skip_from text x) v e)))
        (λ t. rw (e, t, step_at) tt))
    step_on Step.RejectVariable =
        option_cases (variable_at book text scope (skip_from text x)) (λ e. rw (e, step_at) (omega arith))
        (λ v e. rw (e, step_at) tt)
    step_on Step.RejectReserved =
        by_test (reserved_at book text (skip_from text x)) (λ t. rw (t, step_at) tt)
        (λ t. rw (t, step_at) (omega arith))
    step_on (Step.Nonterminal M) = tt
    step_on (Step.Optional M) = tt
    step_on (Step.Many M) = omega arith
    step_on (Step.CommaList M) = omega arith
    step_on (Step.Delimited M b c) =
        option_cases (character_end text b x) (λ e. rw (e, step_at) tt)
        (λ y e. rw (e, step_at) (character_forward text b x y e))
    step_on (Step.OptionalDelimited M b c) =
        option_cases (character_end text b x) (λ e. rw (e, step_at) skip_on)
        (λ y e. rw (e, step_at) (character_forward text b x y e))
    step_on (Step.Binder M b c) =
        option_cases (character_end text b x) (λ e. rw (e, step_at) tt)
        (λ y e. rw (e, step_at) (character_forward text b x y e))

    pub step_forward : (step : Step) {k : Taken} → step_at book text scope step x ≡ k → TakenOn x k
    step_forward step e = subst (TakenOn x) e (step_on step)

  -- the error of a step stands where it was wanted
  identifier_error_place : (at : ℕ) (other : Error) → other.place ≡ at → (identifier_error book text at other).place ≡
      at
  unfolding identifier_error
  identifier_error_place at other h =
      by_test (eqb at (length text))
      (λ t. rw (t, identifier_error))
      (λ t. by_test (reserved_at book text at)
      (λ u. rw (t, u, identifier_error))
      (λ u. option_cases (identifier_end text at) (λ e. rw (t, u, e, identifier_error)) (λ end e.
      rw (t, u, e, identifier_error) h)))

  -- that of a declared name stands at its place, or where its identifier was wanted: at a skipped place
  pub declaration_error_skipped : (at : ℕ) → skip_from text at ≡ at →
      skip_from text (declaration_error book text at).place ≡ (declaration_error book text at).place
  unfolding declaration_error
  declaration_error_skipped at h =
      option_cases (kind_at book text at)
      (λ e. rw (e, declaration_error) h)
      (λ k e.
      let after = skip_from text k.end in
      let there = identifier_error_place after (error after identifier_wanted 0) refl in
      rw (e, declaration_error) (rw there (skip_twice text k.end)))

  number_error_place : (scope : Scope) (at : ℕ) (n : Number) → number_at text at ≡ n →
      (step_error book text scope Step.Number at).place ≡ at
  unfolding step_error
  number_error_place scope at n e = by_test (eqb at (length text)) (λ t. rw (t, step_error)) (λ t. by n e t)
    where
      by : (n : Number) → number_at text at ≡ n → eqb at (length text) ≡ false →
          (step_error book text scope Step.Number at).place ≡ at
      by Number.Nothing e t = rw (t, e, step_error)
      by Number.TooLarge e t = rw (t, e, step_error)
      by (Number.Value value end) e t = rw (t, e, step_error)

  pub step_error_place : (scope : Scope) (step : Step) (at : ℕ) → (step_error book text scope step at).place ≡ at
  unfolding step_error
  step_error_place scope (Step.Character a) at = refl
  step_error_place scope (Step.Word a) at = refl
  step_error_place scope Step.Identifier at = identifier_error_place at _ refl
  step_error_place scope Step.Number at = number_error_place scope at (number_at text at) refl
  step_error_place scope Step.Variable at = identifier_error_place at _ refl
  step_error_place scope (Step.VariableOfKind a) at =
      by_test (is_some (variable_at book text scope at)) (λ t. rw t) (λ t. rw t (identifier_error_place at _ refl))
  step_error_place scope Step.RejectVariable at = refl
  step_error_place scope Step.RejectReserved at = refl
  step_error_place scope (Step.Nonterminal M) at = refl
  step_error_place scope (Step.Optional M) at = refl
  step_error_place scope (Step.Many M) at = refl
  step_error_place scope (Step.CommaList M) at = refl
  step_error_place scope (Step.Delimited M b c) at = refl
  step_error_place scope (Step.OptionalDelimited M b c) at = refl
  step_error_place scope (Step.Binder M b c) at = refl

  -- a name is claimed by a use that begins there
  pub claimant : (P : Path) (u : ℕ) → has_claimant book text P u ≡ true → Claimant P u
  unfolding has_claimant
  claimant [] u e = absurd (false≢true e)
  claimant (behind names ∷ P) u e = absurd (false≢true e)
  claimant (within f ∷ P) u e =
      by_test (has_mark book 1 f.nonterminal && eqb f.start u)
      (λ t.
      let k = ((and-eq-true_iff (has_mark book 1 f.nonterminal) (eqb f.start u)).0 t).1 in
      record { by = f; member = Memᴰ.head refl; start = eqb-true f.start u k })
      (λ t.
      let c = claimant P u (rw t at e) in
      record { by = c.by; member = Memᴰ.tail c.member; start = c.start })
