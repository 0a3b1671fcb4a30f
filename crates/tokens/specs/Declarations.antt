-- What the code's declared names stand for among the definitions of `semantics`, and the laws of reading one.
--
--   kind_none, kind_there, kind_other          the word for a kind
--   declares_nothing, -unnamed, -name          a declared name, by what stands behind that word
--   place_within, name_place_within, name_within   where its spelling stands
use Rattle.std.specs.Prelude.{◌≡◌, List, ℕ, ◌≤◌}
use Rattle.std.proofs.Common.{sym}
use Rattle.std.proofs.Math.Path.{ap, subst}
use Rattle.std.specs.Prelude.{Option, None, Some, Result, Ok, Err}
use native.Mathlib.Omega.{arith}
use Rattle.std.proofs.Math.ListN.{length}
use Rattle.characters.specs.Skipping.{skip_from}
use Rattle.characters.proofs.SkippingLaws.{skip_within}
use Rattle.book.specs.Book.{Book, Entry, kind_word}
use Rattle.semantics.specs.Numbers.{identifier_wanted, nonterminal_wanted, declared_name}
use Rattle.semantics.specs.Tokens.{Read, identifier_end, spelled, free_end, kind_at, name_of_kind, declaration_at}
use Rattle.semantics.specs.Errors.{error, identifier_error, declaration_error}
use Rattle.semantics.proofs.Theorem.Results.{none_some, some_inj, option_cases}
use Rattle.semantics.proofs.Theorem.Tokens.{identifier_within, free_end_within}
use Rattle.run_model.specs.Model.{name_place}
use Rattle.errors.specs.Maps.{error_of}
use Rattle.errors.specs.declared.Error as code
use Rattle.tokens.specs.declared.declarations.KindAt.{KindAt}
use Rattle.tokens.specs.declared.declarations.Declaration.{Declaration}

abbrev pub kind_of : Option KindAt → Option (Read ℕ)
kind_of None = None
kind_of (Some k) = Some (record { end = k.end; value = k.kind })

-- a name of a kind, by the part of the text that spells it
abbrev pub name_read : List ℕ → ℕ → ℕ → ℕ → Read Entry
name_read text kind place end =
    record { end = end; value = record { label = kind; spelling = spelled text place end } }

abbrev pub Declares : Book → List ℕ → ℕ → Result Declaration code.Error → Type 0
Declares book text at (Err e) =
    (declaration_at book text at ≡ None) × (error_of e ≡ declaration_error book text at)
Declares book text at (Ok d) =
    (declaration_at book text at ≡ Some (name_read text d.kind d.place d.end)) × (name_place book text at ≡ d.place)

module _ (book : Book) (text : List ℕ) (at : ℕ) where
  -- ---- The word for a kind
  pub kind_none : identifier_end text at ≡ None → None ≡ kind_at book text at
  unfolding kind_at
  kind_none e = rw (e, kind_at)

  pub kind_there : (end kind : ℕ) → identifier_end text at ≡ Some end →
      Some kind ≡ kind_word book.words (spelled text at end) →
      Some (record { end = end; value = kind }) ≡ kind_at book text at
  unfolding kind_at
  kind_there end kind e w = rw (e, kind_at, ← w)

  pub kind_other : (end : ℕ) → identifier_end text at ≡ Some end →
      None ≡ kind_word book.words (spelled text at end) → None ≡ kind_at book text at
  unfolding kind_at
  kind_other end e w = rw (e, kind_at, ← w)

  -- ---- A declared name
  pub declares_nothing : (e : code.Error) → kind_at book text at ≡ None →
      error_of e ≡ error at nonterminal_wanted declared_name → Declares book text at (Err e)
  unfolding declaration_at declaration_error
  declares_nothing e missing is = (rw (missing, declaration_at), rw (missing, declaration_error) is)

  -- behind the word for a kind, at the skipped place
  module _ (end kind place : ℕ) (there : kind_at book text at ≡ Some (record { end = end; value = kind }))
      (skips : place ≡ skip_from text end) where
    pub declares_unnamed : (e : code.Error) → free_end book text place ≡ None →
        error_of e ≡ identifier_error book text place (error place identifier_wanted 0) →
        Declares book text at (Err e)
    unfolding declaration_at name_of_kind declaration_error
    declares_unnamed e f is =
        (rw (there, declaration_at, ← skips, f, name_of_kind), rw (there, declaration_error, ← skips) is)

    pub declares_name : (after : ℕ) → free_end book text place ≡ Some after →
        Declares book text at (Ok (record { kind = kind; place = place; end = after }))
    unfolding declaration_at name_of_kind name_place
    declares_name after f =
        let found : ℕ → Declaration = λ p. record { kind = kind; place = p; end = after } in
        subst (λ p. free_end book text p ≡ Some after → Declares book text at (Ok (found p)))
        (sym skips) (λ g. (rw (there, declaration_at, g, name_of_kind), rw (there, name_place))) f

  -- ---- Where its spelling stands
  kind_within : (k : Read ℕ) → kind_at book text at ≡ Some k → k.end ≤ length text
  unfolding kind_at
  kind_within k q =
      option_cases (identifier_end text at)
      (λ e. absurd (none_some (rw (e, kind_at) at q)))
      (λ end e.
      by end (identifier_within text at end e).1 (kind_word book.words (spelled text at end)) (rw (e, kind_at) at q))
    where
      by : (end : ℕ) → end ≤ length text → (w : Option ℕ) →
          elim w [
            | Some kind ↦ Some (record { end = end; value = kind })
            | None ↦ None
          ] ≡ Some k → k.end ≤ length text
      by end l (Some kind) p =
          let is : end ≡ k.end = ap (λ (r : Read ℕ). r.end) (some_inj p) in omega arith
      by end l None p = absurd (none_some p)

  pub place_within : (end kind place : ℕ) → kind_at book text at ≡ Some (record { end = end; value = kind }) →
      place ≡ skip_from text end → place ≤ length text
  place_within end kind place there skips = rw skips (skip_within text end (kind_within _ there))

  pub name_place_within : name_place book text at ≤ length text
  unfolding name_place
  name_place_within =
      option_cases (kind_at book text at)
      (λ e. rw (e, name_place) (omega arith))
      (λ k e. rw (e, name_place) (skip_within text k.end (kind_within k e)))

  pub name_within : (d : Read Entry) → declaration_at book text at ≡ Some d → d.end ≤ length text
  unfolding declaration_at name_of_kind
  name_within d q =
      option_cases (kind_at book text at)
      (λ e. absurd (none_some (rw (e, declaration_at) at q)))
      (λ k e.
      let after = skip_from text k.end in
      option_cases (free_end book text after)
      (λ missing. absurd (none_some (rw (e, missing, declaration_at, name_of_kind) at q)))
      (λ end there.
      let is : end ≡ d.end =
      ap (λ (z : Read Entry). z.end) (some_inj (rw (e, there, declaration_at, name_of_kind) at q)) in
      let inside = (free_end_within book text after end there).1 in omega arith))
