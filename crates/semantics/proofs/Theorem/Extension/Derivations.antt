-- A book with one variant more derives all that it derived before. No rule of derivations has a premise that a further
-- variant breaks: a rule asks that there are variants, of their levels, steps and marks, of words and names, and of the
-- path, and none of these changes at a number that the shorter book has.
use Rattle.std.specs.Prelude.{◌≡◌, ℕ, ◌≤◌, ◌<◌, length}
use Rattle.std.proofs.Math.Path.{refl}
use Rattle.std.proofs.Common.{sym, ◌∙◌, arith}
use mathlib.Core.List.{List, [], ◌∷◌}
use Rattle.characters.specs.Skipping.{skip_from}
use Rattle.book.specs.Book.{Entry, Book, nth_nonterminal, nth_variant}
use Rattle.book.specs.declared.records.Step.{Step}
use Rattle.semantics.specs.Values.{Tree, Trees, Parse}
use Rattle.semantics.specs.Uses.{within, behind, Path, Scope, scope_of}
use Rattle.semantics.specs.Tokens.{reserved_at, free_end, variable_at, has_claimant, claimed, kind_at, name_of_kind}
use Rattle.semantics.specs.Tokens.{declaration_at}
use Rattle.semantics.specs.Steps.{step_at, Todo, steps_of}
use Rattle.semantics.specs.Derivations.{Attempt, variant_of, inside, Derives, by_variant, by_governor}
use Rattle.semantics.specs.Derivations.{by_identifier, Through, done, by_token, by_child, by_absent, by_one}
use Rattle.semantics.specs.Derivations.{by_list, by_unopened, by_stop, by_more, by_last, by_ending, by_names}
use Rattle.semantics.specs.Derivations.{by_body, by_no_name, by_name, by_last_name, by_opening}
use Rattle.semantics.proofs.Theorem.Results.{option_cases}

-- what the rules ask of a book, and what of it a longer one retains
pub record Retains (book longer : Book) : Type 0 where
  pub words : longer.words ≡ book.words
  pub names : longer.names ≡ book.names
  pub marks : (N : ℕ) → (nth_nonterminal longer N).mark ≡ (nth_nonterminal book N).mark
  pub firsts : (N : ℕ) → (nth_nonterminal longer N).first ≡ (nth_nonterminal book N).first
  pub counts : (N : ℕ) → (nth_nonterminal book N).count ≤ (nth_nonterminal longer N).count
  pub inside : (N i : ℕ) → i < (nth_nonterminal book N).count → variant_of book N i < length book.variants
  pub variants : (j : ℕ) → j < length book.variants → nth_variant longer j ≡ nth_variant book j
  pub steps : (j : ℕ) → steps_of longer (nth_variant book j) ≡ steps_of book (nth_variant book j)

module _ (book longer : Book) (text : List ℕ) (retains : Retains book longer) where
  -- ---- Tokens
  reserved_still : (at : ℕ) → reserved_at longer text at ≡ reserved_at book text at
  unfolding reserved_at
  reserved_still at = rw retains.words refl

  free_still : (at : ℕ) → free_end longer text at ≡ free_end book text at
  unfolding free_end
  free_still at = rw (reserved_still at) refl

  variable_still : (scope : Scope) (at : ℕ) → variable_at longer text scope at ≡ variable_at book text scope at
  unfolding variable_at
  variable_still scope at = rw retains.names refl

  claimant_still : (P : Path) (u : ℕ) → has_claimant longer text P u ≡ has_claimant book text P u
  unfolding has_claimant
  claimant_still [] u = refl
  claimant_still (behind names ∷ P) u = refl
  claimant_still (within f ∷ P) u = rw (retains.marks f.nonterminal, claimant_still P u) refl

  claimed_still : (P : Path) (u : ℕ) → claimed longer text P u ≡ claimed book text P u
  claimed_still P u = rw (variable_still (scope_of P) u, claimant_still P u) refl

  kind_still : (at : ℕ) → kind_at longer text at ≡ kind_at book text at
  unfolding kind_at
  kind_still at = rw retains.words refl

  name_still : (kind at : ℕ) → name_of_kind longer text kind at ≡ name_of_kind book text kind at
  unfolding name_of_kind
  name_still kind at = rw (free_still at, name_of_kind) refl

  declaration_still : (at : ℕ) → declaration_at longer text at ≡ declaration_at book text at
  unfolding declaration_at
  declaration_still at =
      option_cases (kind_at book text at)
      (λ e. rw (kind_still at ∙ e, e, declaration_at) refl)
      (λ k e. rw (kind_still at ∙ e, e, declaration_at) (name_still k.value (skip_from text k.end)))

  step_still : (scope : Scope) (s : Step) (x : ℕ) → step_at longer text scope s x ≡ step_at book text scope s x
  unfolding step_at
  step_still scope (Step.Character a) x = refl
  step_still scope (Step.Word a) x = rw retains.words refl
  step_still scope Step.Identifier x = rw (free_still (skip_from text x), step_at) refl
  step_still scope Step.Number x = refl
  step_still scope Step.Variable x = rw (variable_still scope (skip_from text x), step_at) refl
  step_still scope (Step.VariableOfKind a) x = rw (variable_still scope (skip_from text x), step_at) refl
  step_still scope Step.RejectVariable x = rw (variable_still scope (skip_from text x), step_at) refl
  step_still scope Step.RejectReserved x = rw (reserved_still (skip_from text x)) refl
  step_still scope (Step.Nonterminal M) x = refl
  step_still scope (Step.Optional M) x = refl
  step_still scope (Step.Many M) x = refl
  step_still scope (Step.CommaList M) x = refl
  step_still scope (Step.Delimited M b c) x = refl
  step_still scope (Step.OptionalDelimited M b c) x = refl
  step_still scope (Step.Binder M b c) x = refl

  -- ---- Derivations
  -- the variant of an attempt is the shorter book's
  abbrev Same : Attempt → Type 0
  Same a = nth_variant longer a.variant ≡ nth_variant book a.variant

  -- so the path of its children is the same
  child_still : (a : Attempt) {at M : ℕ} {q : Parse Tree} → Same a →
      Derives longer text (inside book a at) M at q → Derives longer text (inside longer a at) M at q
  child_still a same d = rw same d

  -- and so is that of a body behind an opening
  body_still : (a : Attempt) {names : List Entry} {at M : ℕ} {q : Parse Tree} → Same a →
      Derives longer text (behind names ∷ inside book a at) M at q →
      Derives longer text (behind names ∷ inside longer a at) M at q
  body_still a same d = rw same d

  variant_still : (N i : ℕ) → variant_of longer N i ≡ variant_of book N i
  variant_still N i = rw (retains.firsts N) refl

  mutual
    pub derives_still : {P : Path} {N u : ℕ} {p : Parse Tree} → Derives book text P N u p → Derives longer text P N u p
    derives_still (by_variant {N = N} {p = p} {i = i} e few high t) =
        let less = retains.counts N in
        let j = variant_still N i in
        let same : nth_variant longer (variant_of book N i) ≡ nth_variant book (variant_of book N i) =
        retains.variants (variant_of book N i) (retains.inside N i few) in
        by_variant {p = p} {i = i} e (omega arith) (rw (j, same) high)
        (rw (j, same, retains.steps (variant_of book N i)) (through_still same t))
    derives_still (by_governor e d c) = by_governor e (derives_still d) c
    derives_still (by_identifier {P = P} {N = N} {u = u} e mark free end v) =
        by_identifier e (rw (retains.marks N) mark) (claimed_still P u ∙ free) (free_still u ∙ end) v

    through_still : {a : Attempt} {todo : List (Todo Trees)} {x : ℕ} {items : Trees} → Same a →
        Through book text a todo x items → Through longer text a todo x items
    through_still same (done e) = done (rw (sym same) at e)
    through_still same (by_token e t) = by_token (step_still _ _ _ ∙ e) (through_still same t)
    through_still same (by_child {a = a} e d t) =
        by_child (step_still _ _ _ ∙ e) (child_still a same (derives_still d)) (through_still same t)
    through_still same (by_absent e t) = by_absent (step_still _ _ _ ∙ e) (through_still same t)
    through_still same (by_one {a = a} e d t) =
        by_one (step_still _ _ _ ∙ e) (child_still a same (derives_still d)) (through_still same t)
    through_still same (by_list e t) = by_list (step_still _ _ _ ∙ e) (through_still same t)
    through_still same (by_unopened e t) = by_unopened (step_still _ _ _ ∙ e) (through_still same t)
    through_still same (by_stop t) = by_stop (through_still same t)
    through_still same (by_more {a = a} d e t) = by_more (child_still a same (derives_still d)) e (through_still same t)
    through_still same (by_last {a = a} d e t) = by_last (child_still a same (derives_still d)) e (through_still same t)
    through_still same (by_ending e t) = by_ending e (through_still same t)
    through_still same (by_names e t) = by_names (step_still _ _ _ ∙ e) (through_still same t)
    through_still same (by_body {a = a} e d t) =
        by_body (step_still _ _ _ ∙ e) (child_still a same (derives_still d)) (through_still same t)
    through_still same (by_no_name t) = by_no_name (through_still same t)
    through_still same (by_name e goes t) = by_name (declaration_still _ ∙ e) goes (through_still same t)
    through_still same (by_last_name e halts t) = by_last_name (declaration_still _ ∙ e) halts (through_still same t)
    through_still same (by_opening {a = a} e d t) =
        by_opening e (body_still a same (derives_still d)) (through_still same t)
