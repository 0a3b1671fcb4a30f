-- An accepted book by its bytes: what each record is, where each section begins, and what was read there. What the
-- theorems and the crates above need of an accepted book comes from here (`book_sections`), by one walk through its
-- check.
use Rattle.std.specs.Prelude.{◌≡◌, refl, Bool, true, List, [], ◌∷◌, map, ℕ, ◌+◌, ◌≤◌, ◌<◌, eqb, length, get_or}
use Rattle.std.proofs.Math.Path.{sym, ap}
use Rattle.std.proofs.Common.{subst, ◌∙◌, arith}
use Rattle.characters.specs.Cases.{by_test}
use Rattle.characters.specs.Classes.{between}
use Rattle.book.specs.Book.{Book, no_variant, nth_variant}
use Rattle.book.specs.Check.{Checked, refused, accepted, Reader, records, placed, section, entry, nonterminal, variant}
use Rattle.book.specs.Check.{of_binder, first_step, step, total, variants_fit, passes, all_pass, ended, entire_book}
use Rattle.book.specs.Check.{Outcome, outcome, check_book}
use Rattle.book.specs.Numbers.{bad_count, bad_field, most_words, most_names, most_nonterminals, nonterminal_size}
use Rattle.book.specs.Numbers.{record_size, reserved, last_kind}
use Rattle.book.specs.Index.{nonterminal_from, variant_from, step_from}
use Rattle.book.proofs.ReaderLaws.{checked_told}
use Rattle.book.specs.declared.records.Nonterminal.{Nonterminal}
use Rattle.book.specs.declared.records.Variant.{Variant}
use Rattle.book.specs.declared.records.Step.{Step}
use Rattle.semantics.proofs.Theorem.Records.{refused_accepted, accepted_inj, accepted_end, by_then, by_byte}
use Rattle.semantics.proofs.Theorem.Records.{at_number}

-- ---- Records
module _ (bytes : List ℕ) where
  pub nonterminal_told : (first place : ℕ) (x : Nonterminal) (end : ℕ) →
      nonterminal first bytes place ≡ accepted x end →
      (x ≡ nonterminal_from bytes place first) × (end ≡ place + nonterminal_size)
  unfolding nonterminal
  nonterminal_told first place x end e =
      by_byte _ bad_field place bytes place (place + 1) (omega arith) _ e (λ _ e₁.
      by_byte _ bad_field (place + 1) bytes (place + 1) (place + 2) (omega arith) _ e₁ (λ _ e₂.
      (sym (accepted_inj e₂), sym (accepted_end e₂))))

  -- a binder's or not
  pub variant_told : (binder : Bool) (first place : ℕ) (x : ℕ × Variant) (end : ℕ) →
      placed (variant binder first) bytes place ≡ accepted x end →
      (x ≡ (place, variant_from bytes place first)) × (end ≡ place + record_size)
  unfolding variant
  variant_told binder first place x end e =
      by_then (variant binder first bytes place) _ e (λ v last told same.
      by_byte _ bad_field place bytes place (place + 1) (omega arith) _ told (λ _ e₁.
      by_byte _ bad_field (place + 1) bytes (place + 1) (place + 2) (omega arith) _ e₁ (λ _ e₂.
      by_byte _ bad_field (place + 2) bytes (place + 2) (place + 3) (omega arith) _ e₂ (λ _ e₃.
      by_byte _ bad_field (place + 3) bytes (place + 3) (place + 4) (omega arith) _ e₃ (λ _ e₄. (
        sym (accepted_inj same) ∙ ap (λ (w : Variant). (place, w)) (sym (accepted_inj e₄)),
        sym (accepted_end e₄ ∙ accepted_end same),
      ))))))

  pub step_told : (words nonterminals : ℕ) (binder : Bool) (place : ℕ) (x : Step) (end : ℕ) →
      step words nonterminals binder bytes place ≡ accepted x end →
      (x ≡ step_from bytes place) × (end ≡ place + record_size) × (end ≤ length bytes)
  unfolding step
  step_told words nonterminals binder place x end e =
      by_byte _ bad_field place bytes place (place + 1) (omega arith) _ e (λ _ e₁.
      by_byte _ bad_field (place + 1) bytes (place + 1) (place + 2) (omega arith) _ e₁ (λ _ e₂.
      by_byte _ bad_field (place + 2) bytes (place + 2) (place + 3) (omega arith) _ e₂ (λ _ e₃.
      by_byte _ bad_field (place + 3) bytes (place + 3) (place + 4) (omega arith) _ e₃ (λ b e₄.
      let ends : place + 4 ≡ end = accepted_end e₄ in
      (sym (accepted_inj e₄), sym ends, omega (arith, b.inside))))))

-- ---- Sections
-- a section: its count, which the book has and which passed a test, and its records
pub record Counted {A : Type 0} (fits : ℕ → Bool) (size : A → ℕ) (one : ℕ → ℕ → Reader A) (bytes : List ℕ)
    (place : ℕ) (xs : List A) (end : ℕ) : Type 0 where
  pub inside : place < length bytes
  pub fitted : fits (get_or bytes place 0) ≡ true
  pub read : records size one (get_or bytes place 0) 0 0 bytes (place + 1) ≡ accepted xs end

counted : {A : Type 0} (fits : ℕ → Bool) (size : A → ℕ) (one : ℕ → ℕ → Reader A) (bytes : List ℕ) (place : ℕ)
    (xs : List A) (end : ℕ) → section fits size one bytes place ≡ accepted xs end →
    Counted fits size one bytes place xs end
counted fits size one bytes place xs end e =
    by_then _ (λ n next. records size one n 0 0 bytes next) e (λ n next told read.
    let b = checked_told fits bad_count place bytes place n next told in
    record {
      inside = b.inside;
      fitted = rw b.value at b.fitted;
      read = rw (b.value, b.next) at read;
    })

-- the check asks of every variant that it passes; so does what stands for one that the book doesn't have
all_pass_lem : (steps : List Step) (vs : List (ℕ × Variant)) (bytes : List ℕ) (place : ℕ) {u : Unit {0}} {end : ℕ} →
    all_pass steps vs bytes place ≡ accepted u end → (j : ℕ) →
    passes steps (get_or (map (λ v. v.1) vs) j no_variant) ≡ true
unfolding all_pass
all_pass_lem steps [] bytes place e j = refl
all_pass_lem steps (v ∷ vs) bytes place e j =
    by_test (passes steps v.1)
    (λ t. at_number (λ w. passes steps w ≡ true) no_variant j v.1 (map (λ v. v.1) vs) t
    (all_pass_lem steps vs bytes place (rw t at e)))
    (λ t. absurd (refused_accepted (rw t at e)))

-- the sections one after the other; and what is asked of passing variants, all of them meet
pub record Sections (bytes : List ℕ) (book : Book) : Type 0 where
  pub names_at : ℕ
  pub nonterminals_at : ℕ
  pub variants_at : ℕ
  pub steps_at : ℕ
  pub end : ℕ
  pub placed_variants : List (ℕ × Variant)
  pub words :
      Counted (between 0 most_words) (λ w. 0) (λ i first. entry reserved) bytes 0 book.words names_at
  pub names :
      Counted (between 0 most_names) (λ w. 0) (λ i first. entry last_kind) bytes names_at book.names nonterminals_at
  pub nonterminals :
      Counted (between 1 most_nonterminals) (λ n. n.count) (λ i. nonterminal) bytes nonterminals_at
      book.nonterminals variants_at
  pub variants :
      Counted (variants_fit (total (λ n. n.count) book.nonterminals)) (λ v. v.1.count)
      (λ j first. placed (variant (of_binder (λ n. n.first) book.nonterminals j) first)) bytes variants_at
      placed_variants steps_at
  pub unplaced : book.variants ≡ map (λ v. v.1) placed_variants
  pub steps :
      Counted (eqb (total (λ v. v.1.count) placed_variants)) (λ s. 0)
      (λ k first. step (length book.words) (length book.nonterminals)
      (of_binder (first_step placed_variants) book.nonterminals k)) bytes steps_at book.steps end
  pub passed : (j : ℕ) → passes book.steps (nth_variant book j) ≡ true

sections : (bytes : List ℕ) (book : Book) (end : ℕ) → entire_book bytes 0 ≡ accepted book end → Sections bytes book
unfolding entire_book
sections bytes book end e =
    by_then _ _ e (λ words at₁ e₁ n₁.
    by_then _ _ n₁ (λ names at₂ e₂ n₂.
    by_then _ _ n₂ (λ nonterminals at₃ e₃ n₃.
    by_then _ _ n₃ (λ variants at₄ e₄ n₄.
    by_then _ _ n₄ (λ steps at₅ e₅ n₅.
    by_then (all_pass steps variants bytes at₅) _ n₅ (λ _ at₆ e₆ n₆.
    by_then (ended bytes at₆) _ n₆ (λ _ _ _ all.
    subst (Sections bytes) (accepted_inj all) (record {
      names_at = at₁;
      nonterminals_at = at₂;
      variants_at = at₃;
      steps_at = at₄;
      end = at₅;
      placed_variants = variants;
      words = counted _ _ _ bytes 0 words at₁ e₁;
      names = counted _ _ _ bytes at₁ names at₂ e₂;
      nonterminals = counted _ _ _ bytes at₂ nonterminals at₃ e₃;
      variants = counted _ _ _ bytes at₃ variants at₄ e₄;
      unplaced = refl;
      steps = counted _ _ _ bytes at₄ steps at₅ e₅;
      passed = all_pass_lem steps variants bytes at₅ e₆;
    }))))))))

pub book_sections : (bytes : List ℕ) (book : Book) → check_book bytes ≡ Outcome.book book → Sections bytes book
unfolding check_book
book_sections bytes book e = of (entire_book bytes 0) refl e
  where
    of : (c : Checked Book) → entire_book bytes 0 ≡ c → outcome c ≡ Outcome.book book → Sections bytes book
    of (refused number place) told e = let z : ◌≡◌ {A = ℕ} 0 1 = cc in absurd (omega arith)
    of (accepted b end) told e = let same : b ≡ book = cc in subst (Sections bytes) same (sections bytes b end told)
