-- The numbers of an accepted book fit into 32 bits: the check tests the range of each field, and sums of few small
-- fields are small.
--
-- Contents:
-- - the records
-- - the whole book: accepted_fits
use Rattle.std.specs.Prelude.{◌≡◌, Bool, List, length, get_or}
use Rattle.std.proofs.Math.Path.{subst}
use Rattle.std.proofs.Math.Bool.{and-eq-true_iff}
use Prim.Native.Nat.{ℕ, ◌+◌, ◌≤◌}
use Rattle.std.proofs.Common.{arith}
use Rattle.characters.specs.Classes.{between}
use Rattle.book.specs.Book.{Entry, Book, no_variant}
use Rattle.book.specs.Check.{accepted, placed, spelling, entry, variant, Outcome, check_book}
use Rattle.book.specs.Numbers.{bad_field}
use Rattle.book.proofs.ReaderLaws.{between_high, fixed_most}
use Rattle.book.specs.declared.records.Variant.{Variant}
use Rattle.semantics.proofs.Theorem.Records.{accepted_inj, by_then, by_byte, records_length, records_each}
use Rattle.semantics.proofs.Theorem.Records.{records_total}
use Rattle.semantics.proofs.Theorem.Sections.{Sections, book_sections}
use Rattle.semantics.proofs.Theorem.BookFacts.{unplaced_variant, variants_length, variants_inside, steps_length}
use Rattle.semantics.proofs.Theorem.BookFacts.{steps_inside}
use Rattle.transitions.specs.Fit.{Fits, Fit}

-- ---- The records
record VariantFits (v : Variant) : Type 0 where
  level : v.level ≤ 255
  few : v.count ≤ 8

module _ (bytes : List ℕ) where
  entry_fits : (greatest place : ℕ) (x : Entry) (end : ℕ) → entry greatest bytes place ≡ accepted x end →
      x.label ≤ greatest
  unfolding entry
  entry_fits greatest place x end e =
      by_byte _ bad_field place bytes place (place + 1) (omega arith) _ e (λ label next.
      by_then (spelling bytes (place + 1)) _ next (λ letters _ _ all.
      subst (λ (x : Entry). x.label ≤ greatest) (accepted_inj all)
      (between_high 0 greatest (get_or bytes place 0) label.fitted)))

  variant_fits : (binder : Bool) (first place : ℕ) (x : ℕ × Variant) (end : ℕ) →
      placed (variant binder first) bytes place ≡ accepted x end → VariantFits x.1
  unfolding variant
  variant_fits binder first place x end e =
      by_then (variant binder first bytes place) _ e (λ v after told same.
      subst (λ (x : ℕ × Variant). VariantFits x.1) (accepted_inj same)
      (by_byte _ bad_field place bytes place (place + 1) (omega arith) _ told (λ level next₁.
      by_byte _ bad_field (place + 1) bytes (place + 1) (place + 2) (omega arith) _ next₁ (λ _ next₂.
      by_byte _ bad_field (place + 2) bytes (place + 2) (place + 3) (omega arith) _ next₂ (λ _ next₃.
      by_byte _ bad_field (place + 3) bytes (place + 3) (place + 4) (omega arith) _ next₃ (λ number all.
      subst VariantFits (accepted_inj all) (record {
        level = fixed_most binder 255 255 255 (get_or bytes place 0) (omega arith) (omega arith) level.fitted;
        few = fixed_most binder 1 8 8 (get_or bytes (place + 3) 0) (omega arith) (omega arith) number.fitted;
      })))))))

-- ---- The whole book
whole_fits : (bytes : List ℕ) (book : Book) (text : List ℕ) → length text ≤ 4096 → Sections bytes book → Fit book text
whole_fits bytes book text short a =
    let names = get_or bytes a.names_at 0 in
    let few_names : names ≤ 64 = between_high 0 64 names a.names.fitted in
    let variants = get_or bytes a.variants_at 0 in
    let few_variants : variants ≤ 128 =
    between_high 0 128 variants ((and-eq-true_iff (between 0 128 variants) _).0 a.variants.fitted).0 in
    let fits = records_each _ _ (λ x. VariantFits x.1) bytes (λ j. variant_fits bytes _) (0, no_variant)
    (record { level = omega arith; few = omega arith }) variants 0 0 (a.variants_at + 1) a.variants.read in
    let few_steps = records_total (λ v. v.1.count) _ bytes 8
    (λ j sum place x end told. (variant_fits bytes _ sum place x end told).few) variants 0 0 (a.variants_at + 1)
    a.variants.read in
    record {
      short = short;
      names = omega (arith, records_length _ _ bytes names 0 0 (a.names_at + 1) _ _ a.names.read);
      kinds = records_each _ _ (λ (x : Entry). Fits x.label) bytes
          (λ i sum place x end told. omega (arith, entry_fits bytes 7 place x end told)) _ (omega arith) names 0 0
          (a.names_at + 1) a.names.read;
      variants = λ N. omega (arith, variants_inside bytes book a N, variants_length bytes book a);
      levels = λ j. rw (unplaced_variant bytes book a j) (omega (arith, (fits j).level));
      few = λ j. rw (unplaced_variant bytes book a j) (omega (arith, (fits j).few));
      steps = steps_inside bytes book a;
      all = omega (arith, steps_length bytes book a);
    }

pub accepted_fits : (bytes : List ℕ) (b : Book) (text : List ℕ) → check_book bytes ≡ Outcome.book b →
    length text ≤ 4096 → Fit b text
accepted_fits bytes b text e short = whole_fits bytes b text short (book_sections bytes b e)
