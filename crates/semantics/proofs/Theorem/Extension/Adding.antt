-- Adding a variant loses nothing: the theorem of Extension.antt.
use Rattle.std.specs.Prelude.{◌≡◌, false, List, ℕ, ◌+◌, ◌<◌, length}
use Rattle.std.proofs.Common.{ap, arith}
use Rattle.characters.specs.Cases.{by_test}
use Rattle.book.specs.Book.{nth_nonterminal}
use Rattle.book.specs.declared.records.Nonterminal.{Nonterminal}
use Rattle.semantics.specs.Uses.{has_mark}
use Rattle.semantics.specs.Derivations.{DerivesText}
use Rattle.semantics.specs.Extension.{step_count_at, own_step_count, Extends, AddingLosesNothing}
use Rattle.semantics.proofs.Theorem.Sections.{Sections, book_sections}
use Rattle.semantics.proofs.Theorem.BookFacts.{no_variants, one_variant}
use Rattle.semantics.proofs.Theorem.Found.{found_is_exactly_derivable}
use Rattle.semantics.proofs.Theorem.Extension.Places.{steps_place}
use Rattle.semantics.proofs.Theorem.Extension.Bytes.{BytesAgree, bytes_agree}
use Rattle.semantics.proofs.Theorem.Extension.Books.{last_was, last_grown, Grown, book_grown}
use Rattle.semantics.proofs.Theorem.Extension.Retained.{retained}
use Rattle.semantics.proofs.Theorem.Extension.Derivations.{Retains, derives_still}

module _ (bytes extended : List ℕ) (e : Extends bytes extended) where
  before : Sections bytes e.book
  before = book_sections bytes e.book e.accepted

  after : Sections extended e.extended_book
  after = book_sections extended e.extended_book e.accepted_too

  agree : BytesAgree e.book bytes extended (own_step_count e.variant)
  agree =
      let inside : step_count_at e.book < length bytes =
      omega (arith, before.steps.inside, steps_place bytes e.book before) in
      rw e.is (bytes_agree e.book e.variant e.steps bytes e.variant_size inside)

  grown : Grown e.book e.extended_book
  grown = book_grown e.book e.extended_book bytes extended (own_step_count e.variant) agree before after

  retains : Retains e.book e.extended_book
  retains = retained bytes e.book before e.extended_book grown

  -- the last nonterminal, which has a variant more, is "of mark 0 or 1": one of mark 2 has none, and one of mark 3 one
  module _ (N : ℕ) (last : N + 1 ≡ length e.book.nonterminals) where
    abbrev more : ℕ
    more = (nth_nonterminal e.extended_book N).count

    one_more : more ≡ (nth_nonterminal e.book N).count + 1
    one_more =
        let l = grown.nonterminals in
        let was : nth_nonterminal e.book N ≡ l.last =
        last_was e.book.nonterminals e.extended_book.nonterminals l N _ last in
        let is : nth_nonterminal e.extended_book N ≡ l.grown =
        last_grown e.book.nonterminals e.extended_book.nonterminals l N _ last in
        omega (
          arith,
          l.one_more.count,
          ap (λ (n : Nonterminal). n.count) is,
          ap (λ (n : Nonterminal). n.count) was,
        )

    pub extended_mark : has_mark e.book 2 N ≡ false
    extended_mark =
        by_test (has_mark e.book 2 N)
        (λ two.
        let none = no_variants extended e.extended_book e.accepted_too N (rw (retains.marks N) two) in
        absurd (omega (arith, one_more)))
        (λ other. other)

    pub extended_binder : has_mark e.book 3 N ≡ false
    extended_binder =
        by_test (has_mark e.book 3 N)
        (λ three.
        let one = one_variant bytes e.book e.accepted N three in
        let still = one_variant extended e.extended_book e.accepted_too N (rw (retains.marks N) three) in
        absurd (omega (arith, one_more)))
        (λ other. other)

pub adding_loses_nothing : AddingLosesNothing
adding_loses_nothing bytes extended text cells parses cells' parses' start allowance allowance' e a b p listed =
    let found = found_is_exactly_derivable cells parses bytes text start allowance e.book e.accepted a.begun
    a.unlimited in
    let found' = found_is_exactly_derivable cells' parses' extended text start allowance' e.extended_book
    e.accepted_too b.begun b.unlimited in
    let derived : DerivesText e.book text start p = (found.derivable p).1 listed in
    (found'.derivable p).0
    (derives_still e.book e.extended_book text (retains bytes extended e) derived)
