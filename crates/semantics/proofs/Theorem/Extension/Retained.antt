-- What the rules of derivations ask of a book, its extension retains: the numbers of nonterminals, variants and steps
-- that the book has stay what they were, since all that is new comes last.
use Rattle.std.specs.Prelude.{◌≡◌, refl, List, [], ◌∷◌, ◌++◌, ℕ, zero, suc, ◌≤◌, ◌<◌, length, get_or, drop}
use Rattle.std.proofs.Common.{arith, length-drop}
use Rattle.std.proofs.Math.ListN.{get_or-append}
use Rattle.std.proofs.lemmas.List.{take-append-le, drop-append-le}
use Rattle.book.specs.Book.{Book, no_variant, nth_nonterminal, nth_variant}
use Rattle.book.specs.declared.records.Nonterminal.{Nonterminal}
use Rattle.semantics.specs.Steps.{steps_of}
use Rattle.semantics.proofs.Theorem.Sections.{Sections}
use Rattle.semantics.proofs.Theorem.BookFacts.{variants_inside, steps_inside}
use Rattle.semantics.proofs.Theorem.Extension.Books.{OneMore, Grown}
use Rattle.semantics.proofs.Theorem.Extension.Derivations.{Retains}

-- ---- Nonterminals
-- of the same mark, with the same first variant and no fewer
record NoFewer (x y : Nonterminal) : Type 0 where
  mark : y.mark ≡ x.mark
  first : y.first ≡ x.first
  count : x.count ≤ y.count

same : (x : Nonterminal) → NoFewer x x
same x = record { mark = refl; first = refl; count = omega arith }

nth_no_fewer : (init : List Nonterminal) (last grown d : Nonterminal) → OneMore last grown → (N : ℕ) →
    NoFewer (get_or (init ++ (last ∷ [])) N d) (get_or (init ++ (grown ∷ [])) N d)
nth_no_fewer [] last grown d more zero =
    record { mark = more.mark; first = more.first; count = omega (arith, more.count) }
nth_no_fewer [] last grown d more (suc N) = same d
nth_no_fewer (x ∷ init) last grown d more zero = same x
nth_no_fewer (x ∷ init) last grown d more (suc N) = nth_no_fewer init last grown d more N

-- ---- The extension
module _ (bytes : List ℕ) (book : Book) (a : Sections bytes book) (extension : Book) (g : Grown book extension) where
  no_fewer : (N : ℕ) → NoFewer (nth_nonterminal book N) (nth_nonterminal extension N)
  no_fewer N =
      let l = g.nonterminals in
      rw (l.before, l.after) (nth_no_fewer l.init l.last l.grown _ l.one_more N)

  variants_kept : (j : ℕ) → j < length book.variants → nth_variant extension j ≡ nth_variant book j
  variants_kept j h = rw g.variants (get_or-append book.variants (g.variant ∷ []) no_variant j h)

  steps_kept : (j : ℕ) → steps_of extension (nth_variant book j) ≡ steps_of book (nth_variant book j)
  steps_kept j =
      let v = nth_variant book j in
      let inside = steps_inside bytes book a j in
      let left = length-drop v.first book.steps in
      rw (g.steps, drop-append-le v.first book.steps g.more (omega arith))
      (take-append-le v.count (drop v.first book.steps) g.more (omega arith))

  pub retained : Retains book extension
  retained = record {
    words = g.words;
    names = g.names;
    marks = λ N. (no_fewer N).mark;
    firsts = λ N. (no_fewer N).first;
    counts = λ N. (no_fewer N).count;
    inside = λ N i h. omega (arith, variants_inside bytes book a N);
    variants = variants_kept;
    steps = steps_kept;
  }
