-- The theorem: what the run of a use finds, with no open call around it, is exactly what has a derivation. A mark-2
-- nonterminal must have no variants.
use Rattle.std.specs.Prelude.{Bool, List, [], ◌↔◌, ℕ}
use Rattle.book.specs.Book.{Book}
use Rattle.semantics.specs.Values.{Tree, Parse}
use Rattle.semantics.specs.Uses.{Use, Path}
use Rattle.semantics.specs.Derivations.{Derives}
use Rattle.semantics.proofs.Theorem.Lists.{◌∈◌}
use Rattle.semantics.proofs.Theorem.BigStep.{Enters}
use Rattle.semantics.proofs.Theorem.Heights.{height}
use Rattle.semantics.proofs.Theorem.Sound.{At, s_enters}
use Rattle.semantics.proofs.Theorem.Complete.{PlainBook, complete}

none_at : {i : ℕ} {f : Use} {Q : Path} → At [] i f Q → ⊥
none_at a = elim a [ ]

module _ (book : Book) (text : List ℕ) where
  pub sound : (N u : ℕ) (R : List (Parse Tree)) (A : List Bool) → Enters book text [] [] [] N u R A → (p : Parse Tree) →
      p ∈ R → Derives book text [] N u p
  sound N u R A c p m = s_enters book text c (λ i f Q a. absurd (none_at a)) p m

  pub found : PlainBook book → (N u : ℕ) (R : List (Parse Tree)) (A : List Bool) → Enters book text [] [] [] N u R A →
      (p : Parse Tree) → Derives book text [] N u p → p ∈ R
  found plain_book N u R A c p d =
      let r = height book text d in
      complete book text plain_book r.0 [] [] [] N u R A c
      (record { holds = λ i f Q a. absurd (none_at a) }) p r.1

  pub exact : PlainBook book → (N u : ℕ) (R : List (Parse Tree)) (A : List Bool) → Enters book text [] [] [] N u R A →
      (p : Parse Tree) → (p ∈ R) ↔ Derives book text [] N u p
  exact plain_book N u R A c p = (sound N u R A c p, found plain_book N u R A c p)
