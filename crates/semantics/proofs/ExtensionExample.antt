-- Document 02 n, by an example. Each parse stays; others may come, and a value may become a 32.
use Rattle.std.specs.Prelude.{◌≡◌, refl, List, [], ◌∷◌, ℕ}
use Rattle.semantics.specs.Extension.{Extends}
use Rattle.semantics.proofs.ExampleBook.{computing, example, value, refused, reads, answer_to, n, minus}

-- the example book with a fifth variant, of three steps: a range, which is a number, `-` and a number
abbrev pub with_range : List ℕ
with_range =
    0 ∷ 0 ∷ 1 ∷ 0 ∷ 5 ∷ 5 ∷ 255 ∷ 3 ∷ 1 ∷ 1 ∷ 1 ∷ 0 ∷ 1 ∷ 3 ∷ 2 ∷ 0 ∷ 1 ∷ 3 ∷ 255 ∷ 3 ∷ 1 ∷ 3 ∷ 255 ∷ 3 ∷ 1 ∷ 3 ∷ 13
    ∷ 3 ∷ 0 ∷ 0 ∷ 0
    ∷ 8 ∷ 0 ∷ 0 ∷ 0 ∷ 0 ∷ 45 ∷ 0 ∷ 0 ∷ 8 ∷ 0 ∷ 0 ∷ 0
    ∷ 8 ∷ 0 ∷ 0 ∷ 0 ∷ 0 ∷ 42 ∷ 0 ∷ 0 ∷ 8 ∷ 0 ∷ 0 ∷ 0
    ∷ 0 ∷ 40 ∷ 0 ∷ 0 ∷ 8 ∷ 0 ∷ 0 ∷ 0 ∷ 0 ∷ 41 ∷ 0 ∷ 0
    ∷ 3 ∷ 0 ∷ 0 ∷ 0 ∷ 0 ∷ 45 ∷ 0 ∷ 0 ∷ 3 ∷ 0 ∷ 0 ∷ 0 ∷ []

pub example_extends : Extends (example 0) with_range
unfolding computing
example_extends = record {
  book = _;
  accepted = refl;
  variant = 255 ∷ 3 ∷ 1 ∷ 3 ∷ [];
  variant_size = refl;
  steps = 3 ∷ 0 ∷ 0 ∷ 0 ∷ 0 ∷ 45 ∷ 0 ∷ 0 ∷ 3 ∷ 0 ∷ 0 ∷ 0 ∷ [];
  is = refl;
  extended_book = _;
  accepted_too = refl;
}

-- `1-2`
abbrev text : List ℕ
text = 49 ∷ 45 ∷ 50 ∷ []

-- before, two parses: `1` and `1-2`; afterwards `1-2` is a range, too
pub record Changes : Type 0 where
  pub value_before : reads (example 0) text ≡ value (minus (n 1) (n 2)) 2
  pub refused_after : reads with_range text ≡ refused 32 0 0 0
  pub parses_after : (answer_to with_range text).answer.parses ≡ 3

pub changes : Changes
unfolding computing
changes = record { value_before = refl; refused_after = refl; parses_after = refl }
