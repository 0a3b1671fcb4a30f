-- Parts of a text or of a book, and when two are spelled alike.
use Rattle.std.specs.Prelude.{Bool, true, false, ◌&&◌, List, [], ◌∷◌, ℕ, eqb, take, drop}

-- the `size` bytes from `start` on, or as many of them as there are
abbrev pub part_of : List ℕ → ℕ → ℕ → List ℕ
part_of bytes start size = take size (drop start bytes)

unfoldable pub same : List ℕ → List ℕ → Bool
same [] [] = true
same [] (b ∷ bs) = false
same (a ∷ as') [] = false
same (a ∷ as') (b ∷ bs) = eqb a b && same as' bs
