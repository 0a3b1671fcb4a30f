-- Bytes of the line, laid into a lent slice one after the other. This is no part of what document 01 says: the
-- functions that print a part of the line say by `Lays` what they lay, and LayingLaws says what is then in the slice.
use Rattle.std.specs.Prelude.{◌≡◌, Bool, cond, not, ◌&&◌, List, [], ◌∷◌, ℕ, ◌+◌, ◌-◌, leb, ltb, length, set}
use Rattle.printing.specs.declared.laying.Part.{Part}

-- how many bytes of the line are still to be skipped, and how many are stored
pub record Laid : Type 0 where
  pub skip : ℕ
  pub size : ℕ

abbrev pub laid_at : ℕ → ℕ → Laid
laid_at skip size = record { skip = skip; size = size }

-- how far the line has come, and the slice
abbrev pub Filling : Type 0
Filling = Laid × List ℕ

-- one byte more: skipped, or stored, or dropped where the slice is full
abbrev pub lay : Filling → ℕ → Filling
lay s b =
    cond (ltb 0 s.0.skip) (record { skip = s.0.skip - 1; size = s.0.size }, s.1)
    (cond (ltb s.0.size (length s.1)) (record { skip = 0; size = s.0.size + 1 }, set s.1 s.0.size b) s)

unfoldable pub laid : Filling → List ℕ → Filling
laid s [] = s
laid s (b ∷ bs) = laid (lay s b) bs

-- the bytes were laid
pub record LaysIn (at : Laid) (out bytes out' : List ℕ) (at' : Laid) : Type 0 where
  pub is : ◌≡◌ {A = Filling} (at', out') (laid (at, out) bytes)

-- ---- By the code's parts
abbrev pub laid_of : Part → Laid
laid_of part = record { skip = part.skip; size = part.size }

-- nothing is to be skipped, and nothing more is stored
abbrev pub full : Part → Bool
full part = not (ltb 0 part.skip) && leb (length part.out.now) part.size

-- the bytes were laid into the part's own slice
pub record Lays (part part' : Part) (bytes : List ℕ) : Type 0 where
  pub same : part'.out.ghost_name ≡ part.out.ghost_name
  pub laid : LaysIn (laid_of part) part.out.now bytes part'.out.now (laid_of part')
