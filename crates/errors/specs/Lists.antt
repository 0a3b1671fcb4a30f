-- What `join` and `join_list` promise: errors in a list of numbers, and the furthest, least of them.
use Rattle.std.specs.Prelude.{◌≡◌, List, [], ◌∷◌, ◌++◌, ℕ, zero, suc, ◌+◌, ◌*◌, get_or, length}
use Rattle.semantics.specs.Errors as definition
use Rattle.semantics.specs.Errors.{error, join}
use Rattle.semantics.specs.Furthest.{Furthest}
use Rattle.errors.specs.Maps.{error_of}
use Rattle.errors.specs.declared.Error.{Error}
use Rattle.errors.specs.declared.list.ListError.{ListError}
use Rattle.std.specs.Prelude.{Result, Ok, Err}

-- ---- Errors in a list
-- place, kind and argument
abbrev pub error_size : ℕ
error_size = 3

abbrev pub error_at : List ℕ → ℕ → definition.Error
error_at numbers at = error (get_or numbers at 0) (get_or numbers (at + 1) 0) (get_or numbers (at + 2) 0)

-- the first n errors
unfoldable pub errors_in : List ℕ → ℕ → List definition.Error
errors_in numbers zero = []
errors_in numbers (suc n) = errors_in numbers n ++ (error_at numbers (error_size * n) ∷ [])

-- ---- What is left of them
pub record FurthestIn (numbers : List ℕ) (e : Error) : Type 0 where
  pub count : ℕ
  pub entire : length numbers ≡ error_size * count
  pub furthest : Furthest (errors_in numbers count) (error_of e)

abbrev pub Joins : List ℕ → Result Error ListError → Type 0
Joins numbers (Ok e) = FurthestIn numbers e
Joins numbers (Err ListError.Empty) = length numbers ≡ 0
Joins numbers (Err ListError.Uneven) = (n : ℕ) → length numbers ≡ error_size * n → ⊥

-- ---- Two errors joined
abbrev pub JoinsTo : Error → Error → Error → Type 0
JoinsTo a b r = error_of r ≡ join (error_of a) (error_of b)
