-- What `midgebillon_furthest` promises: the furthest, least error of a list (`Joins` of errors' Lists.antt), or why
-- there is none.
use Rattle.std.specs.Prelude.{◌≡◌, List, ℕ, ◌≤◌, ◌<◌, length, set}
use Rattle.book.specs.Numbers.{short_lists}
use Rattle.errors.specs.Lists.{error_size, Joins}
use Rattle.errors.specs.declared.Error.{Error}
use Rattle.errors.specs.declared.list.ListError.{ListError}
use Rattle.std.specs.Prelude.{Result, Ok, Err}

-- the list has no errors; its length is not three times a number. No refusal of documents 01 and 02 has these numbers
abbrev pub no_errors : ℕ
no_errors = 60

abbrev pub uneven_errors : ℕ
uneven_errors = 61

-- the number that is returned
abbrev pub number_of : Result Error ListError → ℕ
number_of (Ok e) = 0
number_of (Err ListError.Empty) = no_errors
number_of (Err ListError.Uneven) = uneven_errors

-- the list that is lent for the error, with the error's numbers at its front or as it was
abbrev pub holding : Result Error ListError → List ℕ → List ℕ
holding (Ok e) out = set (set (set out 0 e.place) 1 e.kind) 2 e.argument
holding (Err ListError.Empty) out = out
holding (Err ListError.Uneven) out = out

pub record Joining (numbers out out' : List ℕ) (r : ℕ) : Type 0 where
  pub joined : Result Error ListError
  pub joins : Joins numbers joined
  pub number : r ≡ number_of joined
  pub out_is : out' ≡ holding joined out

-- fewer than three places: nothing is touched
pub record JoinsInto (numbers out out' : List ℕ) (r : ℕ) : Type 0 where
  pub few : length out < error_size → (r ≡ short_lists) × (out' ≡ out)
  pub joins : error_size ≤ length out → Joining numbers out out' r
