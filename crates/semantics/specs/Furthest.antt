-- Document 02 g, "Laws of the furthest error": the furthest, least member of a list of errors, by which joining them is
-- judged, and errors joined in any order and grouping. The laws stand in FurthestLaws.
use Rattle.std.specs.Prelude.{◌≡◌, ◌≤◌}
use mathlib.Core.List.{List, [], ◌∷◌, ◌++◌, Memᴰ}
use Rattle.semantics.specs.Errors.{Error, join}

-- ---- The furthest, least member
infix 4 ◌∈◌
abbrev pub ◌∈◌ : Error → List Error → Type 0
◌∈◌ e es = Memᴰ e es

-- x is not further than e, nor at its place of lesser kind, nor at its place and of its kind of lesser argument
pub record NoBetter (e x : Error) : Type 0 where
  pub place : x.place ≤ e.place
  pub kind : x.place ≡ e.place → e.kind ≤ x.kind
  pub argument : x.place ≡ e.place → x.kind ≡ e.kind → e.argument ≤ x.argument

pub record Furthest (es : List Error) (e : Error) : Type 0 where
  pub member : e ∈ es
  pub others : (x : Error) → x ∈ es → NoBetter e x

-- ---- Errors joined in any order and grouping
-- from the left, `two (two (one a) (one b)) (one c)`; from the right, `two (one a) (two (one b) (one c))`; or mixed
pub data Grouping : Type 0 where
  one : Error → Grouping
  two : Grouping → Grouping → Grouping

unfoldable pub leaves : Grouping → List Error
leaves (one e) = e ∷ []
leaves (two g h) = leaves g ++ leaves h

unfoldable pub joined : Grouping → Error
joined (one e) = e
joined (two g h) = join (joined g) (joined h)

-- whatever their order, and however often
abbrev pub SameMembers : List Error → List Error → Type 0
SameMembers es xs = ((e : Error) → e ∈ es → e ∈ xs) × ((e : Error) → e ∈ xs → e ∈ es)
