-- Document 01, "Characters": the byte classes.
use Rattle.std.specs.Prelude.{Bool, cond, ◌&&◌, ◌||◌, ℕ, leb, eqb}
use Rattle.characters.specs.declared.classes.Class.{Class}
use Rattle.characters.specs.declared.classes.Class.TheVariants.{Other, Whitespace, Digit, Letter, Refused}

abbrev pub between : ℕ → ℕ → ℕ → Bool
between low high b = leb low b && leb b high

-- "whitespace (9 to 13, 32), digit, letter (A to Z, a to z, underscore), refused (128 up), other": `0` is 48, `A` 65,
-- `a` 97 and `_` 95
unfoldable pub class_of : ℕ → Class
class_of b =
    cond (between 9 13 b || eqb b 32) Whitespace
    (cond (between 48 57 b) Digit
    (cond (between 65 90 b || between 97 122 b || eqb b 95) Letter
    (cond (leb 128 b) Refused Other)))

-- the number that stands for a class in the table
abbrev pub class_number : Class → ℕ
class_number Other = 0
class_number Whitespace = 1
class_number Digit = 2
class_number Letter = 3
class_number Refused = 4

-- whether a byte is of a class
abbrev pub is_of : Class → ℕ → Bool
is_of class b = eqb (class_number (class_of b)) (class_number class)
