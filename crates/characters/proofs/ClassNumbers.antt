-- The number of a class tells the class.
--
-- Contents:
-- - class_at, class_told, class_at_rest
use Rattle.std.specs.Prelude.{◌≡◌, refl, cond, ℕ, eqb}
use Rattle.std.proofs.Common.{sym, ap, ◌∙◌, ne_eqb}
use Rattle.characters.specs.Classes.{class_number}
use Rattle.characters.specs.declared.classes.Class.{Class}
use Rattle.characters.specs.declared.classes.Class.TheVariants.{Other, Whitespace, Digit, Letter, Refused}

-- the class of a number, and refused for a number of none
abbrev pub class_at : ℕ → Class
class_at n = cond (eqb n 0) Other (cond (eqb n 1) Whitespace (cond (eqb n 2) Digit (cond (eqb n 3) Letter Refused)))

class_at_number : (class : Class) → class_at (class_number class) ≡ class
class_at_number Other = refl
class_at_number Whitespace = refl
class_at_number Digit = refl
class_at_number Letter = refl
class_at_number Refused = refl

-- a number that is k, and is the number of a class, tells that class
pub class_told : {n k : ℕ} {class : Class} → n ≡ k → n ≡ class_number class → class_at k ≡ class
class_told {class = class} is_k is_number = ap class_at (sym is_k ∙ is_number) ∙ class_at_number class

pub class_at_rest : (n : ℕ) → (n ≡ 0 → ⊥) → (n ≡ 1 → ⊥) → (n ≡ 2 → ⊥) → (n ≡ 3 → ⊥) → class_at n ≡ Refused
class_at_rest n a b c d = rw (ne_eqb n 0 a, ne_eqb n 1 b, ne_eqb n 2 c, ne_eqb n 3 d)
