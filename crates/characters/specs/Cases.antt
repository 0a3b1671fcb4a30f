-- A proof by the two values of a test (`by_test`), and from a test that is both (`clash`).
use Rattle.std.specs.Prelude.{◌≡◌, refl, Bool, true, false}
use Rattle.std.proofs.Common.{sym, ◌∙◌, true≢false}

pub by_test : {P : Type 0} (t : Bool) → (t ≡ true → P) → (t ≡ false → P) → P
by_test true yes' no' = yes' refl
by_test false yes' no' = no' refl

-- a test that is true is not false
pub clash : {P : Type 0} {t : Bool} → t ≡ true → t ≡ false → P
clash e f = absurd (true≢false (sym e ∙ f))
