-- `sets::copy` meets its contract.
use Rattle.std.proofs.Common.{◌≡◌, ap, arith, get_or, refl, ◌+◌, ◌-◌, ◌∙◌}
use Rattle.sets.specs.SetLaws.{copied}
use Rattle.sets.proofs.copy.Goals as goal

pub returns : goal.returns
returns c =
    let numbers = c.args.numbers.now in
    let from = c.args.from in
    let into = c.args.into in
    let done = c.copy_within.ensures.by_index in
    copied _ _ _ _ _ _ c.size.ensures refl
    (λ i l.
    let place : into + i - into ≡ i = omega arith in
    done.0 (into + i) 0 (omega arith) (omega arith) ∙ ap (λ k. get_or numbers (from + k) 0) place)
    (λ i l. done.1 i 0 l)
    (λ i l. done.2 i 0 (omega arith))
