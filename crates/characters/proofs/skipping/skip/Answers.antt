-- `characters::skip` meets its contract. The invariant: skipping from here ends where skipping from `place` does. A
-- round that drops something leaves fewer bytes.
use Rattle.std.proofs.Common.{arith, refl, sym, ◌∙◌, ◌≡◌}
use Rattle.characters.specs.Skipping.{round_end}
use Rattle.characters.proofs.SkippingLaws.{round_leaves_less, skip_stop, skip_on}
use Rattle.characters.proofs.skipping.skip.Goals as goal

pub loop-at-init : goal.loop-at-init
loop-at-init c = refl

pub loop-at-smaller : goal.loop-at-smaller
loop-at-smaller c = rw c.skip_round-next.ensures (round_leaves_less _ _ (λ e. omega (arith, c.skip_round-next.ensures)))

pub loop-at-preserved : goal.loop-at-preserved
loop-at-preserved c = rw c.skip_round-next.ensures (sym (skip_on _ _) ∙ c.loop-at.invariant)

pub returns : goal.returns
returns c = let still : round_end c.args.text.now c.loop-at.at ≡ c.loop-at.at = omega arith in
    omega (arith, skip_stop _ _ still)
