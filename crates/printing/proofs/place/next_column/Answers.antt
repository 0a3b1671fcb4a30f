-- `printing::next_column` meets its contract.
use Rattle.std.proofs.Common.{arith}
use Rattle.printing.proofs.NumberLaws.{after_line_feed, after_tab, after_other}
use Rattle.printing.proofs.place.next_column.Goals as goal

pub returns-in-10 : goal.returns-in-10
returns-in-10 c = after_line_feed _ _ _ c.in-10.is (omega arith)

pub returns-in-9 : goal.returns-in-9
returns-in-9 c =
    let at = c.in-9.is in
    after_tab _ _ _ (λ h. omega (arith, h)) at (omega (arith, c.requires.0))

pub returns-in_default : goal.returns-in_default
returns-in_default c = after_other _ _ _ (λ h. omega (arith, h)) (λ h. omega (arith, h)) (omega arith)
