-- `cells::make` meets its contract, by the three ways in which it ends.
use Rattle.std.proofs.Common.{arith}
use Rattle.cells.specs.GrowthLaws.{makes_found, makes_new, makes_full}
use Rattle.cells.proofs.store.make.Goals as goal

pub returns-in-Some : goal.returns-in-Some
returns-in-Some c = makes_found _ _ _ _ _ _ _ c.hash-h.ensures.0 c.get-first.ensures c.in-Some.ensures.value
    c.in-Some.ensures.cell

pub returns-then-count-lt-MOST_CELLS : goal.returns-then-count-lt-MOST_CELLS
returns-then-count-lt-MOST_CELLS c =
    makes_new _ _ _ _ _ _ _ c.hash-h.ensures.0 c.get-first.ensures c.in_default.ensures.value (omega arith)
    c.if-count-lt-MOST_CELLS.true _ c.push.ensures

pub returns-else-count-lt-MOST_CELLS : goal.returns-else-count-lt-MOST_CELLS
returns-else-count-lt-MOST_CELLS c =
    makes_full _ _ _ _ _ _ _ c.hash-h.ensures.0 c.get-first.ensures c.in_default.ensures.value (omega arith)
    c.if-count-lt-MOST_CELLS.false
