-- `cells::find` meets its contract.
use Rattle.std.proofs.Common.{ap, arith, sym, ◌∙◌}
use Rattle.cells.specs.Store.{same_in}
use Rattle.cells.specs.IndexLaws.{find_none, find_end, find_hit, find_less}
use Rattle.cells.proofs.store.find.Goals as goal

pub returns-then-n-eq0-clause-value : goal.returns-then-n-eq0-clause-value
returns-then-n-eq0-clause-value c = sym (find_end _ _ _ _ _ c.if-n-eq0.true) ∙ c.loop.invariant

pub returns-then-same_cell-clause-value : goal.returns-then-same_cell-clause-value
returns-then-same_cell-clause-value c =
    let equal = ap (same_in _ _) (sym c.cell_at.ensures) ∙ sym c.same_cell.ensures ∙ c.if-same_cell.true in
    sym (find_hit _ _ _ _ _ (omega arith) c.if-n-eq0.false equal) ∙ c.loop.invariant

pub loop-preserved : goal.loop-preserved
loop-preserved c =
    let other = ap (same_in _ _) (sym c.cell_at.ensures) ∙ sym c.same_cell.ensures ∙ c.if-same_cell.false in
    rw c.get-n.ensures (sym (find_less _ _ _ _ _ _ (omega arith) c.if-n-eq0.false other) ∙ c.loop.invariant)

pub returns-clause-value : goal.returns-clause-value
returns-clause-value c = sym (find_none _ _ _ _ _ (omega arith)) ∙ c.loop.invariant
