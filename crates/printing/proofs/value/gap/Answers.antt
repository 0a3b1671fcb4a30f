-- `printing::gap` meets its contract.
use Rattle.std.proofs.Common.{sym}
use Rattle.printing.proofs.CellLaws.{gap_later, gap_first}
use Rattle.printing.proofs.LayingLaws.{lays_none, lays_as}
use Rattle.printing.proofs.value.gap.Goals as goal
use Rattle.printing.proofs.value.gap.Goals.{else-in_list-via-then-in_list+else-cell_at-ne-CHAIN_FORM}
use Rattle.printing.proofs.value.gap.Goals.{else-in_list-via-else-in_list}

pub returns-then-cell_at-ne-CHAIN_FORM : goal.returns-then-cell_at-ne-CHAIN_FORM
returns-then-cell_at-ne-CHAIN_FORM c =
    lays_as lays_none
    (sym (rw c.if-in_list.true (gap_first c.args.cells.now c.args.chain _ _ _ c.cell_at.ensures.is
    c.if-cell_at-ne-CHAIN_FORM.true)))

pub returns : goal.returns
returns c =
    elim c.else-in_list.branch [
      | else-in_list-via-then-in_list+else-cell_at-ne-CHAIN_FORM w ↦
          lays_as c.byte.ensures
          (sym (rw w.if-in_list.true (gap_later c.args.cells.now c.args.chain _ _ _ w.cell_at.ensures.is
          w.if-cell_at-ne-CHAIN_FORM.false)))
      | else-in_list-via-else-in_list w ↦ lays_as c.byte.ensures (rw w.if-in_list.false)
    ]
