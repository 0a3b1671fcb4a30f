-- `printing::item` and `printing::items` meet their contracts. Each return is one law of proofs/CellLaws.antt, applied
-- to what the calls before it laid. The measure is the cell's number: a cell refers to older ones.
use Rattle.std.proofs.Common.{arith, sym, ◌∙◌}
use Rattle.printing.proofs.LayingLaws.{lays_none, lays_full, lays_then, lays_as}
use Rattle.printing.proofs.CellLaws.{older_less, item_variant, item_list, item_plain, items_none, items_chain}
use Rattle.printing.proofs.value.+item_items.Goals as goal

pub item-returns-then-is_full : goal.item-returns-then-is_full
item-returns-then-is_full t c = lays_full (sym c.is_full.ensures ∙ c.if-is_full.true) _

pub item-items-requires : goal.item-items-requires
item-items-requires t c =
    let placed = c.cell_at-cell.ensures.placed (λ z. omega (arith, c.in-3.is, z)) in
    omega (arith, older_less c.args.n c.cell_at-cell.result.b placed, c.older.ensures)

pub item-items-requires-in-8 : goal.item-items-requires-in-8
item-items-requires-in-8 t c =
    let placed = c.cell_at-cell.ensures.placed (λ z. omega (arith, c.in-8.is, z)) in
    omega (arith, older_less c.args.n c.cell_at-cell.result.a placed, c.older-in-8.ensures)

pub item-returns-in-3 : goal.item-returns-in-3
item-returns-in-3 t c =
    let parts = lays_then c.byte.ensures
    (lays_then c.number.ensures (lays_then c.items.ensures c.byte-in-3.ensures)) in
    lays_as parts
    (item_variant c.args.book.now.names c.args.text.now c.args.cells.now c.args.n _ _ _ c.cell_at-cell.ensures.is _
    c.older.ensures c.in-3.is)

pub item-returns-in-8 : goal.item-returns-in-8
item-returns-in-8 t c =
    let parts = lays_then c.byte-in-8.ensures (lays_then c.items-in-8.ensures c.byte-in-8-2.ensures) in
    lays_as parts
    (item_list c.args.book.now.names c.args.text.now c.args.cells.now c.args.n _ _ _ c.cell_at-cell.ensures.is _
    c.older-in-8.ensures c.in-8.is)

pub item-returns-in_default : goal.item-returns-in_default
item-returns-in_default t c =
    lays_as c.plain.ensures
    (item_plain c.args.book.now.names c.args.text.now c.args.cells.now c.args.n _ _ _
    c.cell_at-cell.ensures.is (λ h. omega (arith, h)) (λ h. omega (arith, h)))

pub items-returns-then-is_full : goal.items-returns-then-is_full
items-returns-then-is_full t c = lays_full (sym c.is_full.ensures ∙ c.if-is_full.true) _

pub items-returns-then-cell-ne-CHAIN_FORM : goal.items-returns-then-cell-ne-CHAIN_FORM
items-returns-then-cell-ne-CHAIN_FORM t c =
    lays_as lays_none
    (items_none c.args.book.now.names c.args.text.now c.args.cells.now c.args.n _ _ _ c.cell_at-cell.ensures.is
    c.args.in_list c.if-cell-ne-CHAIN_FORM.true)

pub items-items-requires : goal.items-items-requires
items-items-requires t c =
    let placed = c.cell_at-cell.ensures.placed (λ z. omega (arith, c.if-cell-ne-CHAIN_FORM.false, z)) in
    omega (arith, older_less c.args.n c.cell_at-cell.result.a placed, c.older-chain.ensures)

pub items-item-requires : goal.items-item-requires
items-item-requires t c =
    let placed = c.cell_at-cell.ensures.placed (λ z. omega (arith, c.if-cell-ne-CHAIN_FORM.false, z)) in
    omega (arith, older_less c.args.n c.cell_at-cell.result.b placed, c.older.ensures)

pub items-returns : goal.items-returns
items-returns t c =
    let parts = lays_then c.items.ensures (lays_then c.gap.ensures c.item.ensures) in
    lays_as parts
    (items_chain c.args.book.now.names c.args.text.now c.args.cells.now c.args.n _ _ _ c.cell_at-cell.ensures.is
    c.args.in_list _ _ c.older-chain.ensures c.older.ensures c.if-cell-ne-CHAIN_FORM.false)
