-- `printing::item` and `printing::items` meet their contracts. Each return is one law of proofs/CellLaws.antt, applied
-- to what the calls before it laid. The measure is the cell's number: a cell refers to older ones.
use Rattle.printing.proofs.value.+item_items.Given as goal

abbrev pub decreases-item : goal.decreases-item
decreases-item l = l.n

abbrev pub decreases-items : goal.decreases-items
decreases-items l = l.n
