-- `book::steps` meets its contract: the range asked of the count says the same as the test of `check_book`.
use Rattle.std.proofs.Common.{arith, eqb}
use Rattle.book.proofs.WholeLaws.{retest, exactly_fits}
use Rattle.book.proofs.checking.steps.Goals as goal

pub returns : goal.returns
returns c = retest _ _ (eqb c.args.total) _ _ c.exactly.result.high 255 580 _ _ _
    (exactly_fits _ _ _ _ c.exactly.ensures.0 (omega (arith, c.type_inv.book c.args.at))) c.exactly.ensures.1
    (rw (c.count-words.ensures, c.count-nonterminals.ensures) at c.section.ensures)
