-- `run::on_book` meets its contract.
use Rattle.std.proofs.Common.{◌∙◌}
use Rattle.transitions.specs.FitLaws.{accepted_fits}
use Rattle.run.specs.ListLaws.{high_at}
use Rattle.run.specs.ReadingLaws.{not_in_book, too_long, high_found, book_run}
use Rattle.run.proofs.reader.on_book.Goals as goal

pub returns-then-nonterminals-start : goal.returns-then-nonterminals-start
returns-then-nonterminals-start c = not_in_book _ _ _ _ _ _ _ c.refused.result (rw c.new-accepted.ensures at
    c.nonterminals.ensures)
    c.if-nonterminals-start.true c.refused.ensures

pub returns-then-text : goal.returns-then-text
returns-then-text c =
    too_long _ _ _ _ _ _ _ (rw c.new-accepted.ensures at c.nonterminals.ensures) c.if-nonterminals-start.false
    c.refused-then-text.result
    c.if-text.true c.refused-then-text.ensures

pub returns-in-Some : goal.returns-in-Some
returns-in-Some c =
    let high = c.first_high.ensures ∙ high_at c.args.text.now in
    high_found _ _ _ _ _ _ _ (rw c.new-accepted.ensures at c.nonterminals.ensures) c.if-nonterminals-start.false
    c.if-text.false _
    high c.refused-in-Some.result _ c.in-Some.is c.refused-in-Some.ensures

pub run-found-requires : goal.run-found-requires
run-found-requires c =
    rw c.new-accepted.ensures (c.requires.2, accepted_fits _ _ _ c.requires.3.1 c.if-text.false)

pub returns : goal.returns
returns c =
    let high = c.first_high.ensures ∙ high_at c.args.text.now in
    book_run _ _ _ _ _ _ _ (rw c.new-accepted.ensures at c.nonterminals.ensures) c.if-nonterminals-start.false
    c.if-text.false _
    high _ _ c.in_default.is (rw c.new-accepted.ensures at c.run-found.ensures.runs.is) (rw c.shared.ensures at
    c.ending.ensures)
