-- `printing::line_feeds` meets its contract.
use Rattle.std.proofs.Common.{sym, arith, ◌∙◌}
use Rattle.printing.proofs.FeedTurns.{feeds_hit, feeds_miss, feeds_end}
use Rattle.printing.proofs.place.line_feeds.Goals as goal
use Rattle.printing.proofs.place.line_feeds.Goals.{then-byte-eq10, else-byte-eq10}

pub loop-byte-init : goal.loop-byte-init
loop-byte-init c = record { few = omega arith; all = omega arith }

pub loop-byte-preserved : goal.loop-byte-preserved
loop-byte-preserved c =
    let loop = c.loop-byte in
    let bytes = c.args.bytes.now in
    elim c.if-byte-eq10.branch [
      | then-byte-eq10 w ↦ record {
        few = omega (arith, w.found-is, loop.invariant.few);
        all =
            rw w.found-is
            (feeds_hit bytes loop.byte-index loop.found c.loop-byte-test.true w.if-byte-eq10.true
            ∙ loop.invariant.all);
      }
      | else-byte-eq10 w ↦ record {
        few = omega (arith, w.found-is, loop.invariant.few);
        all =
            rw w.found-is
            (feeds_miss bytes loop.byte-index loop.found c.loop-byte-test.true w.if-byte-eq10.false
            ∙ loop.invariant.all);
      }
    ]

pub returns-clause-is : goal.returns-clause-is
returns-clause-is c =
    sym (feeds_end c.args.bytes.now c.loop-byte.byte-index c.loop-byte.found c.loop-byte-test.false)
    ∙ c.loop-byte.invariant.all

pub returns-clause-most : goal.returns-clause-most
returns-clause-most c = omega (arith, c.loop-byte.invariant.few, c.loop-byte.auto.byte-index-end)
