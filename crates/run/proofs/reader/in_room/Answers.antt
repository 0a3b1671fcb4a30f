-- `run::in_room` meets its contract.
use Rattle.std.proofs.Common.{arith}
use Rattle.book.proofs.BoundLaws.{refusal_bounds}
use Rattle.run.specs.ReadingLaws.{call_short, call_allowance, call_refused, call_book}
use Rattle.run.specs.ReadingLaws.{verdict_refused}
use Rattle.run.proofs.reader.in_room.Goals as goal

pub returns-then-too_short : goal.returns-then-too_short
returns-then-too_short c =
    call_short _ _ _ _ _ _ c.refused.result _ c.too_short.ensures c.if-too_short.true c.refused.ensures

pub returns-then-no_allowance : goal.returns-then-no_allowance
returns-then-no_allowance c =
    call_allowance _ _ _ _ _ _ _ c.too_short.ensures c.if-too_short.false c.refused-then-no_allowance.result _
    c.no_allowance.ensures
    c.if-no_allowance.true c.refused-then-no_allowance.ensures

pub book_refused-requires : goal.book_refused-requires
book_refused-requires c =
    let bounds =
    refusal_bounds c.args.book.now (λ i. omega (arith, c.type_inv.book i)) _ _
    (verdict_refused _ _ _ _ _ c.check_into.ensures c.requires.0 c.in-Err.is) in
    (omega (arith, bounds.0), omega (arith, bounds.1))

pub returns-in-Err : goal.returns-in-Err
returns-in-Err c =
    let too_short = c.too_short in
    call_refused _ _ _ _ _ _ _ too_short.ensures c.if-too_short.false _ c.no_allowance.ensures c.if-no_allowance.false
    c.book_refused.result _ _ (verdict_refused _ _ _ _ _ c.check_into.ensures c.requires.0 c.in-Err.is)
    c.book_refused.ensures

pub returns : goal.returns
returns c =
    call_book _ _ _ _ _ _ _ c.too_short.ensures c.if-too_short.false _ c.no_allowance.ensures c.if-no_allowance.false
    _ _
    (c.check_into.ensures.gives c.in_default.is) c.on_book.ensures
