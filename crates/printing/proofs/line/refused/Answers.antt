-- `printing::refused` meets its contract.
use Rattle.printing.proofs.LayingLaws.{lays_then, lays_as}
use Rattle.printing.proofs.LineLaws.{refused_fields}
use Rattle.run.specs.Promise.{answer_in}
use Rattle.printing.proofs.line.refused.Goals as goal

pub returns : goal.returns
returns c =
    let ends = lays_then c.field-4.ensures (lays_then c.field-5.ensures (lays_then c.field-6.ensures c.byte.ensures)) in
    let parts = lays_then c.field.ensures (lays_then c.field-2.ensures (lays_then c.field-3.ensures ends)) in
    lays_as parts
    (refused_fields c.args.text.now (answer_in c.args.answer) _ _ c.requires.line c.requires.column)
