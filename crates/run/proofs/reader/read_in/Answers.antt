-- `run::read_in` meets its contract.
use Rattle.run.specs.ReadingLaws.{reads_in}
use Rattle.run.proofs.reader.read_in.Goals as goal

pub returns : goal.returns
returns c = reads_in c.args.index.now c.args.store.now c.args.rows.now c.args.cells.now c.args.parses.now
    c.args.book.now c.args.text.now c.args.start c.args.allowance _ c.no_room.ensures _
    c.if-no_room.false c.in_room.ensures
