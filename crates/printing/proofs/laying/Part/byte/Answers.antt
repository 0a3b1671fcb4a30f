-- `printing::Part::byte` meets its contract.
use Rattle.std.proofs.Common.{refl}
use Rattle.printing.specs.Laying.{laid_of}
use Rattle.printing.proofs.LayingLaws.{byte_skipped, byte_stored, byte_dropped}
use Rattle.printing.proofs.laying.Part.byte.Goals as goal

pub returns-then-self-gt0 : goal.returns-then-self-gt0
returns-then-self-gt0 c =
    let part = c.args.self.now in
    record { same = refl; laid = byte_skipped (laid_of part) part.out.now c.args.byte c.if-self-gt0.true }

pub returns-then-self : goal.returns-then-self
returns-then-self c =
    let part = c.args.self.now in
    record {
      same = refl;
      laid = byte_stored (laid_of part) part.out.now c.args.byte c.if-self-gt0.false c.if-self.true refl;
    }

pub returns-else-self : goal.returns-else-self
returns-else-self c =
    let part = c.args.self.now in
    record {
      same = refl;
      laid = byte_dropped (laid_of part) part.out.now c.args.byte c.if-self-gt0.false c.if-self.false;
    }
