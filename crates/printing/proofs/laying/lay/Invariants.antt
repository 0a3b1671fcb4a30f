-- `printing::lay` meets its contract. The invariant: the bytes that were passed are laid.
use Rattle.std.proofs.Common.{take}
use Rattle.printing.specs.Laying.{LaysIn, laid_at}
use Rattle.printing.proofs.laying.lay.Given as goal

abbrev pub invariant-loop-byte : goal.invariant-loop-byte
invariant-loop-byte l =
    let at = laid_at l.initial.skip l.initial.size in
    LaysIn at l.initial.out (take l.byte-index l.bytes) l.out (laid_at l.skip l.size)
