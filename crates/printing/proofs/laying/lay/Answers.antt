-- `printing::lay` meets its contract.
use Rattle.std.proofs.Common.{refl, add-one, sym, take-suc, take_all, take, get_or, ◌≡◌, ◌+◌, ◌++◌, ◌∷◌, []}
use Rattle.printing.specs.Laying.{Laid, laid_at}
use Rattle.printing.proofs.LayingLaws.{none_in, then_in, as_in, byte_skipped, byte_stored, byte_dropped}
use Rattle.printing.proofs.laying.lay.Goals as goal
use Rattle.printing.proofs.laying.lay.Goals.{then-skip-gt0}
use Rattle.printing.proofs.laying.lay.Goals.{else-skip-gt0+then-size-out, else-skip-gt0+else-size-out}

pub loop-byte-init : goal.loop-byte-init
loop-byte-init c = none_in

pub loop-byte-preserved : goal.loop-byte-preserved
loop-byte-preserved c =
    let loop = c.loop-byte in
    let bytes = c.args.bytes.now in
    let b = get_or bytes loop.byte-index 0 in
    let at : Laid = laid_at loop.skip loop.size in
    let next : take loop.byte-index bytes ++ (b ∷ []) ≡ take (loop.byte-index + 1) bytes =
    rw (add-one loop.byte-index) (sym (take-suc bytes loop.byte-index 0 c.loop-byte-test.true)) in
    elim c.if-skip-gt0.branch [
      | then-skip-gt0 w ↦
          rw (w.out-is, w.skip-is, w.size-is)
          (as_in (then_in loop.invariant (byte_skipped at loop.out b w.if-skip-gt0.true)) next)
      | else-skip-gt0+then-size-out w ↦
          rw (w.out-is, w.skip-is, w.size-is)
          (as_in (then_in loop.invariant (byte_stored at loop.out b w.if-skip-gt0.false w.if-size-out.true refl)) next)
      | else-skip-gt0+else-size-out w ↦
          rw (w.out-is, w.skip-is, w.size-is)
          (as_in (then_in loop.invariant (byte_dropped at loop.out b w.if-skip-gt0.false w.if-size-out.false)) next)
    ]

pub returns : goal.returns
returns c = as_in c.loop-byte.invariant (take_all c.loop-byte.byte-index c.args.bytes.now c.loop-byte-test.false)
