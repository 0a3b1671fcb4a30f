-- `transitions::skipped` meets its contract: a place of a short text fits.
use Rattle.std.proofs.Common.{arith}
use Rattle.transitions.specs.TakenLaws.{skip_fits}
use Rattle.transitions.proofs.places.skipped.Goals as goal

pub overflow_cast-result : goal.overflow_cast-result
overflow_cast-result c = omega (
  arith,
  skip_fits c.args.text.now c.args.place c.requires (omega arith),
  c.skip.ensures,
)
