-- A law of the parts of a line: a part lies within the slice that it was printed into (`window_counts`).
use Rattle.std.specs.Prelude.{List, ℕ, ◌≤◌, length, drop}
use Rattle.std.proofs.Common.{ap, ◌∙◌, arith, length-take, length-append}
use Rattle.characters.specs.Spelling.{part_of}
use Rattle.program.specs.Counts.{IsPrefixLen}
use Rattle.printing.specs.Lines.{Window}

module _ {from : ℕ} {line out out' : List ℕ} {size : ℕ} (w : Window from line out out' size) where
  inside : size ≤ length out'
  inside =
      omega (arith, w.size_is, ap length w.out_is ∙ length-append (part_of line from (length out)) (drop size out))

  pub window_counts : IsPrefixLen size out'
  window_counts = (inside, omega (arith, inside, length-take size out'))
