-- `book::all_pass` meets its contract. The invariant: the variants from j on decide.
use Rattle.std.proofs.Common.{ℕ, ◌≡◌}
use Rattle.book.specs.Check.{all_pass}
use Rattle.book.proofs.EndLaws.{pass_from}
use Rattle.book.specs.Index.{book_in, placed_in}
use Rattle.book.proofs.checking.all_pass.Given as goal

abbrev pub invariant-loop-j : goal.invariant-loop-j
invariant-loop-j l = (next : ℕ) → pass_from l.bytes l.index next l.j ≡ all_pass (book_in l.bytes l.index).steps
    (placed_in l.bytes l.index) l.bytes next
