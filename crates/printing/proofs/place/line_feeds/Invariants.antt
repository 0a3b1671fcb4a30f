-- `printing::line_feeds` meets its contract. The invariant: those found and those ahead are all.
use Rattle.std.proofs.Common.{drop, ◌+◌, ◌≡◌, ◌≤◌}
use Rattle.printing.specs.Printing.{line_feeds}
use Rattle.printing.proofs.place.line_feeds.Given as goal

abbrev pub invariant-loop-byte : goal.invariant-loop-byte
invariant-loop-byte l = record {
  few : l.found ≤ l.byte-index;
  all : l.found + line_feeds (drop l.byte-index l.bytes) ≡ line_feeds l.bytes;
}
