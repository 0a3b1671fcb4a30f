-- `book::Book::lookup` meets its contract. The invariant: the names below i decide.
use Rattle.std.proofs.Common.{◌≡◌, take}
use Rattle.book.specs.Book.{lookup_name}
use Rattle.book.proofs.reading.Book.lookup.Given as goal

abbrev pub invariant-loop-i : goal.invariant-loop-i
invariant-loop-i l = lookup_name (take l.i l.self.names) l.spelling ≡ lookup_name l.self.names l.spelling
