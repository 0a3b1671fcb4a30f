-- `book::spelling_bytes` meets its contract. The invariant (`Begun` of EntryLaws): the bytes read and those from here
-- make the whole spelling.
use Rattle.book.proofs.EntryLaws.{Begun}
use Rattle.book.proofs.spellings.spelling_bytes.Given as goal

abbrev pub invariant-loop-i : goal.invariant-loop-i
invariant-loop-i l = Begun l.book l.at l.place l.size l.i l.next
