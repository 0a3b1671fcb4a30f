-- `book::records` meets its contract. The invariant (`Begun` of SectionLaws): what has been read and what is read
-- from here make all of them.
use Rattle.std.proofs.Common.{length, ◌*◌, ◌≡◌, ◌≤◌}
use Rattle.book.proofs.SectionLaws.{Begun}
use Rattle.book.proofs.sections.records.Given as goal

abbrev pub invariant-loop-i : goal.invariant-loop-i
invariant-loop-i l = (length l.index ≡ length l.initial.index) × (l.sum ≤ 255 * l.i) ×
    Begun l.sort l.book l.place l.count l.base l.initial.index l.index l.i l.at l.sum
