-- `characters::number_of` meets its contract. The invariant: the digits left, read after `value`, spell the whole
-- number.
use Rattle.std.proofs.Common.{drop, ◌≡◌, ◌≤◌}
use Rattle.characters.specs.Lexemes.{decimal, largest}
use Rattle.characters.proofs.lexemes.number_of.Given as goal

abbrev pub invariant-loop-byte : goal.invariant-loop-byte
invariant-loop-byte l = record {
  fits : l.value ≤ largest;
  spelled : decimal l.value (drop l.byte-index l.digits) ≡ decimal 0 l.digits;
}
