-- `cells::mix_bytes` meets its contract. The invariant: the hash so far, mixed with the bytes that are left, is the
-- hash of all.
use Rattle.std.proofs.Common.{drop, ◌<◌, ◌≡◌}
use Rattle.cells.specs.Store.{hash_from, hashes}
use Rattle.cells.proofs.numbers.mix_bytes.Given as goal

abbrev pub invariant-loop-byte : goal.invariant-loop-byte
invariant-loop-byte l = record {
  few : l.hash < hashes;
  mixed : hash_from l.hash (drop l.byte-index l.bytes) ≡ hash_from l.first l.bytes;
}
