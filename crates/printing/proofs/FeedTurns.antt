-- Line feeds counted byte by byte: at a line feed, at another byte, and at the end.
--
-- Contents:
-- - feeds_hit, feeds_miss, feeds_end
use Rattle.std.specs.Prelude.{◌≡◌, List, ℕ, ◌+◌, ◌≤◌, ◌<◌, length, get_or, drop}
use Rattle.std.proofs.Common.{arith, drop_of_length-le, drop-cons}
use Rattle.std.proofs.Math.Numerals.{add-one}
use borrow.Author.Tests.{eq-eqb, ne_eqb}
use Rattle.printing.specs.Printing.{line_feeds}

module _ (bytes : List ℕ) (i n : ℕ) where
  pub feeds_hit : i < length bytes → get_or bytes i 0 ≡ 10 →
      n + 1 + line_feeds (drop (i + 1) bytes) ≡ n + line_feeds (drop i bytes)
  unfolding line_feeds
  feeds_hit h e = rw (drop-cons bytes i 0 h, add-one i, eq-eqb (get_or bytes i 0) 10 e) (omega arith)

  pub feeds_miss : i < length bytes → (get_or bytes i 0 ≡ 10 → ⊥) →
      n + line_feeds (drop (i + 1) bytes) ≡ n + line_feeds (drop i bytes)
  unfolding line_feeds
  feeds_miss h e = rw (drop-cons bytes i 0 h, add-one i, ne_eqb (get_or bytes i 0) 10 e)

  pub feeds_end : length bytes ≤ i → n + line_feeds (drop i bytes) ≡ n
  unfolding line_feeds
  feeds_end h = rw (drop_of_length-le bytes h) (omega arith)
