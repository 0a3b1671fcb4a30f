-- A store without cells: its heads are 0.
--
-- Contents:
-- - elements after a write to a part: element_below, element_mid, element_beyond
-- - Clearing, clearing_heads, clearing_last; too_short
use Rattle.std.specs.Prelude.{◌≡◌, refl, List, ℕ, ◌+◌, ◌≤◌, ◌<◌, length, get_or}
use Rattle.std.proofs.Common.{◌∙◌, arith, rules}
use Rattle.std.proofs.lemmas.List.{places}
use borrow.Rule.Slice.PartMut.{put_mid}
use Rattle.cells.specs.Store.{head_at, Cleared}

-- ---- Elements after a write to a part
module _ (a k : ℕ) (xs ys : List ℕ) (i : ℕ) where
  element_below : i < a → a ≤ length xs → get_or (put_mid a k xs ys) i 0 ≡ get_or xs i 0
  element_below l room = search (rules, places)

  element_mid : i < k → a + k ≤ length xs → length ys ≡ k → get_or (put_mid a k xs ys) (a + i) 0 ≡ get_or ys i 0
  element_mid l room long = search (rules, places)

  element_beyond : a + k ≤ i → a + k ≤ length xs → length ys ≡ k → get_or (put_mid a k xs ys) i 0 ≡ get_or xs i 0
  element_beyond l room long = search (rules, places)

-- ---- Clearing
-- the heads below i are 0, and nothing but heads was stored
pub record Clearing (f g : List ℕ) (i : ℕ) : Type 0 where
  pub done : 17408 ≤ length f → (hash : ℕ) → hash < i → head_at g hash ≡ 0
  pub below : (k : ℕ) → k < 16384 → get_or g k 0 ≡ get_or f k 0
  pub beyond : (k : ℕ) → 17408 ≤ k → get_or g k 0 ≡ get_or f k 0

-- zeros were written over the heads
pub clearing_heads : (f zeros : List ℕ) → 17408 ≤ length f → length zeros ≡ 1024
    → ((i : ℕ) → i < 1024 → get_or zeros i 0 ≡ 0) → Clearing f (put_mid 16384 1024 f zeros) 1024
clearing_heads f zeros room long zero = record {
  done = λ _ hash l.
      element_mid 16384 1024 f zeros hash (omega arith) (omega arith) long ∙ zero hash l;
  below = λ k l. element_below 16384 1024 f zeros k l (omega arith);
  beyond = λ k l. element_beyond 16384 1024 f zeros k l (omega arith) long;
}

pub clearing_last : (f g : List ℕ) (i : ℕ) → 1024 ≤ i → length g ≡ length f → Clearing f g i → Cleared f g
clearing_last f g i l lengths done = record {
  holds = λ text room. record {
    room = omega arith;
    few = omega arith;
    stored = λ k m. absurd (omega arith);
    once = λ j k m o e. absurd (omega arith);
    heads = λ hash m. rw (done.done room hash (omega arith)) (omega arith);
    older = λ n m o. absurd (omega arith);
    reached = λ n m o. absurd (omega arith);
  };
  below = done.below;
  beyond = done.beyond;
}

-- a store that is too short is none: nothing is said of its cells
pub too_short : (f : List ℕ) → length f < 17408 → Cleared f f
too_short f short =
    record { holds = λ text room. absurd (omega arith); below = λ k l. refl; beyond = λ k l. refl }
