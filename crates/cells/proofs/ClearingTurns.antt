-- A store whose heads are cleared one by one: before the first head, and after one more.
--
-- Contents:
-- - clearing_first, clearing_on
use Rattle.std.specs.Prelude.{◌≡◌, refl, List, ℕ, ◌+◌, ◌<◌, eqb, length, set}
use Rattle.std.proofs.Common.{◌∙◌, arith, get_or-set_same, get_or-set_other, eqb-true}
use Rattle.std.proofs.lemmas.Bool.{eqb-false}
use Rattle.characters.specs.Cases.{by_test}
use Rattle.cells.specs.ClearingLaws.{Clearing}

pub clearing_first : (f : List ℕ) → Clearing f f 0
clearing_first f = record { done = λ room hash l. absurd (omega arith); below = λ k l. refl; beyond = λ k l. refl }

pub clearing_on : (f g h : List ℕ) (i : ℕ) → i < 1024 → length g ≡ length f → Clearing f g i →
    h ≡ set g (16384 + i) 0 → Clearing f h (i + 1)
clearing_on f g h i l lengths so_far e = record {
  done = λ room hash m. rw e (
      by_test (eqb hash i)
      (λ t. rw (eqb-true hash i t) (get_or-set_same g (16384 + i) 0 0 (omega arith)))
      (λ t.
      let other = eqb-false hash i t in
      get_or-set_other g (16384 + i) (16384 + hash) 0 0 (λ z. other (omega arith))
      ∙ so_far.done room hash (omega (arith, other))));
  below = λ k m. rw e (get_or-set_other g (16384 + i) k 0 0 (λ z. omega arith) ∙ so_far.below k m);
  beyond = λ k m. rw e (get_or-set_other g (16384 + i) k 0 0 (λ z. omega arith) ∙ so_far.beyond k m);
}
