-- A set copied number by number, in ascending order: after each number, and after all of them.
--
-- Contents:
-- - Copying, copying_start, copying_again, copying_end
use Rattle.std.specs.Prelude.{◌≡◌, get_or, set, length}
use Rattle.std.proofs.Math.Path.{sym}
use Rattle.std.proofs.Common.{◌∙◌, inl, inr, arith, get_or-set_same, get_or-set_other, below_more}
use mathlib.Core.List.{List}
use Prim.Native.Nat.{ℕ, ◌+◌, ◌-◌, ◌*◌, ◌<◌, ◌≤◌}
use Rattle.sets.specs.Sets.{set_at, Only, Apart, Becomes}
use Rattle.sets.specs.PlaceLaws.{only_refl, only_trans, only_set, list_moved, set_length, set_list}

-- the first k numbers of the set at `into` are those of the set at `from`
pub record Copying (f g : List ℕ) (into from k : ℕ) : Type 0 where
  pub same : (i : ℕ) → i < k → get_or g (into + i) 0 ≡ get_or f (from + i) 0
  pub only : Only f g into 257

pub copying_start : (f : List ℕ) (into from : ℕ) → Copying f f into from 0
copying_start f into from = record { same = λ i h. absurd (omega arith); only = only_refl }

number_of : {f g : List ℕ} (into from i : ℕ) → Apart into from → Only f g into 257 → i < 257 →
    get_or g (from + i) 0 ≡ get_or f (from + i) 0
number_of into from i (inl a) o h = o.high (from + i) (omega arith)
number_of into from i (inr a) o h = o.low (from + i) (omega arith)

pub copying_again : (f g : List ℕ) (into from k : ℕ) → Apart into from → Copying f g into from k → k < 257 →
    into + k < length g → Copying f (set g (into + k) (get_or g (from + k) 0)) into from (k + 1)
copying_again f g into from k far C h len =
    record {
      same = below_more (λ i. get_or (set g (into + k) (get_or g (from + k) 0)) (into + i) 0 ≡ get_or f (from + i) 0) k
          (λ i l. get_or-set_other g (into + k) (into + i) (get_or g (from + k) 0) 0 (λ e. omega arith) ∙ C.same i l)
          (get_or-set_same g (into + k) (get_or g (from + k) 0) 0 len ∙ number_of into from k far C.only h);
      only = only_trans C.only (only_set g (into + k) (get_or g (from + k) 0) into 257 (omega arith) (omega arith));
    }

pub copying_end : (f g : List ℕ) (into from k n : ℕ) → n ≡ length (set_at f from) → 1 + 4 * n ≤ k →
    Copying f g into from k → Becomes f g into (set_at f from)
copying_end f g into from k n e h C =
    record {
      now =
          set_list g into n (e ∙ set_length f from
          ∙ rw (← at into from 0 (omega arith) (omega arith) (omega arith)) (sym (set_length g into)))
          ∙ list_moved f g (from + 1) (into + 1) n
          (λ i j l m q. at j i (i - from) (omega arith) (omega arith) (omega arith))
          ∙ sym (set_list f from n e);
      only = C.only;
    }
  where
    at : (j i x : ℕ) → j ≡ into + x → i ≡ from + x → x < k → get_or g j 0 ≡ get_or f i 0
    at j i x u v l = rw (u, v) (C.same x l)
