-- Laws of what the parts of a run give, one after another.
--
-- Contents:
-- - Going, sub_turn, sub_end
-- - one part after another: bind_assoc, bind_map, bind_assoc_in, bind_map_in, goes_to
use Rattle.std.specs.Prelude.{◌≡◌, refl, List, ℕ, suc, ◌+◌, ◌-◌, ◌<◌, ◌≤◌}
use Rattle.std.proofs.Common.{arith}
use Rattle.semantics.specs.Cells.{Cell}
use Rattle.semantics.specs.Run.{Result, met, ok, ◌>>=◌}
use Rattle.run_model.specs.Rows.{Row}
use Rattle.run_model.specs.Model as model
use Rattle.run_model.specs.Model.{row_state, outcome}
use Rattle.errors.specs.Maps.{failure_of}
use Rattle.transitions.specs.Results.{Outcome}
use Rattle.transitions.specs.Outcomes.{Held, given, failure_at}
use Rattle.transitions.specs.OutcomeLaws.{given_ok}

-- a loop has gone on: the store holds its cells, and the model from here is the model of the whole
pub record Going (text store : List ℕ) (count : ℕ) (x y : Result model.Outcome) : Type 0 where
  pub held : Held text store count
  pub is : x ≡ y

pub sub_turn : (n i : ℕ) → i < n → n - i ≡ suc (n - (i + 1))
sub_turn n i h = omega arith

pub sub_end : (n i : ℕ) → n ≤ i → n - i ≡ 0
sub_end n i h = omega arith

-- ---- One part after another
pub bind_assoc : {A B C : Type 0} (m : Result A) (f : A → Result B) (g : B → Result C) →
    ((m >>= f) >>= g) ≡ (m >>= (λ a. f a >>= g))
unfolding ◌>>=◌
bind_assoc (met number units) f g = refl
bind_assoc (ok a) f g = refl

-- a result that is only changed in between
pub bind_map : {A B C : Type 0} (m : Result A) (f : A → B) (g : B → Result C) →
    ((m >>= (λ a. ok (f a))) >>= g) ≡ (m >>= (λ a. g (f a)))
unfolding ◌>>=◌
bind_map (met number units) f g = refl
bind_map (ok a) f g = refl

pub bind_assoc_in : {A B C D : Type 0} (m : Result A) (f : A → Result B) (g : B → Result C) (h : C → Result D) →
    ((m >>= (λ a. f a >>= g)) >>= h) ≡ (m >>= (λ a. f a >>= (λ b. g b >>= h)))
unfolding ◌>>=◌
bind_assoc_in (met number units) f g h = refl
bind_assoc_in (ok a) f g h = bind_assoc (f a) g h

pub bind_map_in : {A B C D : Type 0} (m : Result A) (r : A → Result B) (f : B → C) (g : C → Result D) →
    ((m >>= (λ a. r a >>= (λ b. ok (f b)))) >>= g) ≡ (m >>= (λ a. r a >>= (λ b. g (f b))))
unfolding ◌>>=◌
bind_map_in (met number units) r f g = refl
bind_map_in (ok a) r f g = bind_map (r a) f g

pub goes_to : (o : Outcome) (cells : List Cell) (T : List Row) (K : model.Outcome → Result model.Outcome) →
    o.limit ≡ 0 →
    (given o cells T >>= K) ≡ K (outcome (failure_of (failure_at o)) (row_state o.state.units cells T))
unfolding ◌>>=◌
goes_to o cells T K e = rw (given_ok o cells T e)
