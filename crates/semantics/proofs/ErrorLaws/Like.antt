-- Failures that a call can't tell apart, and results that are the same but for them.
use Rattle.std.specs.Prelude.{◌≡◌, List, ℕ, ◌≤◌}
use Rattle.std.proofs.Math.Path.{refl}
use Rattle.std.specs.Prelude.{Option, None, Some}
use Rattle.std.proofs.Common.{arith}
use Rattle.semantics.specs.Values.{Parse}
use Rattle.semantics.specs.Steps.{Todo}
use Rattle.semantics.specs.Errors.{Error}
use Rattle.semantics.specs.Run.{Result, met, ok, ◌>>=◌, State, Parsed, parsed, Call, Runner, Go, Next}
use Rattle.semantics.specs.Run.{either as eitherError}
use Rattle.semantics.proofs.ErrorLaws.{Alike, alike_join}
use Rattle.semantics.proofs.ErrorLaws.Gives.{Behind, Ready}

-- both or neither, and a call that begins at the place can't tell them apart
pub data Both (place : ℕ) : Option Error → Option Error → Type 0 where
  neither : Both place None None
  both : {a b : Error} → Alike place a b → Both place (Some a) (Some b)

pub both_same : {place : ℕ} (o : Option Error) → Both place o o
both_same None = neither
both_same (Some e) = both (record { at = refl; beyond_it = λ far. refl })

pub both_either : (place : ℕ) {a b c d : Option Error} → Both place a b → Both place c d →
    Both place (eitherError a c) (eitherError b d)
unfolding eitherError
both_either place neither k = neither
both_either place (both h) neither = neither
both_either place (both {a} {b} h) (both {a = c} {b = d} k) = both (alike_join place a b c d h k)

module _ (text : List ℕ) where
  -- the same result, or the same limit
  pub data Same (u : ℕ) : Result Parsed → Result Parsed → Type 0 where
    same_limit : {number units : ℕ} → Same u (met number units) (met number units)
    same_result : {r : Parsed} → Behind text u r.set → Same u (ok r) (ok r)

  -- the same but for failures
  pub data Like (u : ℕ) : Result Parsed → Result Parsed → Type 0 where
    like_limit : {number units : ℕ} → Like u (met number units) (met number units)
    like_result : {set : List (Parse ℕ)} {s : State} {d e : Option Error} → Behind text u set → Both u d e →
        Like u (ok (parsed set d s)) (ok (parsed set e s))

  pub same_is : {u : ℕ} {x y : Result Parsed} → Same u x y → x ≡ y
  same_is same_limit = refl
  same_is (same_result b) = refl

  -- seen from a call that began before
  pub same_like : {u v : ℕ} {x y : Result Parsed} → v ≤ u → Same u x y → Like v x y
  same_like l same_limit = like_limit
  same_like l (same_result {r} b) = like_result (λ p m. let k = b p m in omega arith) (both_same r.failure)

  -- a part that is the same on both sides, and then others
  pub same_next : {u : ℕ} {A : Type 0} (m : Result A) (f g : A → Result Parsed) →
      ((a : A) → m ≡ ok a → Same u (f a) (g a)) → Same u (m >>= f) (m >>= g)
  unfolding ◌>>=◌
  same_next (met number units) f g k = same_limit
  same_next (ok a) f g k = k a refl

  pub like_next : {u : ℕ} {A : Type 0} (m : Result A) (f g : A → Result Parsed) →
      ((a : A) → m ≡ ok a → Like u (f a) (g a)) → Like u (m >>= f) (m >>= g)
  unfolding ◌>>=◌
  like_next (met number units) f g k = like_limit
  like_next (ok a) f g k = k a refl

  pub same_bind : {v u : ℕ} {x y : Result Parsed} (f g : Parsed → Result Parsed) → Same v x y →
      ((r : Parsed) → Behind text v r.set → Same u (f r) (g r)) → Same u (x >>= f) (y >>= g)
  unfolding ◌>>=◌
  same_bind f g same_limit k = same_limit
  same_bind f g (same_result {r} b) k = k r b

  pub like_bind : {v u : ℕ} {x y : Result Parsed} (f g : Parsed → Result Parsed) → Like v x y →
      ((set : List (Parse ℕ)) (s : State) (d e : Option Error) → Behind text v set → Both v d e →
      Like u (f (parsed set d s)) (g (parsed set e s))) → Like u (x >>= f) (y >>= g)
  unfolding ◌>>=◌
  like_bind f g like_limit k = like_limit
  like_bind f g (like_result {set} {s} {d} {e} b h) k = k set s d e b h

  pub like_same : {v u : ℕ} {x y : Result Parsed} (f g : Parsed → Result Parsed) → Like v x y →
      ((set : List (Parse ℕ)) (s : State) (d e : Option Error) → Behind text v set → Both v d e →
      Same u (f (parsed set d s)) (g (parsed set e s))) → Same u (x >>= f) (y >>= g)
  unfolding ◌>>=◌
  like_same f g like_limit k = same_limit
  like_same f g (like_result {set} {s} {d} {e} b h) k = k set s d e b h

  -- ---- What a part is given to run
  abbrev pub LikeRunner : Runner → Runner → Type 0
  LikeRunner f g =
      (c : Call) (j : ℕ) (todo : List (Todo ℕ)) (x items : ℕ) (set : List (Parse ℕ)) (s : State) → Ready text c →
      c.start ≤ x → Behind text c.start set → Like c.start (f c j todo x items set s) (g c j todo x items set s)

  pub data LikeInner : Option Runner → Option Runner → Type 0 where
    deepest : LikeInner None None
    deeper : {f g : Runner} → LikeRunner f g → LikeInner (Some f) (Some g)

  abbrev pub LikeGo : Call → Go → Go → Type 0
  LikeGo c go go' = (x items : ℕ) (set : List (Parse ℕ)) (s : State) → c.start ≤ x → Behind text c.start set →
      Like c.start (go x items set s) (go' x items set s)

  abbrev pub LikeNext : Call → Next → Type 0
  LikeNext c next =
      (q : Parse ℕ) (s : State) (f g : Runner) (set : List (Parse ℕ)) → LikeRunner f g → c.start ≤ q.rest →
      Behind text c.start set → Like c.start (next q s f set) (next q s g set)
