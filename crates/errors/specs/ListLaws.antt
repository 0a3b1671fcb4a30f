-- Laws of joined errors, over what the code returns.
--
--   joins_only            no more than one result joins a list
--   results_associative, results_commutative, results_same, results_furthest
--                         the laws of joining (semantics, FurthestLaws) of the results of `join`
--   uneven_list, first_joined, next_joined
--                         a list of which some errors are joined
use Rattle.std.specs.Prelude.{◌≡◌, refl, List, [], ◌∷◌, ℕ, zero, suc, ◌*◌, ◌/◌, length}
use Rattle.std.proofs.Common.{sym, ◌∙◌, ap, subst, arith}
use mathlib.Core.List.Memᴰ
use Rattle.semantics.specs.Errors as definition
use Rattle.semantics.specs.Errors.{join}
use Rattle.semantics.specs.Furthest.{Furthest}
use Rattle.semantics.proofs.FurthestLaws as laws
use Rattle.errors.specs.Maps.{error_of}
use Rattle.errors.specs.Lists.{error_size, error_at, errors_in, Joins, JoinsTo}
use Rattle.errors.specs.declared.Error.{Error}
use Rattle.errors.specs.declared.list.ListError.{ListError}
use Rattle.std.specs.Prelude.{Result, Ok, Err}

-- ---- No more than one result joins a list
numbers_of_lem : (p k a : ℕ) (e : Error) → e.place ≡ p → e.kind ≡ k → e.argument ≡ a →
    e ≡ record { place = p; kind = k; argument = a }
numbers_of_lem p k a e f g h = rw (sym f, sym g, sym h)

same_code : (e x : Error) → error_of e ≡ error_of x → e ≡ x
same_code e x h =
    numbers_of_lem x.place x.kind x.argument e (ap (λ (y : definition.Error). y.place) h)
    (ap (λ (y : definition.Error). y.kind) h) (ap (λ (y : definition.Error). y.argument) h)

none_of_none : (numbers : List ℕ) (n : ℕ) (e : definition.Error) → n ≡ 0 → Furthest (errors_in numbers n) e → ⊥
unfolding errors_in
none_of_none numbers zero e h f = Memᴰ.not-nil f.member
none_of_none numbers (suc n) e h f = absurd (omega (arith, h))

pub joins_only : (numbers : List ℕ) (r s : Result Error ListError) → Joins numbers r → Joins numbers s → r ≡ s
joins_only numbers (Ok e) (Ok x) h g =
    let l = h.entire in
    let m = g.entire in
    let same : g.count ≡ h.count = omega arith in
    ap Ok
    (same_code e x
    (laws.furthest_only (errors_in numbers h.count) (error_of e) (error_of x) h.furthest
    (subst (λ (n : ℕ). Furthest (errors_in numbers n) (error_of x)) same g.furthest)))
joins_only numbers (Ok e) (Err ListError.Empty) h g =
    let l = h.entire in absurd (none_of_none numbers h.count (error_of e) (omega (arith, g)) h.furthest)
joins_only numbers (Ok e) (Err ListError.Uneven) h g = absurd (g h.count h.entire)
joins_only numbers (Err ListError.Empty) (Ok x) h g =
    let l = g.entire in absurd (none_of_none numbers g.count (error_of x) (omega (arith, h)) g.furthest)
joins_only numbers (Err ListError.Empty) (Err ListError.Empty) h g = refl
joins_only numbers (Err ListError.Empty) (Err ListError.Uneven) h g = absurd (g 0 (omega (arith, h)))
joins_only numbers (Err ListError.Uneven) (Ok x) h g = absurd (h g.count g.entire)
joins_only numbers (Err ListError.Uneven) (Err ListError.Empty) h g = absurd (h 0 (omega (arith, g)))
joins_only numbers (Err ListError.Uneven) (Err ListError.Uneven) h g = refl

-- ---- The laws of joining, over results of the function
module _ (a b c : Error) where
  pub results_associative : (ab bc l r : Error) →
      JoinsTo a b ab → JoinsTo ab c l → JoinsTo b c bc → JoinsTo a bc r → l ≡ r
  results_associative ab bc l r f g h k =
      same_code l r
      (g ∙ ap (λ (x : definition.Error). join x (error_of c)) f
      ∙ laws.join_associative (error_of a) (error_of b) (error_of c)
      ∙ sym (k ∙ ap (λ (x : definition.Error). join (error_of a) x) h))

  pub results_commutative : (r s : Error) → JoinsTo a b r → JoinsTo b a s → r ≡ s
  results_commutative r s f g =
      same_code r s (f ∙ laws.join_commutative (error_of a) (error_of b) ∙ sym g)

  pub results_same : (r : Error) → JoinsTo a a r → r ≡ a
  results_same r f = same_code r a (f ∙ laws.join_same (error_of a))

  pub results_furthest : (r : Error) → JoinsTo a b r → Furthest (error_of a ∷ error_of b ∷ []) (error_of r)
  results_furthest r f =
      subst (λ (x : definition.Error). Furthest (error_of a ∷ error_of b ∷ []) x) (sym f)
      (laws.join_furthest (error_of a) (error_of b))

-- ---- A list under way
pub uneven_list : (numbers : List ℕ) → (length numbers ≡ error_size * (length numbers / error_size) → ⊥) →
    Joins numbers (Err ListError.Uneven)
uneven_list numbers h n e = h (omega (arith, e))

pub first_joined : (numbers : List ℕ) (e : Error) → error_of e ≡ error_at numbers 0 →
    Furthest (errors_in numbers 1) (error_of e)
unfolding errors_in
first_joined numbers e f =
    subst (λ (x : definition.Error). Furthest (error_at numbers 0 ∷ []) x) (sym f)
    (laws.one_furthest (error_at numbers 0))

pub next_joined : (numbers : List ℕ) (n : ℕ) (e x r : Error) → Furthest (errors_in numbers n) (error_of e) →
    error_of x ≡ error_at numbers (error_size * n) → JoinsTo e x r → Furthest (errors_in numbers (suc n)) (error_of r)
unfolding errors_in
next_joined numbers n e x r f g h =
    subst (λ (y : definition.Error). Furthest (errors_in numbers (suc n)) y)
    (sym (h ∙ ap (λ (y : definition.Error). join (error_of e) y) g))
    (laws.both_furthest (errors_in numbers n) (error_at numbers (error_size * n) ∷ []) (error_of e)
    (error_at numbers (error_size * n)) f (laws.one_furthest (error_at numbers (error_size * n))))
