-- Lists, sets and rows of marks, as the theorems need them.
use Rattle.std.specs.Prelude.{◌≡◌, refl, Bool, true, false, cond, ◌⊎◌, ℕ, zero, suc, get_or}
use Rattle.std.proofs.Common.{sym, ◌∙◌, ap, subst, inl, inr}
use Rattle.std.proofs.lemmas.Bool.{false≢true}
use mathlib.Core.List.Memᴰ
use mathlib.Core.List.{List, [], ◌∷◌, Memᴰ}
use Rattle.semantics.specs.Run.{ask, newest, others}

-- ---- Membership
infix 4 ◌∈◌
abbrev pub ◌∈◌ : {A : Type 0} → A → List A → Type 0
◌∈◌ a l = Memᴰ a l

-- the elements that pass a test
unfoldable pub sift : {A : Type 0} → (A → Bool) → List A → List A
sift k [] = []
sift k (a ∷ l) = cond (k a) (a ∷ sift k l) (sift k l)

sift_head : {A : Type 0} (k : A → Bool) (b : Bool) (a : A) (l : List A) {p : A} → b ≡ k a → p ∈ cond b (a ∷ l) l →
    ((p ≡ a) × (k p ≡ true)) ⊎ (p ∈ l)
sift_head k true a l e (Memᴰ.head d) = inl (d, ap k d ∙ sym e)
sift_head k true a l e (Memᴰ.tail m) = inr m
sift_head k false a l e m = inr m

pub sift_out : {A : Type 0} (k : A → Bool) (l : List A) {p : A} → p ∈ sift k l → (p ∈ l) × (k p ≡ true)
unfolding sift
sift_out k [] m = absurd (Memᴰ.not-nil m)
sift_out k (a ∷ l) {p} m = either_way (λ n. sift_out k l n) (sift_head k (k a) a (sift k l) refl m)
  where
    either_way : (p ∈ sift k l → (p ∈ l) × (k p ≡ true)) → ((p ≡ a) × (k p ≡ true)) ⊎ (p ∈ sift k l) →
        (p ∈ (a ∷ l)) × (k p ≡ true)
    either_way r (inl d) = (Memᴰ.head d.0, d.1)
    either_way r (inr n) = (Memᴰ.tail (r n).0, (r n).1)

sift_more : {A : Type 0} (b : Bool) (a : A) {l : List A} {p : A} → p ∈ l → p ∈ cond b (a ∷ l) l
sift_more true a m = Memᴰ.tail m
sift_more false a m = m

sift_first : {A : Type 0} (b : Bool) (a : A) (l : List A) {p : A} → p ≡ a → b ≡ true → p ∈ cond b (a ∷ l) l
sift_first b a l d e = rw e (Memᴰ.head d)

pub sift_in : {A : Type 0} (k : A → Bool) {p : A} {l : List A} → p ∈ l → k p ≡ true → p ∈ sift k l
unfolding sift
sift_in k (Memᴰ.head {x = a} {xs = l} d) e = sift_first (k a) a (sift k l) d (ap k (sym d) ∙ e)
sift_in k (Memᴰ.tail {x = a} m) e = sift_more (k a) a (sift_in k m e)

-- one element and no other
pub only : {A : Type 0} {R : List A} {a p : A} → R ≡ a ∷ [] → p ∈ R → p ≡ a
only {a} {p} e m = Memᴰ.eq_of_singleton (subst (λ l. p ∈ l) e m)

pub only_in : {A : Type 0} {R : List A} {a p : A} → R ≡ a ∷ [] → p ≡ a → p ∈ R
only_in {p = p} r e = subst (λ l. p ∈ l) (sym r) (Memᴰ.head e)

-- either way
pub either : {A B C : Type 0} → A ⊎ B → (A → C) → (B → C) → C
either (inl a) f g = f a
either (inr b) f g = g b

-- a set that holds what two others hold, however it is kept
pub record Joins {A : Type 0} (R T U : List A) : Type 0 where
  pub first : (p : A) → p ∈ R → p ∈ U
  pub second : (p : A) → p ∈ T → p ∈ U
  pub out : (p : A) → p ∈ U → (p ∈ R) ⊎ (p ∈ T)

-- set i of a row of sets
abbrev pub nth : {A : Type 0} → List (List A) → ℕ → List A
nth sets i = get_or sets i []

-- ---- Marks: those not listed are false
unfoldable pub flag : List Bool → ℕ → Bool
flag [] i = false
flag (b ∷ marks) zero = b
flag (b ∷ marks) (suc i) = flag marks i

pub flag_ask : (marks : List Bool) (i : ℕ) → flag (ask i marks) i ≡ true
unfolding flag ask
flag_ask [] zero = refl
flag_ask [] (suc i) = flag_ask [] i
flag_ask (b ∷ marks) zero = refl
flag_ask (b ∷ marks) (suc i) = flag_ask marks i

pub flag_newest : (marks : List Bool) → flag marks zero ≡ newest marks
unfolding flag newest
flag_newest [] = refl
flag_newest (b ∷ marks) = refl

pub flag_others : (marks : List Bool) (i : ℕ) → flag marks (suc i) ≡ flag (others marks) i
unfolding flag others
flag_others [] i = refl
flag_others (b ∷ marks) i = refl

-- marks only come
pub record Le (A B : List Bool) : Type 0 where
  pub of : (i : ℕ) → flag A i ≡ true → flag B i ≡ true

pub le_refl : {A : List Bool} → Le A A
le_refl = record { of = λ i e. e }

pub le_then : {A B C : List Bool} → Le A B → Le B C → Le A C
le_then h k = record { of = λ i e. k.of i (h.of i e) }

pub le_others : {b : Bool} {A B : List Bool} → Le (b ∷ A) B → Le A (others B)
unfolding flag
le_others {B = B} h = record { of = λ i e. sym (flag_others B i) ∙ h.of (suc i) e }

ask_of : (marks : List Bool) (i j : ℕ) → flag marks j ≡ true → flag (ask i marks) j ≡ true
unfolding flag ask
ask_of [] zero j e = absurd (false≢true e)
ask_of [] (suc i) j e = absurd (false≢true e)
ask_of (b ∷ marks) zero zero e = refl
ask_of (b ∷ marks) zero (suc j) e = e
ask_of (b ∷ marks) (suc i) zero e = e
ask_of (b ∷ marks) (suc i) (suc j) e = ask_of marks i j e

pub le_ask : (marks : List Bool) (i : ℕ) → Le marks (ask i marks)
le_ask marks i = record { of = ask_of marks i }

pub le_both_others : {B B' : List Bool} → Le B B' → Le (others B) (others B')
le_both_others {B} {B'} h = record { of = λ i e. sym (flag_others B' i) ∙ h.of (suc i) (flag_others B i ∙ e) }
