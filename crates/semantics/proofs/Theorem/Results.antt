-- Results of the run, taken apart: what holds where something ends with a result and not with a limit.
use Rattle.std.specs.Prelude.{◌≡◌, refl, Bool, true, false, List, [], ◌∷◌, ◌⊎◌, ℕ}
use Rattle.std.proofs.Common.{inl, inr, arith}
use Rattle.std.specs.Prelude.{Option, None, Some}
use Rattle.semantics.specs.Uses.{Use, Path, Governor, minimum, same_start}
use Rattle.semantics.specs.Tokens.{when}
use Rattle.semantics.specs.Steps.{Token, Taken, After, goes, halts}
use Rattle.book.specs.Book.{Book}
use Rattle.semantics.specs.Values.{Parse}
use Rattle.semantics.specs.Errors.{Error}
use Rattle.semantics.specs.Run.{Result, met, ok, ◌>>=◌, State, Parsed, Call, Runner, chosen, nested}

-- a limit is no result
pub met_ok : {A : Type 0} {number units : ℕ} {a : A} → met number units ≡ ok a → ⊥
met_ok e = let z : ◌≡◌ {A = ℕ} 0 1 = cc in omega arith

pub ok_inj : {A : Type 0} {a b : A} → ok a ≡ ok b → a ≡ b
ok_inj e = cc

pub some_inj : {A : Type 0} {a b : A} → Some a ≡ Some b → a ≡ b
some_inj e = cc

pub none_some : {A : Type 0} {a : A} → None ≡ Some a → ⊥
none_some e = let z : ◌≡◌ {A = ℕ} 0 1 = cc in omega arith

-- two parts one after the other have a result: so has the first, and from it the second
pub record Got {A B : Type 0} (m : Result A) (f : A → Result B) (b : B) : Type 0 where
  pub val : A
  pub ran : m ≡ ok val
  pub next : f val ≡ ok b

pub got : {A B : Type 0} (m : Result A) (f : A → Result B) {b : B} → (m >>= f) ≡ ok b → Got m f b
unfolding ◌>>=◌
got (met number units) f e = absurd (met_ok e)
got (ok a) f e = record { val = a; ran = refl; next = e }

-- the same, handed to what follows
pub after : {A B C : Type 0} (m : Result A) (f : A → Result B) {b : B} → (m >>= f) ≡ ok b →
    ((a : A) → m ≡ ok a → f a ≡ ok b → C) → C
after m f e k = let g = got m f e in k g.val g.ran g.next

-- a branch was taken: the test says which
pub split : {A : Type 0} (b : Bool) (f g : Unit {0} → A) {r : A} → when b f g ≡ r →
    ((b ≡ true) × (f tt ≡ r)) ⊎ ((b ≡ false) × (g tt ≡ r))
split true f g e = inl (refl, e)
split false f g e = inr (refl, e)

-- ---- Cases, each with its equation
pub option_cases : {A X : Type 0} (o : Option A) → (o ≡ None → X) → ((a : A) → o ≡ Some a → X) → X
option_cases None f g = f refl
option_cases (Some a) f g = g a refl

pub list_cases : {A X : Type 0} (l : List A) → (l ≡ [] → X) → ((a : A) (l' : List A) → l ≡ a ∷ l' → X) → X
list_cases [] f g = f refl
list_cases (a ∷ l) f g = g a l refl

pub governor_cases : {X : Type 0} (g : Governor) → ((m : ℕ) → g ≡ minimum m → X) →
    ((i : ℕ) (f : Use) (Q : Path) → g ≡ same_start i f Q → X) → X
governor_cases (minimum m) f g = f m refl
governor_cases (same_start i u Q) f g = g i u Q refl

pub after_cases : {X : Type 0} (a : After) → ((y : ℕ) → a ≡ goes y → X) → ((y : ℕ) → a ≡ halts y → X) → X
after_cases (goes y) f g = f y refl
after_cases (halts y) f g = g y refl

pub taken_cases : {X : Type 0} (k : Taken) → (k ≡ Taken.nothing → X) → ((t : Token) → k ≡ Taken.token t → X) →
    ((M : ℕ) → k ≡ Taken.child M → X) → ((M : ℕ) → k ≡ Taken.optional M → X) →
    ((comma : Bool) (M : ℕ) (close : Option ℕ) (y : ℕ) → k ≡ Taken.list comma M close y → X) →
    ((y : ℕ) → k ≡ Taken.unopened y → X) → ((close M y : ℕ) → k ≡ Taken.names close M y → X) →
    ((M : ℕ) → k ≡ Taken.body M → X) → X
taken_cases Taken.nothing n t c o l u m b = n refl
taken_cases (Taken.token a) n t c o l u m b = t a refl
taken_cases (Taken.child M) n t c o l u m b = c M refl
taken_cases (Taken.optional M) n t c o l u m b = o M refl
taken_cases (Taken.list comma M close y) n t c o l u m b = l comma M close y refl
taken_cases (Taken.unopened y) n t c o l u m b = u y refl
taken_cases (Taken.names close M y) n t c o l u m b = m close M y refl
taken_cases (Taken.body M) n t c o l u m b = b M refl

-- ---- Parts of the run
-- what is nested ran one level further in
pub nested_run : {X : Type 0} (book : Book) (text : List ℕ) (inner : Option Runner) (s : State)
    (k : Runner → Result Parsed) {r : Parsed} →
    nested book text inner s k ≡ ok r → ((f : Runner) → inner ≡ Some f → k f ≡ ok r → X) → X
unfolding nested
nested_run book text None s k e h = absurd (met_ok e)
nested_run book text (Some f) s k e h = h f refl e

-- the other side of a choice changes no set and no state
pub chosen_same : (c : Call) (at : ℕ) (a : Option Error) (b : Parsed)
    (F : List (Parse ℕ) → State → Type 0) → F b.set b.state → F (chosen c at a b).set (chosen c at a b).state
unfolding chosen
chosen_same c at None b F f = f
chosen_same c at (Some e) b F f =
    option_cases b.failure (λ n. rw n f) (λ d n. rw n f)
