-- Two runs of one fresh use: what is around the uses inside it, and the marks of the open calls.
--
-- Both runs have opened the same k calls since they began, with the same stored sets, and have read the same openings
-- (`Around`). Outside the fresh use their paths need not be alike: no stored set there is asked for, and no mark there
-- is set. So what governs a use inside is the same in both: a minimum, or one of the k calls (`governed`).
use Rattle.std.specs.Prelude.{◌≡◌, Bool, ◌&&◌, ◌||◌, List, [], ◌∷◌, get_or}
use Rattle.std.proofs.Math.Path.{refl, sym, ap}
use Rattle.std.proofs.Common.{◌∙◌, arith}
use Rattle.std.proofs.Math.Bool.{true, false}
use Rattle.std.specs.Prelude.{Option, None, Some}
use Prim.Native.Nat.{ℕ, zero, suc, ◌≤◌, ◌<◌}
use Rattle.std.proofs.Math.Dec.{eqb}
use Rattle.book.specs.Book.{Entry, Book}
use Rattle.semantics.specs.Values.{Parse}
use Rattle.semantics.specs.Uses.{Use, has_mark, within, behind, Path, Scope, scope_of, Governor, minimum}
use Rattle.semantics.specs.Uses.{same_start, minimum_of, outwards, govern, governor}
use Rattle.semantics.specs.Tokens.{has_claimant, claimed}
use Rattle.semantics.specs.Run.{ask, newest, others}
use Rattle.semantics.proofs.Theorem.SideBySide.Relations.{Good, Context, behind_opening}
use Rattle.semantics.proofs.Theorem.Replay.Fresh.{minimum_at, Fresh}

-- ---- Marks
-- the newest k marks of the second run are the first's, and those of the calls around it are M
unfoldable pub Marks : List Bool → ℕ → List Bool → List Bool → Type 0
Marks M zero a b = b ≡ M
Marks M (suc k) a b = (newest b ≡ newest a) × Marks M k (others a) (others b)

-- there are such marks beside any
pub with_marks : List Bool → ℕ → List Bool → List Bool
with_marks M zero a = M
with_marks M (suc k) a = newest a ∷ with_marks M k (others a)

pub with_marks_lem : (M : List Bool) (k : ℕ) (a : List Bool) → Marks M k a (with_marks M k a)
unfolding Marks with_marks newest others
with_marks_lem M zero a = refl
with_marks_lem M (suc k) a = (refl, with_marks_lem M k (others a))

-- one of the k calls is asked for its stored parses
ask_newest : (a : List Bool) → newest (ask 0 a) ≡ true
unfolding newest ask
ask_newest [] = refl
ask_newest (b ∷ a) = refl

ask_others : (a : List Bool) → others (ask 0 a) ≡ others a
unfolding others ask
ask_others [] = refl
ask_others (b ∷ a) = refl

ask_later_newest : (i : ℕ) (a : List Bool) → newest (ask (suc i) a) ≡ newest a
unfolding newest ask
ask_later_newest i [] = refl
ask_later_newest i (b ∷ a) = refl

ask_later_others : (i : ℕ) (a : List Bool) → others (ask (suc i) a) ≡ ask i (others a)
unfolding others ask
ask_later_others i [] = refl
ask_later_others i (b ∷ a) = refl

pub ask_marks : (M : List Bool) (k i : ℕ) (a b : List Bool) → i < k → Marks M k a b → Marks M k (ask i a) (ask i b)
unfolding Marks
ask_marks M zero i a b h m = absurd (omega arith)
ask_marks M (suc k) zero a b h m = rw (ask_newest a, ask_newest b, ask_others a, ask_others b) (refl, m.1)
ask_marks M (suc k) (suc i) a b h m =
    rw (ask_later_newest i a, ask_later_newest i b, ask_later_others i a, ask_later_others i b)
    (m.0, ask_marks M k i (others a) (others b) (omega arith) m.1)

-- ---- What is around
abbrev Sets : Type 0
Sets = List (List (Parse ℕ))

-- the places that are followed: u and those behind it
abbrev pub Onwards : ℕ → ℕ → Type 0
Onwards u x = u ≤ x

module _ (book : Book) (text : List ℕ) (P m u : ℕ) (scope : Scope) where
  -- around the fresh use; one call further in; behind an opening
  pub data Around : ℕ → Context → Context → Type 0 where
    outside : (A₁ A₂ : Context) → Fresh book text P m u scope A₁.path → Fresh book text P m u scope A₂.path →
        Around zero A₁ A₂
    inside : (k : ℕ) (f : Use) (mine : List (Parse ℕ)) (A₁ A₂ : Context) → Good (Onwards u) mine → Around k A₁ A₂ →
        Around (suc k) (record { path = within f ∷ A₁.path; stored = mine ∷ A₁.stored })
        (record { path = within f ∷ A₂.path; stored = mine ∷ A₂.stored })
    opened : (k : ℕ) (names : List Entry) (A₁ A₂ : Context) → Around k A₁ A₂ →
        Around k (record { path = behind names ∷ A₁.path; stored = A₁.stored })
        (record { path = behind names ∷ A₂.path; stored = A₂.stored })

  pub around_behind : (k : ℕ) (A₁ A₂ : Context) (opening : Option (List Entry)) → Around k A₁ A₂ →
      Around k (behind_opening opening A₁) (behind_opening opening A₂)
  around_behind k A₁ A₂ None a = a
  around_behind k A₁ A₂ (Some names) a = opened k names A₁ A₂ a

  pub around_scope : (k : ℕ) (A₁ A₂ : Context) → Around k A₁ A₂ → scope_of A₂.path ≡ scope_of A₁.path
  unfolding scope_of
  around_scope k A₁ A₂ (outside B₁ B₂ f₁ f₂) = f₂.scoped ∙ sym f₁.scoped
  around_scope k A₁ A₂ (inside l f mine B₁ B₂ good a) = around_scope l B₁ B₂ a
  around_scope k A₁ A₂ (opened l names B₁ B₂ a) = ap (λ (z : Scope). names ∷ z) (around_scope l B₁ B₂ a)

  around_claimant : (k : ℕ) (A₁ A₂ : Context) (v : ℕ) → Around k A₁ A₂ → u ≤ v →
      has_claimant book text A₂.path v ≡ has_claimant book text A₁.path v
  unfolding has_claimant
  around_claimant k A₁ A₂ v (outside B₁ B₂ f₁ f₂) h = f₂.claims v h ∙ sym (f₁.claims v h)
  around_claimant k A₁ A₂ v (inside l f mine B₁ B₂ good a) h =
      ap (λ (z : Bool). (has_mark book 1 f.nonterminal && eqb f.start v) || z) (around_claimant l B₁ B₂ v a h)
  around_claimant k A₁ A₂ v (opened l names B₁ B₂ a) h = refl

  pub around_claims : (k : ℕ) (A₁ A₂ : Context) (v : ℕ) → Around k A₁ A₂ → u ≤ v →
      claimed book text A₂.path v ≡ claimed book text A₁.path v
  around_claims k A₁ A₂ v a h = rw (around_scope k A₁ A₂ a, around_claimant k A₁ A₂ v a h) refl

  -- ---- Governors
  -- of both runs, where k calls are open and these are the stored sets: a minimum, or one of the k calls
  pub data Same (k : ℕ) (S₁ S₂ : Sets) : Governor → Governor → Type 0 where
    least : (n : ℕ) → Same k S₁ S₂ (minimum n) (minimum n)
    asked : (i : ℕ) (f : Use) (Q₁ Q₂ : Path) → get_or S₂ i [] ≡ get_or S₁ i [] → Good (Onwards u) (get_or S₁ i []) → i
        < k →
        Same k S₁ S₂ (same_start i f Q₁) (same_start i f Q₂)

  module _ (k : ℕ) (mine : List (Parse ℕ)) (S₁ S₂ : Sets) where
    outwards_same : (g₁ g₂ : Governor) → Same k S₁ S₂ g₁ g₂ →
        Same (suc k) (mine ∷ S₁) (mine ∷ S₂) (outwards g₁) (outwards g₂)
    unfolding outwards
    outwards_same g₁ g₂ (least n) = least n
    outwards_same g₁ g₂ (asked i f Q₁ Q₂ e good h) = asked (suc i) f Q₁ Q₂ e good (omega arith)

    govern_same : (b c : Bool) (f : Use) (P₁ P₂ : Path) (g₁ g₂ : Governor) → Good (Onwards u) mine →
        Same k S₁ S₂ g₁ g₂ → Same (suc k) (mine ∷ S₁) (mine ∷ S₂) (govern b c f P₁ g₁) (govern b c f P₂ g₂)
    unfolding govern
    govern_same true true f P₁ P₂ g₁ g₂ good g = asked zero f P₁ P₂ refl good (omega arith)
    govern_same true false f P₁ P₂ g₁ g₂ good g = least (minimum_of f.associativity f.level)
    govern_same false c f P₁ P₂ g₁ g₂ good g = outwards_same g₁ g₂ g

  pub around_governor : (k : ℕ) (A₁ A₂ : Context) (N v : ℕ) → Around k A₁ A₂ → u ≤ v →
      Same k A₁.stored A₂.stored (governor A₁.path N v) (governor A₂.path N v)
  unfolding governor
  around_governor k A₁ A₂ N v (outside B₁ B₂ f₁ f₂) h =
      rw (f₁.governs N v h, f₂.governs N v h) (least (minimum_at P m u N v))
  around_governor k A₁ A₂ N v (inside l f mine B₁ B₂ good a) h =
      govern_same l mine B₁.stored B₂.stored (eqb f.nonterminal N && eqb f.child v) (eqb f.start v) f
      B₁.path B₂.path _ _ good (around_governor l B₁ B₂ N v a h)
  around_governor k A₁ A₂ N v (opened l names B₁ B₂ a) h = least 0
