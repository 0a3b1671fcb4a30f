-- What a use sees of its path. A use at u is fresh if no use of its path claims a name at u or behind it, and none
-- governs there by its stored parses: if a use of the path governs at all, it gives a minimum, and it is the parent, at
-- u itself. Then all that the use takes from its path is the parent's nonterminal and minimum, and the scope (`Fresh`).
--
-- A use is fresh if its parent began before it (`fresh_child`), since then all uses around began before it too, and
-- their children; and behind an opening (`fresh_body`), which hides all that is around it.
use Rattle.std.specs.Prelude.{◌≡◌, Bool, true, cond, ◌&&◌, ℕ, ◌≤◌, ◌<◌}
use Rattle.std.proofs.Math.Path.{refl, sym}
use Rattle.std.proofs.Common.{◌∙◌, arith}
use Rattle.std.proofs.Math.Bool.{false}
use mathlib.Core.List.{List, [], ◌∷◌}
use Rattle.std.proofs.Math.Dec.{eqb}
use borrow.Author.Tests.{ne_eqb}
use Rattle.characters.specs.Cases.{by_test}
use Rattle.book.specs.Book.{Entry, Book}
use Rattle.semantics.specs.Uses.{Use, has_mark, within, behind, Path, Scope, scope_of, minimum, minimum_of}
use Rattle.semantics.specs.Uses.{outwards, govern, governor}
use Rattle.semantics.specs.Tokens.{has_claimant}

-- the minimum of a use of N at v, if no use further in governs it: m for the parent's nonterminal P at u, else 0
abbrev pub minimum_at : ℕ → ℕ → ℕ → ℕ → ℕ → ℕ
minimum_at P m u N v = cond (eqb P N && eqb u v) m 0

-- a path as a fresh use at u sees it; P and m are the parent's nonterminal and minimum
pub record Fresh (book : Book) (text : List ℕ) (P m u : ℕ) (scope : Scope) (path : Path) : Type 0 where
  pub governs : (N v : ℕ) → u ≤ v → governor path N v ≡ minimum (minimum_at P m u N v)
  pub claims : (v : ℕ) → u ≤ v → has_claimant book text path v ≡ false
  pub scoped : scope_of path ≡ scope

-- ---- Paths whose uses all lie before a place
-- each use of the path, as far as the nearest opening, begins at r or before it, and so does its child
unfoldable pub Within : ℕ → Path → Type 0
Within r [] = Unit {0}
Within r (behind names ∷ path) = Unit {0}
Within r (within f ∷ path) = (f.start ≤ r) × (f.child ≤ r) × Within r path

pub within_none : (r : ℕ) → Within r []
unfolding Within
within_none r = tt

pub within_child : (r : ℕ) (f : Use) (path : Path) → f.start ≤ r → f.child ≤ r → Within r path →
    Within r (within f ∷ path)
unfolding Within
within_child r f path start child w = (start, child, w)

pub within_behind : (r : ℕ) (names : List Entry) (path : Path) → Within r (behind names ∷ path)
unfolding Within
within_behind r names path = tt

pub within_more : (r q : ℕ) (path : Path) → r ≤ q → Within r path → Within q path
unfolding Within
within_more r q [] h w = tt
within_more r q (behind names ∷ path) h w = tt
within_more r q (within f ∷ path) h w =
    let start = w.0 in
    let child = w.1 in
    (omega arith, omega arith, within_more r q path h w.2)

and-false : (a : Bool) → (a && false) ≡ false
and-false true = refl
and-false false = refl

-- behind r none of them governs, and none has a claim
governs_none : (r : ℕ) (path : Path) (N v : ℕ) → Within r path → r < v → governor path N v ≡ minimum 0
unfolding Within governor govern outwards
governs_none r [] N v w h = refl
governs_none r (behind names ∷ path) N v w h = refl
governs_none r (within f ∷ path) N v w h =
    let child = w.1 in
    let t : eqb f.child v ≡ false = ne_eqb f.child v (λ e. omega arith) in
    rw (t, and-false (eqb f.nonterminal N), governs_none r path N v w.2 h) refl

module _ (book : Book) (text : List ℕ) where
  claims_none : (r : ℕ) (path : Path) (v : ℕ) → Within r path → r < v → has_claimant book text path v ≡ false
  unfolding Within has_claimant
  claims_none r [] v w h = refl
  claims_none r (behind names ∷ path) v w h = refl
  claims_none r (within f ∷ path) v w h =
      let start = w.0 in
      let t : eqb f.start v ≡ false = ne_eqb f.start v (λ e. omega arith) in
      rw (t, and-false (has_mark book 1 f.nonterminal)) (claims_none r path v w.2 h)

  -- ---- Fresh uses
  -- a child of f at u, where f and the uses around it began before u
  module _ (r u : ℕ) (f : Use) (around : Path) (w : Within r around) (h : r < u) (before : f.start < u) where
    pub fresh_child : f.child ≡ u →
        Fresh book text f.nonterminal (minimum_of f.associativity f.level) u (scope_of around)
        (within f ∷ around)
    unfolding scope_of governor govern outwards has_claimant
    fresh_child child =
        let past : (v : ℕ) → u ≤ v → eqb f.start v ≡ false = λ v le. ne_eqb f.start v (λ e. omega arith) in
        record {
          governs = λ N v le.
              let t = past v le in
              let far : governor around N v ≡ minimum 0 = governs_none r around N v w (omega arith) in
              rw child
              (by_test (eqb f.nonterminal N && eqb u v)
              (λ b. rw (b, t) refl)
              (λ b. rw (b, far) refl));
          claims = λ v le.
              let t = past v le in
              rw (t, and-false (has_mark book 1 f.nonterminal)) (claims_none r around v w (omega arith));
          scoped = refl;
        }

  -- without a minimum, the parent's nonterminal does not matter
  no_minimum : (P u N v : ℕ) → minimum (minimum_at P 0 u N v) ≡ minimum 0
  no_minimum P u N v = by_test (eqb P N && eqb u v) (λ t. rw t refl) (λ t. rw t refl)

  pub fresh_any : {P u : ℕ} {scope : Scope} {path : Path} → Fresh book text P 0 u scope path → (Q : ℕ) →
      Fresh book text Q 0 u scope path
  fresh_any {P} {u} f Q = record {
    governs = λ N v h. f.governs N v h ∙ no_minimum P u N v ∙ sym (no_minimum Q u N v);
    claims = f.claims;
    scoped = f.scoped;
  }

  -- a body behind its opening, whatever is around
  pub fresh_body : (P u : ℕ) (names : List Entry) (path : Path) →
      Fresh book text P 0 u (names ∷ scope_of path) (behind names ∷ path)
  unfolding governor has_claimant scope_of
  fresh_body P u names path =
      record { governs = λ N v h. sym (no_minimum P u N v); claims = λ v h. refl; scoped = refl }
