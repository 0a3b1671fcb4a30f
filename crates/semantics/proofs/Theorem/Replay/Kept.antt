-- An answer that a fresh use had is its answer again, wherever all its cells are there: with at least as many levels of
-- nesting left it takes the same units, makes no cell and sets no mark, or its units run out (`kept-true`). Since cells
-- only come, that stays so (`true_still`).
--
-- What an answer is kept by: nonterminal and place; the parent's nonterminal and minimum, and the scope, which are all
-- that a fresh use takes from its path (Fresh); and the levels left, since with fewer a run may meet 21.
use Rattle.std.specs.Prelude.{◌≡◌, Bool, true, false, List, ℕ, zero, ◌-◌, ◌≤◌, ◌<◌, leb}
use Rattle.std.proofs.Math.Path.{refl}
use Rattle.std.proofs.Common.{sym, ◌∙◌, le-leb}
use Rattle.std.specs.Prelude.{Option}
use native.Mathlib.Omega.{arith}
use Rattle.std.proofs.lemmas.Bool.{lt-leb}
use Rattle.book.specs.Book.{Book}
use Rattle.semantics.specs.Numbers.{no_unit}
use Rattle.semantics.specs.Values.{Parse}
use Rattle.semantics.specs.Uses.{Path, Scope}
use Rattle.semantics.specs.Tokens.{when}
use Rattle.semantics.specs.Cells.{Cell}
use Rattle.semantics.specs.Errors.{Error}
use Rattle.semantics.specs.Run.{Result, met, ok, ◌>>=◌, State, Parsed, parsed, runner, enter}
use Rattle.semantics.proofs.Theorem.Meanings.{Prefix, prefix_then}
use Rattle.semantics.proofs.Theorem.SideBySide.Relations.{of_set, Context}
use Rattle.semantics.proofs.Theorem.Replay.Fresh.{Fresh}
use Rattle.semantics.proofs.Theorem.Replay.Around.{Marks}
use Rattle.semantics.proofs.Theorem.Replay.Results.{Second, out, ran, Ended}
use Rattle.semantics.proofs.Theorem.Replay.Instance.{two_runs}

-- ---- So many units at once
abbrev pub less_units : ℕ → State → State
less_units w s = record { units = s.units - w; cells = s.cells; asked = s.asked }

-- "a unit beyond the allowance": none is left
unfoldable pub charge : ℕ → State → Result State
charge w s = when (leb w s.units) (λ _. ok (less_units w s)) (λ _. met no_unit 0)

pub charge_enough : (w : ℕ) (s : State) → w ≤ s.units → charge w s ≡ ok (less_units w s)
unfolding charge
charge_enough w s h = let t : leb w s.units ≡ true = le-leb w s.units h in rw t refl

pub charge_few : (w : ℕ) (s : State) → s.units < w → charge w s ≡ met no_unit 0
unfolding charge
charge_few w s h = let t : leb w s.units ≡ false = lt-leb w s.units h in rw t refl

-- ---- Kept answers
-- what the answer of a fresh use is kept by, and the answer: the units that it took, its set and its failure
pub record Kept : Type 0 where
  pub nonterminal : ℕ
  pub place : ℕ
  pub parent : ℕ
  pub minimum : ℕ
  pub scope : Scope
  pub levels : ℕ
  pub units : ℕ
  pub set : List (Parse ℕ)
  pub failure : Option Error

module _ (book : Book) (text : List ℕ) where
  -- the use has this answer in each later run, once the cells C are there
  pub record True (k : Kept) (C : List Cell) : Type 0 where
    pub again : (n : ℕ) → k.levels ≤ n → (path : Path) →
        Fresh book text k.parent k.minimum k.place k.scope path →
        (sets : List (List (Parse ℕ))) (s : State) → Prefix C s.cells →
        enter book text (runner book text n) path sets k.nonterminal k.place s
        ≡ (charge k.units s >>= (λ t. ok (parsed k.set k.failure t)))

  -- cells come
  pub true_still : {k : Kept} {C D : List Cell} → Prefix C D → True k C → True k D
  true_still p t = record { again = λ n h path f sets s on. t.again n h path f sets s (prefix_then p on) }

  -- with units enough, and with too few
  module _ {k : Kept} {C : List Cell} (t : True k C) (n : ℕ) (h : k.levels ≤ n) (path : Path)
      (f : Fresh book text k.parent k.minimum k.place k.scope path)
      (sets : List (List (Parse ℕ))) (s : State) (on : Prefix C s.cells) where
    pub true_enough : k.units ≤ s.units →
        enter book text (runner book text n) path sets k.nonterminal k.place s
        ≡ ok (parsed k.set k.failure (less_units k.units s))
    unfolding ◌>>=◌
    true_enough enough = t.again n h path f sets s on ∙ rw (charge_enough k.units s enough) refl

    pub true_few : s.units < k.units →
        enter book text (runner book text n) path sets k.nonterminal k.place s ≡ met no_unit 0
    unfolding ◌>>=◌
    true_few few = t.again n h path f sets s on ∙ rw (charge_few k.units s few) refl

  -- ---- The theorem
  same_state : (t : State) (units : ℕ) (cells : List Cell) (asked : List Bool) → t.units ≡ units →
      t.cells ≡ cells → t.asked ≡ asked → t ≡ record { units = units; cells = cells; asked = asked }
  same_state t units cells asked a b c = rw (sym a, sym b, sym c) refl

  charged : (u : ℕ) (s₁ s₂ : State) (r : Parsed) (a : Result Parsed) → r.state.units ≤ s₁.units →
      Second u s₂.cells s₂.asked zero of_set s₁ s₂ r.state (r.set, r.failure) a →
      a ≡ (charge (s₁.units - r.state.units) s₂ >>= (λ t. ok (parsed r.set r.failure t)))
  unfolding ◌>>=◌ Marks
  charged u s₁ s₂ r a fewer (out h) = rw (charge_few (s₁.units - r.state.units) s₂ (omega arith)) refl
  charged u s₁ s₂ r a fewer (ran t₂ b e) =
      let units : t₂.units ≡ s₂.units - (s₁.units - r.state.units) = omega arith in
      rw (
        charge_enough (s₁.units - r.state.units) s₂ (omega arith),
        same_state t₂ _ _ _ units b.cells b.marks,
      ) refl

  module _ (n N u P m : ℕ) (scope : Scope) (path : Path) (f : Fresh book text P m u scope path)
      (sets : List (List (Parse ℕ))) (s : State) (r : Parsed)
      (e : enter book text (runner book text n) path sets N u s ≡ ok r) where
    pub kept_true :
        True
        (record {
          nonterminal = N;
          place = u;
          parent = P;
          minimum = m;
          scope = scope;
          levels = n;
          units = s.units - r.state.units;
          set = r.set;
          failure = r.failure;
        })
        r.state.cells
    kept_true = record {
      again = λ more h path₂ f₂ sets₂ s₂ on.
          let A₁ : Context = record { path = path; stored = sets } in
          let A₂ : Context = record { path = path₂; stored = sets₂ } in
          let both = two_runs book text _ _ _ _ N n more (omega arith) A₁ A₂ f f₂ s s₂ r e in
          charged u s s₂ r _ both.fewer (both.second on);
    }

    -- it only added cells, and took units
    first_run : Ended u s.cells s.asked zero of_set s s r
        (enter book text (runner book text n) path sets N u s)
    first_run =
        let A : Context = record { path = path; stored = sets } in
        two_runs book text _ _ _ _ N n n (omega arith) A A f f s s r e

    pub fresh_grows : Prefix s.cells r.state.cells
    fresh_grows = first_run.prefix

    pub fresh_fewer : r.state.units ≤ s.units
    fresh_fewer = first_run.fewer
