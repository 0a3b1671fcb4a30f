-- Runs of the relation, taken apart: what the run of some steps was, where it is known what is left to do, and what a
-- step takes or where a closing ends. Complete takes runs apart with these along a derivation.
use Rattle.std.specs.Prelude.{◌≡◌, Bool, true, List, [], ◌∷◌, ℕ}
use Rattle.std.proofs.Common.{sym, subst}
use Rattle.std.specs.Prelude.{Option, None, Some}
use Rattle.characters.specs.Skipping.{skip_from}
use Rattle.book.specs.Book.{Entry, Book}
use Rattle.book.specs.declared.records.Step.{Step}
use Rattle.semantics.specs.Values.{Tree, Trees, no_trees, ◌▸◌, absent, list, Parse}
use Rattle.semantics.specs.Uses.{Path, behind_any, scope_of}
use Rattle.semantics.specs.Tokens.{Read, character_end, declaration_at}
use Rattle.semantics.specs.Steps.{Taken, step_at, after_element, closed, Todo, taking, elements, ending, naming}
use Rattle.semantics.specs.Steps.{closing}
use Rattle.semantics.specs.Derivations.{parse_of, with_item}
use Rattle.semantics.specs.Run.{others}
use Rattle.semantics.proofs.Theorem.Lists.{◌∈◌, Joins}
use Rattle.semantics.proofs.Theorem.BigStep.{Sets, Open, around, inside, Follows, plain, listing, Left, Enters}
use Rattle.semantics.proofs.Theorem.BigStep.{Runs, Rounds, last, more, Steps, s_done, s_nothing, s_token, s_child}
use Rattle.semantics.proofs.Theorem.BigStep.{s_optional, s_list, s_unopened, s_elements, s_unclosed, s_ending}
use Rattle.semantics.proofs.Theorem.BigStep.{s_names, s_body, s_no_name, s_name, s_unopening, s_opening, with_name}
use Rattle.semantics.proofs.Theorem.BigStep.{Each}

module _ (book : Book) (text : List ℕ) where
  -- a child's call, behind an opening or none, and what follows each of its parses
  pub record Child (opening : Option (List Entry)) (o : Open) (j : ℕ) (c : Follows) (M x : ℕ) (B : List Bool)
      (R : List (Parse Tree)) (B' : List Bool) : Type 0 where
    pub B₁ : List Bool
    pub Q : List (Parse Tree)
    pub entered : Enters book text (behind_any opening (inside book text o j (skip_from text x))) (around o) B M
        (skip_from text x) Q B₁
    pub each : Each book text o j c Q B₁ R B'

  -- going on without a child, and with it
  pub record Choice (o : Open) (j : ℕ) (todo : List (Todo Trees)) (items : Trees) (c : Follows) (M x : ℕ)
      (B : List Bool) (R : List (Parse Tree)) (B' : List Bool) : Type 0 where
    pub B₁ : List Bool
    pub R₁ : List (Parse Tree)
    pub R₂ : List (Parse Tree)
    pub without : Steps book text o j todo x items B R₁ B₁
    pub with' : Child None o j c M x B₁ R₂ B'
    pub joins : Joins R₁ R₂ R

  -- the run of a step, by what the step takes
  abbrev pub Ran : Open → ℕ → List (Todo Trees) → ℕ → Trees → List Bool → List (Parse Tree) → List Bool → Taken → Type 0
  Ran o j rest x items B R B' (Taken.token t) =
      Steps book text o j rest t.next (with_item text items t.item) B R B'
  Ran o j rest x items B R B' (Taken.child M) = Child None o j (plain rest items) M x B R B'
  Ran o j rest x items B R B' (Taken.optional M) = Choice o j rest (items ▸ absent) (plain rest items) M x B R B'
  Ran o j rest x items B R B' (Taken.list comma M close y) =
      Steps book text o j (elements comma M no_trees close ∷ rest) y items B R B'
  Ran o j rest x items B R B' (Taken.unopened y) = Steps book text o j rest y (items ▸ list no_trees) B R B'
  Ran o j rest x items B R B' (Taken.names close M y) =
      Steps book text o j (naming [] no_trees close M ∷ rest) y items B R B'
  Ran o j rest x items B R B' (Taken.body M) = Child None o j (plain rest (items ▸ absent)) M x B R B'
  Ran o j rest x items B R B' Taken.nothing = Unit {0}

  -- the run of a list's end, by where its closing ends
  abbrev pub Closed : Open → ℕ → List (Todo Trees) → Trees → Trees → List Bool → List (Parse Tree) →
      List Bool → Option ℕ → Type 0
  Closed o j rest values items B R B' None = Unit {0}
  Closed o j rest values items B R B' (Some y) = Steps book text o j rest y (items ▸ list values) B R B'

  pub inv_done : {o : Open} {j x : ℕ} {items : Trees} {B : List Bool} {R : List (Parse Tree)} {B' : List Bool} →
      Steps book text o j [] x items B R B' → R ≡ parse_of book j x items ∷ []
  inv_done (s_done r) = r

  inv_take : {o : Open} {j : ℕ} {s : Step} {rest : List (Todo Trees)} {x : ℕ} {items : Trees} {B : List Bool}
      {R : List (Parse Tree)} {B' : List Bool} →
      Steps book text o j (taking s ∷ rest) x items B R B' →
      Ran o j rest x items B R B' (step_at book text (scope_of o.path) s x)
  inv_take (s_nothing {o} {j} {x} {rest = rest} {items = items} {B = B} e) =
      subst (Ran o j rest x items B [] B) (sym e) tt
  inv_take (s_token {o} {j} {x} {rest = rest} {items = items} {B = B} {B' = B'} {R = R} e s) =
      subst (Ran o j rest x items B R B') (sym e) s
  inv_take (s_child {o} {j} {x} {rest = rest} {items = items} {B = B} {B₁ = B₁} {B' = B'} {Q = Q} {R = R} e c es) =
      subst (Ran o j rest x items B R B') (sym e) (record { B₁ = B₁; Q = Q; entered = c; each = es })
  inv_take (s_optional {o} {j} {x} {rest = rest} {items = items} {B = B} {B₁ = B₁} {B₂ = B₂} {B' = B'} {Q = Q} {R = R}
      {R₁ = R₁} {R₂ = R₂} e s c es u) =
      subst (Ran o j rest x items B R B') (sym e)
      (record {
        B₁ = B₁;
        R₁ = R₁;
        R₂ = R₂;
        without = s;
        with' = record { B₁ = B₂; Q = Q; entered = c; each = es };
        joins = u;
      })
  inv_take (s_list {o} {j} {x} {rest = rest} {items = items} {B = B} {B' = B'} {R = R} e s) =
      subst (Ran o j rest x items B R B') (sym e) s
  inv_take (s_unopened {o} {j} {x} {rest = rest} {items = items} {B = B} {B' = B'} {R = R} e s) =
      subst (Ran o j rest x items B R B') (sym e) s
  inv_take (s_names {o} {j} {x} {rest = rest} {items = items} {B = B} {B' = B'} {R = R} e s) =
      subst (Ran o j rest x items B R B') (sym e) s
  inv_take (s_body {o} {j} {x} {rest = rest} {items = items} {B = B} {B₁ = B₁} {B' = B'} {Q = Q} {R = R} e c es) =
      subst (Ran o j rest x items B R B') (sym e) (record { B₁ = B₁; Q = Q; entered = c; each = es })

  pub inv_elements : {o : Open} {j : ℕ} {comma : Bool} {M : ℕ} {values : Trees} {close : Option ℕ}
      {rest : List (Todo Trees)} {x : ℕ} {items : Trees} {B : List Bool} {R : List (Parse Tree)} {B' : List Bool} →
      Steps book text o j (elements comma M values close ∷ rest) x items B R B' →
      Choice o j (ending values close ∷ rest) items (listing comma M values close rest items) M x B R B'
  inv_elements (s_elements {B₁ = B₁} {B₂ = B₂} {Q = Q} {R₁ = R₁} {R₂ = R₂} s c es u) =
      record {
        B₁ = B₁;
        R₁ = R₁;
        R₂ = R₂;
        without = s;
        with' = record { B₁ = B₂; Q = Q; entered = c; each = es };
        joins = u;
      }

  inv_ending : {o : Open} {j : ℕ} {values : Trees} {close : Option ℕ} {rest : List (Todo Trees)} {x : ℕ} {items : Trees}
      {B : List Bool} {R : List (Parse Tree)}
      {B' : List Bool} → Steps book text o j (ending values close ∷ rest) x items B R B' →
      Closed o j rest values items B R B' (closed text close x)
  inv_ending (s_unclosed {o} {j} {values = values} {rest = rest} {items = items} {B = B} e) =
      subst (Closed o j rest values items B [] B) (sym e) tt
  inv_ending (s_ending {o} {j} {values = values} {rest = rest} {items = items} {B = B} {B' = B'} {R = R} e s) =
      subst (Closed o j rest values items B R B') (sym e) s

  -- the run of a binder's names: without one more, and with one that stands there
  pub record Naming (o : Open) (j : ℕ) (names : List Entry) (kinds : Trees) (close M : ℕ) (rest : List (Todo Trees))
      (x : ℕ) (items : Trees) (B : List Bool) (R : List (Parse Tree)) (B' : List Bool) (d : Read Entry) : Type 0 where
    pub B₁ : List Bool
    pub R₁ : List (Parse Tree)
    pub R₂ : List (Parse Tree)
    pub without : Steps book text o j (closing names kinds close M ∷ rest) x items B R₁ B₁
    pub left : Left
    pub is : with_name book text (after_element text true d.end) d.value names kinds close M rest items ≡ left
    pub with' : Steps book text o j left.todo left.place left.items B₁ R₂ B'
    pub joins : Joins R₁ R₂ R

  abbrev pub Named : Open → ℕ → List Entry → Trees → ℕ → ℕ → List (Todo Trees) → ℕ → Trees → List Bool →
      List (Parse Tree) → List Bool → Option (Read Entry) → Type 0
  Named o j names kinds close M rest x items B R B' None =
      Steps book text o j (closing names kinds close M ∷ rest) x items B R B'
  Named o j names kinds close M rest x items B R B' (Some d) = Naming o j names kinds close M rest x items B R B' d

  pub inv_naming : {o : Open} {j : ℕ} {names : List Entry} {kinds : Trees} {close M : ℕ} {rest : List (Todo Trees)}
      {x : ℕ} {items : Trees} {B : List Bool} {R : List (Parse Tree)} {B' : List Bool} →
      Steps book text o j (naming names kinds close M ∷ rest) x items B R B' →
      Named o j names kinds close M rest x items B R B' (declaration_at book text (skip_from text x))
  inv_naming (s_no_name {o} {j} {x} {close} {M} {names} {kinds} {rest} {items} {B} {B'} {R} e s) =
      subst (Named o j names kinds close M rest x items B R B') (sym e) s
  inv_naming (s_name {o} {j} {x} {close} {M} {names} {kinds} {rest} {items} {d} {l} {B} {B₁} {B'} {R} {R₁} {R₂}
      e is s t u) =
      subst (Named o j names kinds close M rest x items B R B') (sym e)
      (record { B₁ = B₁; R₁ = R₁; R₂ = R₂; without = s; left = l; is = is; with' = t; joins = u })

  -- the run of a binder's body, by where its closing ends
  abbrev pub Opened : Open → ℕ → List Entry → Trees → ℕ → List (Todo Trees) → Trees → List Bool → List (Parse Tree) →
      List Bool → Option ℕ → Type 0
  Opened o j names kinds M rest items B R B' None = Unit {0}
  Opened o j names kinds M rest items B R B' (Some y) =
      Child (Some names) o j (plain rest (items ▸ list kinds)) M y B R B'

  pub inv_closing : {o : Open} {j : ℕ} {names : List Entry} {kinds : Trees} {close M : ℕ} {rest : List (Todo Trees)}
      {x : ℕ} {items : Trees} {B : List Bool} {R : List (Parse Tree)} {B' : List Bool} →
      Steps book text o j (closing names kinds close M ∷ rest) x items B R B' →
      Opened o j names kinds M rest items B R B' (character_end text close x)
  inv_closing (s_unopening {o} {j} {M = M} {names = names} {kinds = kinds} {rest = rest} {items = items} {B = B} e) =
      subst (Opened o j names kinds M rest items B [] B) (sym e) tt
  inv_closing (s_opening {o} {j} {M = M} {names = names} {kinds = kinds} {rest = rest} {items = items} {B = B} {B₁ = B₁}
      {B' = B'} {Q = Q} {R = R} e c es) =
      subst (Opened o j names kinds M rest items B R B') (sym e)
      (record { B₁ = B₁; Q = Q; entered = c; each = es })

  -- where it is known what a step takes, or where a list's closing ends
  pub ran : {o : Open} {j : ℕ} {s : Step} {rest : List (Todo Trees)} {x : ℕ} {items : Trees} {B : List Bool}
      {R : List (Parse Tree)} {B' : List Bool} {t : Taken} →
      step_at book text (scope_of o.path) s x ≡ t → Steps book text o j (taking s ∷ rest) x items B R B' →
      Ran o j rest x items B R B' t
  ran {o} {j} {s} {rest} {x} {items} {B} {R} {B'} e r = subst (Ran o j rest x items B R B') e (inv_take r)

  pub ended : {o : Open} {j : ℕ} {values : Trees} {close : Option ℕ} {rest : List (Todo Trees)} {x y : ℕ}
      {items : Trees} {B : List Bool} {R : List (Parse Tree)} {B' : List Bool} → closed text close x ≡ Some y →
      Steps book text o j (ending values close ∷ rest) x items B R B' →
      Steps book text o j rest y (items ▸ list values) B R B'
  ended {o} {j} {values} {close} {rest} {items = items} {B = B} {R = R} {B' = B'} e r =
      subst (Closed o j rest values items B R B') e (inv_ending r)

  -- the last round: its stored set is the result, and it adds nothing
  pub record Final (P : Path) (S : Sets) (m N u : ℕ) (U : List (Parse Tree)) (A' : List Bool) : Type 0 where
    pub B : List Bool
    pub R : List (Parse Tree)
    pub B' : List Bool
    pub run : Runs book text P S m N u U B R B'
    pub sub : (p : Parse Tree) → p ∈ R → p ∈ U
    pub marks : A' ≡ others B'

  pub final : {P : Path} {S : Sets} {m N u : ℕ} {T : List (Parse Tree)} {B : List Bool} {U : List (Parse Tree)}
      {A' : List Bool} → Rounds book text P S m N u T B U A' → Final P S m N u U A'
  final (last {P} {S} {m} {N} {u} {R = R} {B = B} {B' = B'} {A' = A'} v sub e a) =
      subst (λ k. Final P S m N u k A') (sym e) (record { B = B; R = R; B' = B'; run = v; sub = sub; marks = a })
  final (more v j rs) = final rs
