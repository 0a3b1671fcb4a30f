-- The run as a relation, over trees: which sets its calls, variants and steps find, and which marks stand after them.
-- It knows nothing of work, nesting, cells and errors.
use Rattle.std.specs.Prelude.{◌≡◌, Bool, true, false, cond, List, [], ◌∷◌, ◌++◌, ℕ, zero, suc, leb}
use Rattle.std.specs.Prelude.{Option, None, Some}
use Rattle.characters.specs.Skipping.{skip_from}
use Rattle.book.specs.Book.{Entry, Book, nth_nonterminal, nth_variant}
use Rattle.book.specs.declared.records.Step.{Step}
use Rattle.semantics.specs.Values.{Tree, Trees, no_trees, ◌▸◌, number, absent, list, Parse}
use Rattle.semantics.specs.Uses.{Use, Path, scope_of, within, behind, use_of, has_mark, minimum, same_start}
use Rattle.semantics.specs.Uses.{governor, keeps}
use Rattle.semantics.specs.Tokens.{Read, character_end, free_end, claimed, declaration_at}
use Rattle.semantics.specs.Steps.{Token, Taken, step_at, After, goes, halts, after_element, closed, Todo, taking}
use Rattle.semantics.specs.Steps.{elements, ending, naming, closing, todo_of}
use Rattle.semantics.specs.Derivations.{parse_of, identifier_parse, with_item}
use Rattle.semantics.specs.Run.{ask, newest, others}
use Rattle.semantics.proofs.Theorem.Lists.{◌∈◌, sift, nth, Joins}

abbrev pub Sets : Type 0
Sets = List (List (Parse Tree))

-- a call while its variants run: its path, the stored sets of the open calls around it, its nonterminal and start, its
-- own stored set
pub record Open : Type 0 where
  pub path : Path
  pub sets : Sets
  pub nonterminal : ℕ
  pub start : ℕ
  pub mine : List (Parse Tree)

abbrev pub open' : Path → Sets → ℕ → ℕ → List (Parse Tree) → Open
open' path sets N u mine = record { path = path; sets = sets; nonterminal = N; start = u; mine = mine }

abbrev pub around : Open → Sets
around o = o.mine ∷ o.sets

-- what follows a child's parse: the steps that are left, or a list under way
pub data Follows : Type 0 where
  plain : List (Todo Trees) → Trees → Follows
  listing : Bool → ℕ → Trees → Option ℕ → List (Todo Trees) → Trees → Follows

pub record Left : Type 0 where
  pub todo : List (Todo Trees)
  pub place : ℕ
  pub items : Trees

module _ (book : Book) (text : List ℕ) where
  -- the path of a child at a place
  abbrev pub inside : Open → ℕ → ℕ → Path
  inside o j x = within (use_of book o.nonterminal o.start j x) ∷ o.path

  abbrev pub onward : After → Tree → Bool → ℕ → Trees → Option ℕ → List (Todo Trees) → Trees → Left
  onward (goes y) v comma M values close rest items =
      record { todo = elements comma M (values ▸ v) close ∷ rest; place = y; items = items }
  onward (halts y) v comma M values close rest items =
      record { todo = ending (values ▸ v) close ∷ rest; place = y; items = items }

  -- after a declared name
  abbrev pub with_name : After → Entry → List Entry → Trees → ℕ → ℕ → List (Todo Trees) → Trees → Left
  with_name (goes y) n names kinds close M rest items = record {
    todo = naming (names ++ (n ∷ [])) (kinds ▸ number n.label) close M ∷ rest;
    place = y;
    items = items;
  }
  with_name (halts y) n names kinds close M rest items = record {
    todo = closing (names ++ (n ∷ [])) (kinds ▸ number n.label) close M ∷ rest;
    place = y;
    items = items;
  }

  abbrev pub resume : Follows → Parse Tree → Left
  resume (plain rest items) q = record { todo = rest; place = q.rest; items = items ▸ q.value }
  resume (listing comma M values close rest items) q =
      onward (after_element text comma q.rest) q.value comma M values close rest items

  -- what a mark-2 use finds
  abbrev pub named : Option ℕ → ℕ → List (Parse Tree)
  named None u = []
  named (Some end) u = identifier_parse text u end ∷ []

  abbrev pub identifiers : Path → ℕ → List (Parse Tree)
  identifiers P u = cond (claimed book text P u) [] (named (free_end book text u) u)

  mutual
    -- a use at its path, among the stored sets and marks of the open calls: what it finds, and the marks after it
    pub data Enters : Path → Sets → List Bool → ℕ → ℕ → List (Parse Tree) → List Bool → Type 0 where
      again : {P Q : Path} {S : Sets} {A A' : List Bool} {N u i : ℕ} {f : Use} {R : List (Parse Tree)} →
          governor P N u ≡ same_start i f Q → R ≡ sift (keeps f) (nth S i) → A' ≡ ask i A → Enters P S A N u R A'
      identifier : {P : Path} {S : Sets} {A A' : List Bool} {N u m : ℕ} {R : List (Parse Tree)} →
          governor P N u ≡ minimum m → has_mark book 2 N ≡ true →
          R ≡ identifiers P u → A' ≡ A → Enters P S A N u R A'
      -- the first run didn't ask for the call's stored parses, or found nothing
      quiet : {P : Path} {S : Sets} {A A' B : List Bool} {N u m : ℕ} {R : List (Parse Tree)} →
          governor P N u ≡ minimum m → has_mark book 2 N ≡ false →
          Runs P S m N u [] (false ∷ A) R B → newest B ≡ false → A' ≡ others B → Enters P S A N u R A'
      barren : {P : Path} {S : Sets} {A A' B : List Bool} {N u m : ℕ} {R : List (Parse Tree)} →
          governor P N u ≡ minimum m → has_mark book 2 N ≡ false →
          Runs P S m N u [] (false ∷ A) R B → R ≡ [] → A' ≡ others B → Enters P S A N u R A'
      -- it asked and found some: rounds
      grown : {P : Path} {S : Sets} {A A' B : List Bool} {N u m : ℕ} {R U : List (Parse Tree)} →
          governor P N u ≡ minimum m → has_mark book 2 N ≡ false →
          Runs P S m N u [] (false ∷ A) R B → Rounds P S m N u R B U A' → Enters P S A N u U A'

    -- one run of a call's variants, from a stored set of its own
    pub data Runs : Path → Sets → ℕ → ℕ → ℕ → List (Parse Tree) → List Bool → List
        (Parse Tree) → List Bool → Type 0 where
      runs : {P : Path} {S : Sets} {m N u : ℕ} {T R : List (Parse Tree)} {B B' : List Bool} →
          Variants (open' P S N u T) m (nth_nonterminal book N).count (nth_nonterminal book N).first B R B' →
          Runs P S m N u T B R B'

    -- the rounds after the first run, from a stored set
    pub data Rounds : Path → Sets → ℕ → ℕ → ℕ → List (Parse Tree) → List Bool → List
        (Parse Tree) → List Bool → Type 0 where
      last : {P : Path} {S : Sets} {m N u : ℕ} {T R U : List (Parse Tree)} {B B' A' : List Bool} →
          Runs P S m N u T B R B' → ((p : Parse Tree) → p ∈ R → p ∈ T) →
          U ≡ T → A' ≡ others B' → Rounds P S m N u T B U A'
      more : {P : Path} {S : Sets} {m N u : ℕ} {T R T₁ U : List (Parse Tree)} {B B' A' : List Bool} →
          Runs P S m N u T B R B' → Joins T R T₁ → Rounds P S m N u T₁ B' U A' → Rounds P S m N u T B U A'

    -- n variants from j on
    pub data Variants : Open → ℕ → ℕ → ℕ → List Bool → List (Parse Tree) → List Bool → Type 0 where
      no_more : {o : Open} {m j : ℕ} {B : List Bool} → Variants o m zero j B [] B
      too_low : {o : Open} {m n j : ℕ} {B B' : List Bool} {R : List (Parse Tree)} →
          leb m (nth_variant book j).level ≡ false → Variants o m n (suc j) B R B' →
          Variants o m (suc n) j B R B'
      taken : {o : Open} {m n j : ℕ} {B B₁ B' : List Bool} {R R₁ R₂ : List (Parse Tree)} →
          leb m (nth_variant book j).level ≡ true →
          Steps o j (todo_of book (nth_variant book j)) o.start no_trees B R₁ B₁ → Variants o m n (suc j) B₁ R₂ B' →
          Joins R₁ R₂ R → Variants o m (suc n) j B R B'

    -- what is left of variant j from a place, after these items
    pub data Steps : Open → ℕ → List (Todo Trees) → ℕ → Trees → List Bool → List (Parse Tree) → List Bool → Type 0 where
      s_done : {o : Open} {j x : ℕ} {items : Trees} {B : List Bool} {R : List (Parse Tree)} →
          R ≡ parse_of book j x items ∷ [] → Steps o j [] x items B R B
      s_nothing : {o : Open} {j x : ℕ} {s : Step} {rest : List (Todo Trees)} {items : Trees} {B : List Bool} →
          step_at book text (scope_of o.path) s x ≡ Taken.nothing → Steps o j (taking s ∷ rest) x items B [] B
      s_token : {o : Open} {j x : ℕ} {s : Step} {t : Token} {rest : List (Todo Trees)} {items : Trees}
          {B B' : List Bool} {R : List (Parse Tree)} → step_at book text (scope_of o.path) s x ≡ Taken.token t →
          Steps o j rest t.next (with_item text items t.item) B R B' → Steps o j (taking s ∷ rest) x items B R B'
      s_child : {o : Open} {j x M : ℕ} {s : Step} {rest : List (Todo Trees)} {items : Trees} {B B₁ B' : List Bool}
          {Q R : List (Parse Tree)} → step_at book text (scope_of o.path) s x ≡ Taken.child M →
          Enters (inside o j (skip_from text x)) (around o) B M (skip_from text x) Q B₁ →
          Each o j (plain rest items) Q B₁ R B' → Steps o j (taking s ∷ rest) x items B R B'
      s_optional : {o : Open} {j x M : ℕ} {s : Step} {rest : List (Todo Trees)} {items : Trees} {B B₁ B₂ B' : List Bool}
          {Q R R₁ R₂ : List (Parse Tree)} →
          step_at book text (scope_of o.path) s x ≡ Taken.optional M → Steps o j rest x (items ▸ absent) B R₁ B₁ →
          Enters (inside o j (skip_from text x)) (around o) B₁ M (skip_from text x) Q B₂ →
          Each o j (plain rest items) Q B₂ R₂ B' → Joins R₁ R₂ R → Steps o j (taking s ∷ rest) x items B R B'
      s_list : {o : Open} {j x y M : ℕ} {s : Step} {comma : Bool} {close : Option ℕ} {rest : List (Todo Trees)}
          {items : Trees} {B B' : List Bool} {R : List (Parse Tree)} →
          step_at book text (scope_of o.path) s x ≡ Taken.list comma M close y →
          Steps o j (elements comma M no_trees close ∷ rest) y items B R B' → Steps o j (taking s ∷ rest) x items B R B'
      s_unopened : {o : Open} {j x y : ℕ} {s : Step} {rest : List (Todo Trees)} {items : Trees} {B B' : List Bool}
          {R : List (Parse Tree)} → step_at book text (scope_of o.path) s x ≡ Taken.unopened y →
          Steps o j rest y (items ▸ list no_trees) B R B' → Steps o j (taking s ∷ rest) x items B R B'
      s_elements : {o : Open} {j x M : ℕ} {comma : Bool} {values : Trees} {close : Option ℕ} {rest : List (Todo Trees)}
          {items : Trees} {B B₁ B₂ B' : List Bool}
          {Q R R₁ R₂ : List (Parse Tree)} → Steps o j (ending values close ∷ rest) x items B R₁ B₁ →
          Enters (inside o j (skip_from text x)) (around o) B₁ M (skip_from text x) Q B₂ →
          Each o j (listing comma M values close rest items) Q B₂ R₂ B' → Joins R₁ R₂ R →
          Steps o j (elements comma M values close ∷ rest) x items B R B'
      s_unclosed : {o : Open} {j x : ℕ} {values : Trees} {close : Option ℕ} {rest : List (Todo Trees)} {items : Trees}
          {B : List Bool} → closed text close x ≡ None →
          Steps o j (ending values close ∷ rest) x items B [] B
      s_ending : {o : Open} {j x y : ℕ} {values : Trees} {close : Option ℕ} {rest : List (Todo Trees)} {items : Trees}
          {B B' : List Bool} {R : List (Parse Tree)} → closed text close x ≡ Some y →
          Steps o j rest y (items ▸ list values) B R B' → Steps o j (ending values close ∷ rest) x items B R B'
      s_names : {o : Open} {j x close M y : ℕ} {s : Step} {rest : List (Todo Trees)} {items : Trees}
          {B B' : List Bool} {R : List (Parse Tree)} →
          step_at book text (scope_of o.path) s x ≡ Taken.names close M y →
          Steps o j (naming [] no_trees close M ∷ rest) y items B R B' → Steps o j (taking s ∷ rest) x items B R B'
      s_body : {o : Open} {j x M : ℕ} {s : Step} {rest : List (Todo Trees)} {items : Trees} {B B₁ B' : List Bool}
          {Q R : List (Parse Tree)} → step_at book text (scope_of o.path) s x ≡ Taken.body M →
          Enters (inside o j (skip_from text x)) (around o) B M (skip_from text x) Q B₁ →
          Each o j (plain rest (items ▸ absent)) Q B₁ R B' → Steps o j (taking s ∷ rest) x items B R B'
      s_no_name : {o : Open} {j x close M : ℕ} {names : List Entry} {kinds : Trees} {rest : List (Todo Trees)}
          {items : Trees} {B B' : List Bool} {R : List (Parse Tree)} →
          declaration_at book text (skip_from text x) ≡ None →
          Steps o j (closing names kinds close M ∷ rest) x items B R B' →
          Steps o j (naming names kinds close M ∷ rest) x items B R B'
      s_name : {o : Open} {j x close M : ℕ} {names : List Entry} {kinds : Trees} {rest : List (Todo Trees)}
          {items : Trees} {d : Read Entry} {l : Left} {B B₁ B' : List Bool} {R R₁ R₂ : List (Parse Tree)} →
          declaration_at book text (skip_from text x) ≡ Some d →
          with_name (after_element text true d.end) d.value names kinds close M rest items ≡ l →
          Steps o j (closing names kinds close M ∷ rest) x items B R₁ B₁ →
          Steps o j l.todo l.place l.items B₁ R₂ B' → Joins R₁ R₂ R →
          Steps o j (naming names kinds close M ∷ rest) x items B R B'
      s_unopening : {o : Open} {j x close M : ℕ} {names : List Entry} {kinds : Trees} {rest : List (Todo Trees)}
          {items : Trees} {B : List Bool} → character_end text close x ≡ None →
          Steps o j (closing names kinds close M ∷ rest) x items B [] B
      s_opening : {o : Open} {j x y close M : ℕ} {names : List Entry} {kinds : Trees} {rest : List (Todo Trees)}
          {items : Trees} {B B₁ B' : List Bool} {Q R : List (Parse Tree)} → character_end text close x ≡ Some y →
          Enters (behind names ∷ inside o j (skip_from text y)) (around o) B M (skip_from text y) Q B₁ →
          Each o j (plain rest (items ▸ list kinds)) Q B₁ R B' →
          Steps o j (closing names kinds close M ∷ rest) x items B R B'

    -- what follows each parse of a child
    pub data Each : Open → ℕ → Follows → List (Parse Tree) → List Bool → List (Parse Tree) → List Bool → Type 0 where
      e_none : {o : Open} {j : ℕ} {c : Follows} {B : List Bool} → Each o j c [] B [] B
      e_one : {o : Open} {j : ℕ} {c : Follows} {q : Parse Tree} {Q : List (Parse Tree)} {B B₁ B' : List Bool}
          {R R₁ R₂ : List (Parse Tree)} → Steps o j (resume c q).todo (resume c q).place (resume c q).items B R₁ B₁ →
          Each o j c Q B₁ R₂ B' → Joins R₁ R₂ R → Each o j c (q ∷ Q) B R B'
