-- What has a derivation is found. By recursion on the height h of the derivation: suppose that calls find every
-- derivation of height at most h; take a call and a derivation of height at most h + 1. Its children are lower, so
-- their calls find them, and the steps go the derivation's way. Two places need the marks.
--   A child at its governor's own start is read from that governor's stored set. So the sets of the calls that are
--   marked in the end have to hold all of height at most h (Full below); marks only come, so what is asked for on the
--   way is marked in the end.
--   The call itself is such a governor. In its last round its stored set is its result, which holds all of height at
--   most h by the supposition, taken of this very call; and where there are no rounds, it was not asked, or its result
--   and its stored set are both empty. There is no recursion on the run: it is taken apart (TakenApart) along the
--   derivation.
use Rattle.std.specs.Prelude.{◌≡◌, refl, Bool, true, false, cond, List, [], ◌∷◌, ℕ, zero, suc, ◌+◌, ◌<◌, leb}
use Rattle.std.proofs.Common.{sym, ◌∙◌, ap, subst, arith}
use Rattle.std.proofs.lemmas.Bool.{false≢true}
use mathlib.Core.List.Memᴰ
use Rattle.std.specs.Prelude.{Option, None, Some}
use Rattle.characters.specs.Skipping.{skip_from}
use Rattle.book.specs.Book.{Entry, Book, nth_nonterminal, nth_variant}
use Rattle.semantics.specs.Values.{Tree, Trees, no_trees, ◌▸◌, list, Parse}
use Rattle.semantics.specs.Uses.{Use, within, behind, Path, behind_any, use_of, has_mark, Governor, minimum}
use Rattle.semantics.specs.Uses.{same_start, governor, keeps}
use Rattle.semantics.specs.Tokens.{Read, character_end, free_end, claimed, declaration_at}
use Rattle.semantics.specs.Steps.{After, after_element, Todo, naming, closing, todo_of}
use Rattle.semantics.specs.Derivations.{attempt}
use Rattle.semantics.specs.Run.{newest, others}
use Rattle.semantics.proofs.Theorem.Lists.{◌∈◌, sift_in, nth, flag, flag_ask, flag_newest, flag_others, Le}
use Rattle.semantics.proofs.Theorem.Lists.{le_then, only_in}
use Rattle.semantics.proofs.Theorem.BigStep.{Sets, Open, open', around, inside, Follows, plain, listing, Left}
use Rattle.semantics.proofs.Theorem.BigStep.{onward, resume, named, identifiers, Enters, again, identifier, quiet}
use Rattle.semantics.proofs.Theorem.BigStep.{barren, grown, Runs, runs, Variants, no_more, too_low, taken, Steps}
use Rattle.semantics.proofs.Theorem.BigStep.{with_name, Each, e_none, e_one}
use Rattle.semantics.proofs.Theorem.Heights.{Der, h_variant, h_governor, h_identifier, der_zero, raise, DThrough}
use Rattle.semantics.proofs.Theorem.Heights.{h_done, h_token, h_child, h_absent, h_one, h_list, h_unopened, h_stop}
use Rattle.semantics.proofs.Theorem.Heights.{h_more, h_last, h_ending, h_names, h_body, h_no_name, h_name}
use Rattle.semantics.proofs.Theorem.Heights.{h_last_name, h_opening}
use Rattle.semantics.proofs.Theorem.Sound.{At, here, there, past, gov_at}
use Rattle.semantics.proofs.Theorem.Marks.{m_enters, m_variants, m_steps, m_each}
use Rattle.semantics.proofs.Theorem.TakenApart.{Child, Choice, inv_done, inv_elements, Naming, Named, inv_naming}
use Rattle.semantics.proofs.Theorem.TakenApart.{Opened, inv_closing, ran, ended, final}

-- a mark-2 nonterminal has no variants: the run reads an identifier for it, and tries no variant
abbrev pub PlainBook : Book → Type 0
PlainBook book = (N : ℕ) → has_mark book 2 N ≡ true → (nth_nonterminal book N).count ≡ 0

module _ (book : Book) (text : List ℕ) where
  -- ---- Full stored sets
  -- a set holds all parses of a use up to a height
  abbrev pub HoldsAll : ℕ → Path → ℕ → ℕ → List (Parse Tree) → Type 0
  HoldsAll h P N u T = (p : Parse Tree) → Der book text h P N u p → p ∈ T

  -- the stored set of each open call that is marked does, of that call's use
  pub record Full (h : ℕ) (P : Path) (S : Sets) (A : List Bool) : Type 0 where
    pub holds : (i : ℕ) (f : Use) (Q : Path) → At P i f Q → flag A i ≡ true →
        HoldsAll h Q f.nonterminal f.start (nth S i)

  -- the same inside an open call, whatever its variant and the place of its child
  record FullIn (h : ℕ) (o : Open) (B : List Bool) : Type 0 where
    inner : (j x : ℕ) → Full h (inside book text o j x) (around o) B

  full_le : {h : ℕ} {P : Path} {S : Sets} {A B : List Bool} → Le A B → Full h P S B → Full h P S A
  full_le l F = record { holds = λ i f Q a e p d. F.holds i f Q a (l.of i e) p d }

  in_le : {h : ℕ} {o : Open} {A B : List Bool} → Le A B → FullIn h o B → FullIn h o A
  in_le l F = record { inner = λ j x. full_le l (F.inner j x) }

  -- behind an opening the calls around are the same
  full_behind : {h : ℕ} (opening : Option (List Entry)) {P : Path} {S : Sets} {A : List Bool} → Full h P S A →
      Full h (behind_any opening P) S A
  full_behind None F = F
  full_behind {h} (Some names) {P} {S} {A} F = record { holds = behind_holds }
    where
      behind_holds : (i : ℕ) (f : Use) (Q : Path) → At (behind names ∷ P) i f Q → flag A i ≡ true →
          HoldsAll h Q f.nonterminal f.start (nth S i)
      behind_holds i f Q (past a) e = F.holds i f Q a e

  full_down : {h : ℕ} {P : Path} {S : Sets} {A : List Bool} → Full (suc h) P S A → Full h P S A
  full_down {h} F = record { holds = λ i f Q a e p d. F.holds i f Q a e p (raise book text d (suc h) (omega arith)) }

  -- the newest mark is the open call's own, the others are of the calls around it
  own_holds : {h : ℕ} (P : Path) (S : Sets) (N u : ℕ) (T : List (Parse Tree)) (B : List Bool) →
      (newest B ≡ true → HoldsAll h P N u T) → Full h P S (others B) →
      (j x i : ℕ) (f : Use) (Q : Path) → At (within (use_of book N u j x) ∷ P) i f Q → flag B i ≡ true →
      HoldsAll h Q f.nonterminal f.start (nth (T ∷ S) i)
  own_holds P S N u T B t F j x zero f Q here e p d = t (sym (flag_newest B) ∙ e) p d
  own_holds P S N u T B t F j x (suc i) f Q (there a) e p d = F.holds i f Q a (sym (flag_others B i) ∙ e) p d

  own_full : {h : ℕ} (P : Path) (S : Sets) (N u : ℕ) (T : List (Parse Tree)) (B : List Bool) →
      (newest B ≡ true → HoldsAll h P N u T) → Full h P S (others B) →
      FullIn h (open' P S N u T) B
  own_full P S N u T B t F = record { inner = λ j x. record { holds = own_holds P S N u T B t F j x } }

  -- ---- Governors: what a derivation knows of its use's governor, and what the run knows
  abbrev IsSameStart : Governor → Type 0
  IsSameStart (minimum m) = ⊥
  IsSameStart (same_start i f Q) = Unit {0}

  not_both : {g : Governor} {m i : ℕ} {f : Use} {Q : Path} → g ≡ minimum m → g ≡ same_start i f Q → ⊥
  not_both e e' = subst IsSameStart (sym e' ∙ e) tt

  abbrev minimum_in : Governor → ℕ
  minimum_in (minimum m) = m
  minimum_in (same_start i f Q) = zero

  -- what a governor at its own start hands over
  abbrev Handed : ℕ → Parse Tree → Governor → Type 0
  Handed h p (minimum m) = Unit {0}
  Handed h p (same_start i f Q) = Der book text h Q f.nonterminal f.start p × (keeps f p ≡ true)

  handed : {h : ℕ} (P : Path) (N u : ℕ) {i : ℕ} {f : Use} {Q : Path} {p : Parse Tree} →
      governor P N u ≡ same_start i f Q → Der book text (suc h) P N u p → Handed h p (same_start i f Q)
  handed P N u e (h_variant e' l high t) = absurd (not_both e' e)
  handed {h} P N u {p = p} e (h_governor e' d k) = subst (Handed h p) (sym e' ∙ e) (d, k)
  handed P N u e (h_identifier e' k c f v) = absurd (not_both e' e)

  -- ---- Mark-2 uses
  named_in : (P : Path) (u : ℕ) {end : ℕ} {p : Parse Tree} → claimed book text P u ≡ false →
      free_end book text u ≡ Some end → p ∈ named book text (Some end) u → p ∈ identifiers book text P u
  named_in P u {p = p} c e m =
      subst (λ b. p ∈ cond b [] (named book text (free_end book text u) u)) (sym c)
      (subst (λ z. p ∈ named book text z u) (sym e) m)

  identified : {h : ℕ} (P : Path) (N u : ℕ) {m : ℕ} {p : Parse Tree} → PlainBook book →
      governor P N u ≡ minimum m → has_mark book 2 N ≡ true →
      Der book text (suc h) P N u p → p ∈ identifiers book text P u
  identified P N u plain_book e k (h_variant e' l high t) = absurd (omega (arith, l, plain_book N k))
  identified P N u plain_book e k (h_governor e' d s) = absurd (not_both e e')
  identified P N u plain_book e k (h_identifier e' k' c f v) = named_in P u c f (Memᴰ.head v)

  -- ---- One height more
  -- every call finds what has a derivation of at most a height
  abbrev pub Complete : ℕ → Type 0
  Complete h =
      (P : Path) (S : Sets) (A : List Bool) (N u : ℕ) (R : List (Parse Tree)) (A' : List Bool) →
      Enters book text P S A N u R A' → Full h P S A' → HoldsAll h P N u R

  -- every run of what is left to do finds a parse
  abbrev Finds : ℕ → Open → ℕ → List (Todo Trees) → ℕ → Trees → Parse Tree → Type 0
  Finds h o j todo x items p =
      (B : List Bool) (R : List (Parse Tree)) (B' : List Bool) →
      Steps book text o j todo x items B R B' → FullIn h o B' → p ∈ R

  abbrev FindsLeft : ℕ → Open → ℕ → Left → Parse Tree → Type 0
  FindsLeft h o j l p = Finds h o j l.todo l.place l.items p

  module _ (h : ℕ) (below : Complete h) where
    c_each : {o : Open} {j : ℕ} {c : Follows} {Q : List (Parse Tree)} {B : List Bool} {R : List (Parse Tree)}
        {B' : List Bool} → Each book text o j c Q B R B' → FullIn h o B' → {q p : Parse Tree} → q ∈ Q →
        FindsLeft h o j (resume book text c q) p → p ∈ R
    c_each e_none F m k = absurd (Memᴰ.not-nil m)
    c_each (e_one {o} {j} {c} {B = B} {B₁ = B₁} {R₁ = R₁} s es u) F {q} {p} (Memᴰ.head e) k =
        u.first p
        ((subst (λ (z : Parse Tree). FindsLeft h o j (resume book text c z) p) e k) B R₁ B₁ s
        (in_le (m_each book text es) F))
    c_each (e_one s es u) F {q} {p} (Memᴰ.tail m) k = u.second p (c_each es F m k)

    child_ok : {o : Open} {j : ℕ} {c : Follows} {M x : ℕ} {B : List Bool} {R : List (Parse Tree)} {B' : List Bool}
        {q p : Parse Tree} (opening : Option (List Entry)) →
        Der book text h (behind_any opening (inside book text o j (skip_from text x))) M (skip_from text x) q →
        FindsLeft h o j (resume book text c q) p → Child book text opening o j c M x B R B' → FullIn h o B' → p ∈ R
    child_ok {o} {j} {M = M} {x = x} {B = B} {q = q} opening d k y F =
        let F' = full_behind opening (full_le (m_each book text y.each) (F.inner j (skip_from text x))) in
        c_each y.each F
        (below (behind_any opening (inside book text o j (skip_from text x))) (around o) B M (skip_from text x) y.Q
        y.B₁ y.entered F' q d) k

    without_ok : {o : Open} {j : ℕ} {todo : List (Todo Trees)} {items : Trees} {c : Follows} {M x : ℕ} {B : List Bool}
        {R : List (Parse Tree)} {B' : List Bool}
        {p : Parse Tree} → Finds h o j todo x items p → Choice book text o j todo items c M x B R B' → FullIn h o B' →
        p ∈ R
    without_ok {B = B} {p = p} k y F =
        let l = le_then (m_enters book text y.with'.entered) (m_each book text y.with'.each) in
        y.joins.first p (k B y.R₁ y.B₁ y.without (in_le l F))

    with_ok : {o : Open} {j : ℕ} {todo : List (Todo Trees)} {items : Trees} {c : Follows} {M x : ℕ} {B : List Bool}
        {R : List (Parse Tree)} {B' : List Bool}
        {q p : Parse Tree} → Der book text h (inside book text o j (skip_from text x)) M (skip_from text x) q →
        FindsLeft h o j (resume book text c q) p → Choice book text o j todo items c M x B R B' → FullIn h o B' → p ∈ R
    with_ok {p = p} d k y F = y.joins.second p (child_ok None d k y.with' F)

    -- a binder's names, without one more
    no_name_ok : {o : Open} {j : ℕ} {names : List Entry} {kinds : Trees} {close M : ℕ} {rest : List (Todo Trees)}
        {x : ℕ} {items : Trees} {B : List Bool} {R : List (Parse Tree)} {B' : List Bool} {p : Parse Tree} →
        Finds h o j (closing names kinds close M ∷ rest) x items p →
        Steps book text o j (naming names kinds close M ∷ rest) x items B R B' → FullIn h o B' → p ∈ R
    no_name_ok {o} {j} {names} {kinds} {close} {M} {rest} {x} {items} {B} {R} {B'} {p} k s F =
        by (declaration_at book text (skip_from text x)) (inv_naming book text s)
      where
        by : (d : Option (Read Entry)) → Named book text o j names kinds close M rest x items B R B' d → p ∈ R
        by None y = k B R B' y F
        by (Some d) y = y.joins.first p (k B y.R₁ y.B₁ y.without (in_le (m_steps book text y.with') F))

    -- a name that stands there, where it is known whether the names go on
    name_ok : {o : Open} {j : ℕ} {names : List Entry} {kinds : Trees} {close M : ℕ} {rest : List (Todo Trees)}
        {x : ℕ} {items : Trees} {B : List Bool} {R : List (Parse Tree)} {B' : List Bool} {p : Parse Tree}
        {d : Read Entry} {z : After} → declaration_at book text (skip_from text x) ≡ Some d →
        after_element text true d.end ≡ z →
        FindsLeft h o j (with_name book text z d.value names kinds close M rest items) p →
        Steps book text o j (naming names kinds close M ∷ rest) x items B R B' → FullIn h o B' → p ∈ R
    name_ok {o} {j} {names} {kinds} {close} {M} {rest} {x} {items} {B} {R} {B'} {p} {d} e g k s F =
        let y : Naming book text o j names kinds close M rest x items B R B' d =
        subst (Named book text o j names kinds close M rest x items B R B') e (inv_naming book text s) in
        let here = ap (λ w. with_name book text w d.value names kinds close M rest items) (sym g) ∙ y.is in
        y.joins.second p ((subst (λ l. FindsLeft h o j l p) here k) y.B₁ y.R₂ B' y.with' F)

    -- the body behind a closing that stands there
    opening_ok : {o : Open} {j : ℕ} {names : List Entry} {kinds : Trees} {close M : ℕ} {rest : List (Todo Trees)}
        {x y : ℕ} {items : Trees} {B : List Bool} {R : List (Parse Tree)} {B' : List Bool} {q p : Parse Tree} →
        character_end text close x ≡ Some y →
        Der book text h (behind names ∷ inside book text o j (skip_from text y)) M (skip_from text y) q →
        FindsLeft h o j (resume book text (plain rest (items ▸ list kinds)) q) p →
        Steps book text o j (closing names kinds close M ∷ rest) x items B R B' → FullIn h o B' → p ∈ R
    opening_ok {o} {j} {names} {kinds} {close} {M} {rest} {items = items} {B = B} {R = R} {B' = B'} e d k s F =
        child_ok (Some names) d k (subst (Opened book text o j names kinds M rest items B R B') e
        (inv_closing book text s)) F

    -- an element of a list, where it is known whether the list goes on
    element_ok : {o : Open} {j : ℕ} {comma : Bool} {M : ℕ} {values : Trees} {close : Option ℕ}
        {rest todo : List (Todo Trees)} {x : ℕ} {items : Trees}
        {B : List Bool} {R : List (Parse Tree)} {B' : List Bool} {q p : Parse Tree} {z : After} →
        Der book text h (inside book text o j (skip_from text x)) M (skip_from text x) q →
        after_element text comma q.rest ≡ z →
        FindsLeft h o j (onward book text z q.value comma M values close rest items) p →
        Choice book text o j todo items (listing comma M values close rest items) M x B R B' → FullIn h o B' → p ∈ R
    element_ok {o} {j} {comma} {M} {values} {close} {rest} {items = items} {q = q} {p = p} d e k y F =
        with_ok d
        (subst (λ z. FindsLeft h o j (onward book text z q.value comma M values close rest items) p) (sym e) k) y F

    c_steps : {P : Path} {N u j : ℕ} {todo : List (Todo Trees)} {x : ℕ} {items : Trees} {p : Parse Tree} →
        DThrough book text h (attempt P N u j p) todo x items →
        (S : Sets) (T : List (Parse Tree)) → Finds h (open' P S N u T) j todo x items p
    c_steps (h_done e) S T = λ B R B' s F. only_in (inv_done book text s) e
    c_steps (h_token e t) S T = λ B R B' s F. c_steps t S T B R B' (ran book text e s) F
    c_steps (h_child e d t) S T = λ B R B' s F. child_ok None d (c_steps t S T) (ran book text e s) F
    c_steps (h_absent e t) S T = λ B R B' s F. without_ok (c_steps t S T) (ran book text e s) F
    c_steps (h_one e d t) S T = λ B R B' s F. with_ok d (c_steps t S T) (ran book text e s) F
    c_steps (h_list e t) S T = λ B R B' s F. c_steps t S T B R B' (ran book text e s) F
    c_steps (h_unopened e t) S T = λ B R B' s F. c_steps t S T B R B' (ran book text e s) F
    c_steps (h_stop t) S T = λ B R B' s F. without_ok (c_steps t S T) (inv_elements book text s) F
    c_steps (h_more d e t) S T = λ B R B' s F. element_ok d e (c_steps t S T) (inv_elements book text s) F
    c_steps (h_last d e t) S T = λ B R B' s F. element_ok d e (c_steps t S T) (inv_elements book text s) F
    c_steps (h_ending e t) S T = λ B R B' s F. c_steps t S T B R B' (ended book text e s) F
    c_steps (h_names e t) S T = λ B R B' s F. c_steps t S T B R B' (ran book text e s) F
    c_steps (h_body e d t) S T = λ B R B' s F. child_ok None d (c_steps t S T) (ran book text e s) F
    c_steps (h_no_name t) S T = λ B R B' s F. no_name_ok (c_steps t S T) s F
    c_steps (h_name e g t) S T = λ B R B' s F. name_ok e g (c_steps t S T) s F
    c_steps (h_last_name e g t) S T = λ B R B' s F. name_ok e g (c_steps t S T) s F
    c_steps (h_opening e d t) S T = λ B R B' s F. opening_ok e d (c_steps t S T) s F

    -- variant k, number i of n from j on, is among those tried
    c_variants : {o : Open} {m n j : ℕ} {B : List Bool} {R : List (Parse Tree)} {B' : List Bool} →
        Variants book text o m n j B R B' → FullIn h o B' →
        (i k : ℕ) → i < n → k ≡ j + i → leb m (nth_variant book k).level ≡ true → (p : Parse Tree) →
        DThrough book text h (attempt o.path o.nonterminal o.start k p) (todo_of book (nth_variant book k))
        o.start no_trees → p ∈ R
    c_variants no_more F i k l e high p d = absurd (omega arith)
    c_variants (too_low {m = m} {j = j} low v) F zero k l e high p d =
        let same : k ≡ j = omega (arith, e) in
        absurd (false≢true (sym low ∙ ap (λ z. leb m (nth_variant book z).level) (sym same) ∙ high))
    c_variants (too_low low v) F (suc i) k l e high p d = c_variants v F i k (omega arith) (omega (arith, e)) high p d
    c_variants (taken {o} {j = j} {B = B} {B₁ = B₁} {R₁ = R₁} high' s v u) F zero k l e high p d =
        let same : k ≡ j = omega (arith, e) in
        let s' =
        subst (λ z. Steps book text o z (todo_of book (nth_variant book z)) o.start no_trees B R₁ B₁) (sym same) s in
        u.first p (c_steps d o.sets o.mine B R₁ B₁ s' (in_le (m_variants book text v) F))
    c_variants (taken high' s v u) F (suc i) k l e high p d =
        u.second p (c_variants v F i k (omega arith) (omega (arith, e)) high p d)

    c_runs : {P : Path} {S : Sets} {m N u : ℕ} {T : List (Parse Tree)} {B : List Bool} {R : List (Parse Tree)}
        {B' : List Bool} → Runs book text P S m N u T B R B' → FullIn h (open' P S N u T) B' → (i k : ℕ) →
        i < (nth_nonterminal book N).count →
        k ≡ (nth_nonterminal book N).first + i → leb m (nth_variant book k).level ≡ true → (p : Parse Tree) →
        DThrough book text h (attempt P N u k p) (todo_of book (nth_variant book k)) u no_trees → p ∈ R
    c_runs (runs v) F i k l e high p d = c_variants v F i k l e high p d

    -- a run of a call's variants finds what is one higher, by a variant: the use has no other governor and is no mark-2
    -- use
    by_run : {P : Path} {S : Sets} {m N u : ℕ} {T : List (Parse Tree)} {B : List Bool} {R : List (Parse Tree)}
        {B' : List Bool} → governor P N u ≡ minimum m → has_mark book 2 N ≡ false →
        Runs book text P S m N u T B R B' → FullIn h (open' P S N u T) B' → HoldsAll (suc h) P N u R
    by_run {N = N} e k v F p (h_variant {i = i} e' l high t) =
        let first = (nth_nonterminal book N).first in
        c_runs v F i (first + i) l refl
        (subst (λ z. leb z (nth_variant book (first + i)).level ≡ true) (ap minimum_in (sym e' ∙ e)) high) p t
    by_run e k v F p (h_governor e' d s) = absurd (not_both e e')
    by_run e k v F p (h_identifier e' k' c f w) = absurd (false≢true (sym k ∙ k'))

    c_next : PlainBook book → (P : Path) (S : Sets) (A : List Bool) (N u : ℕ) (R : List (Parse Tree)) (A' : List Bool) →
        Enters book text P S A N u R A' → Full h P S A' → HoldsAll (suc h) P N u R
    c_next plain_book P S A N u R A' (again {Q = Q} {i = i} {f = f} g r a) F p d =
        let y = handed P N u g d in
        let marked = subst (λ B. flag B i ≡ true) (sym a) (flag_ask A i) in
        subst (λ l. p ∈ l) (sym r) (sift_in (keeps f) (F.holds i f Q (gov_at P N u g) marked p y.0) y.1)
    c_next plain_book P S A N u R A' (identifier g k r a) F p d =
        subst (λ l. p ∈ l) (sym r) (identified P N u plain_book g k d)
    c_next plain_book P S A N u R A' (quiet {B = B} g k v b a) F p d =
        by_run g k v (own_full P S N u [] B (λ t. absurd (false≢true (sym b ∙ t))) (subst (Full h P S) a F)) p d
    c_next plain_book P S A N u R A' (barren {B = B} g k v r a) F p d =
        let empty : HoldsAll h P N u [] = subst (HoldsAll h P N u) r (below P S A N u R A' (barren g k v r a) F) in
        by_run g k v (own_full P S N u [] B (λ t. empty) (subst (Full h P S) a F)) p d
    c_next plain_book P S A N u U A' (grown g k v rs) F p d =
        let z = final book text rs in
        z.sub p (by_run g k z.run
        (own_full P S N u U z.B' (λ t. below P S A N u U A' (grown g k v rs) F) (subst (Full h P S) z.marks F)) p
        d)

  pub complete : PlainBook book → (h : ℕ) → Complete h
  complete plain_book zero P S A N u R A' c F p d = absurd (der_zero book text d)
  complete plain_book (suc h) P S A N u R A' c F p d =
      c_next h (complete plain_book h) plain_book P S A N u R A' c (full_down F) p d
