-- What the run finds has a derivation. Recursion on the run: a call finds parses of its use if the stored sets of the
-- open calls around it hold parses of theirs, and in each of its rounds the call's own stored set does too. Of the
-- governor this takes one fact: it stands in the path.
use Rattle.std.specs.Prelude.{◌≡◌, refl, Bool, true, false, cond, ◌&&◌, List, [], ◌∷◌, ℕ, zero, suc, ◌+◌, ◌<◌, leb, eqb}
use Rattle.std.proofs.Common.{sym, subst, arith}
use mathlib.Core.List.Memᴰ
use Rattle.std.specs.Prelude.{Option, None, Some}
use Rattle.characters.specs.Skipping.{skip_from}
use Rattle.book.specs.Book.{Entry, Book, nth_nonterminal, nth_variant}
use Rattle.semantics.specs.Values.{Tree, Trees, no_trees, Parse}
use Rattle.semantics.specs.Uses.{Use, Path, within, behind, use_of, has_mark, Governor, minimum, same_start}
use Rattle.semantics.specs.Uses.{outwards, govern, governor, keeps}
use Rattle.semantics.specs.Tokens.{Read, free_end, claimed, declaration_at}
use Rattle.semantics.specs.Steps.{After, goes, halts, after_element, Todo, elements, naming, todo_of}
use Rattle.semantics.specs.Derivations.{attempt, Derives, by_variant, by_governor, by_identifier}
use Rattle.semantics.specs.Derivations.{Through, done, by_token, by_child, by_absent, by_one, by_list}
use Rattle.semantics.specs.Derivations.{by_unopened, by_stop, by_more, by_last, by_ending}
use Rattle.semantics.specs.Derivations.{by_names, by_body, by_no_name, by_name, by_last_name, by_opening}
use Rattle.semantics.proofs.Theorem.Lists.{◌∈◌, sift_out, nth, only, either}
use Rattle.semantics.proofs.Theorem.BigStep.{Sets, Open, open', around, inside, Follows, Left, onward, resume}
use Rattle.semantics.proofs.Theorem.BigStep.{named}
use Rattle.semantics.proofs.Theorem.BigStep.{Enters, again, identifier, quiet, barren, grown, Runs, runs, Rounds}
use Rattle.semantics.proofs.Theorem.BigStep.{last, more, Variants, no_more, too_low, taken}
use Rattle.semantics.proofs.Theorem.BigStep.{Steps, s_done, s_nothing, s_token, s_child, s_optional, s_list}
use Rattle.semantics.proofs.Theorem.BigStep.{s_unopened, s_elements, s_unclosed, s_ending}
use Rattle.semantics.proofs.Theorem.BigStep.{s_names, s_body, s_no_name, s_name, s_unopening, s_opening, with_name}
use Rattle.semantics.proofs.Theorem.BigStep.{Each, e_none, e_one}

-- ---- A governor stands in the path
-- use number i of a path, and its own path
pub data At : Path → ℕ → Use → Path → Type 0 where
  here : {f : Use} {P : Path} → At (within f ∷ P) zero f P
  there : {f g : Use} {P Q : Path} {i : ℕ} → At P i f Q → At (within g ∷ P) (suc i) f Q
  past : {f : Use} {names : List Entry} {P Q : Path} {i : ℕ} → At P i f Q → At (behind names ∷ P) i f Q

-- a governor at its own start does
abbrev Stands : Path → Governor → Type 0
Stands P (minimum m) = Unit {0}
Stands P (same_start i f Q) = At P i f Q

outwards_stands : (f : Use) (P : Path) (g : Governor) → Stands P g → Stands (within f ∷ P) (outwards g)
unfolding outwards
outwards_stands f P (minimum m) a = tt
outwards_stands f P (same_start i f' Q) a = there a

govern_stands : (a b : Bool) (f : Use) (P : Path) (g : Governor) → Stands P g → Stands (within f ∷ P) (govern a b f P g)
unfolding govern
govern_stands true true f P g h = here
govern_stands true false f P g h = tt
govern_stands false b f P g h = outwards_stands f P g h

governor_stands : (P : Path) (N u : ℕ) → Stands P (governor P N u)
unfolding governor
governor_stands [] N u = tt
governor_stands (behind names ∷ P) N u = tt
governor_stands (within f ∷ P) N u =
    govern_stands (eqb f.nonterminal N && eqb f.child u) (eqb f.start u) f P (governor P N u)
    (governor_stands P N u)

pub gov_at : (P : Path) (N u : ℕ) {i : ℕ} {f : Use} {Q : Path} → governor P N u ≡ same_start i f Q → At P i f Q
gov_at P N u e = subst (Stands P) e (governor_stands P N u)

module _ (book : Book) (text : List ℕ) where
  -- ---- The stored sets
  -- those of the calls around hold parses of these calls' uses
  abbrev pub Truthful : Path → Sets → Type 0
  Truthful P S =
      (i : ℕ) (f : Use) (Q : Path) → At P i f Q → (p : Parse Tree) → p ∈ nth S i →
      Derives book text Q f.nonterminal f.start p

  -- a call's own does
  abbrev pub Mine : Open → Type 0
  Mine o = (p : Parse Tree) → p ∈ o.mine → Derives book text o.path o.nonterminal o.start p

  truthful : (o : Open) (j x : ℕ) → Truthful o.path o.sets → Mine o → Truthful (inside book text o j x) (around o)
  truthful o j x h t zero f Q here p m = t p m
  truthful o j x h t (suc i) f Q (there a) p m = h i f Q a p m

  -- behind an opening the calls around are the same
  truthful_behind : (names : List Entry) (P : Path) (S : Sets) → Truthful P S → Truthful (behind names ∷ P) S
  truthful_behind names P S h i f Q (past a) p m = h i f Q a p m

  nothing_stored : (P : Path) (S : Sets) (N u : ℕ) → Mine (open' P S N u [])
  nothing_stored P S N u p m = absurd (Memᴰ.not-nil m)

  -- ---- What a use finds
  -- one of n variants from j on, and a way through it
  record Way (o : Open) (m n j : ℕ) (p : Parse Tree) : Type 0 where
    i : ℕ
    k : ℕ
    below : i < n
    is : k ≡ j + i
    high : leb m (nth_variant book k).level ≡ true
    way : Through book text (attempt o.path o.nonterminal o.start k p)
        (todo_of book (nth_variant book k)) o.start no_trees

  way_first : {o : Open} {m n j : ℕ} {p : Parse Tree} → leb m (nth_variant book j).level ≡ true →
      Through book text (attempt o.path o.nonterminal o.start j p) (todo_of book (nth_variant book j)) o.start
      no_trees → Way o m (suc n) j p
  way_first {j = j} e t = record { i = zero; k = j; below = omega arith; is = omega arith; high = e; way = t }

  way_later : {o : Open} {m n j : ℕ} {p : Parse Tree} → Way o m n (suc j) p → Way o m (suc n) j p
  way_later w = record {
    i = suc w.i;
    k = w.k;
    below = omega (arith, w.below);
    is = omega (arith, w.is);
    high = w.high;
    way = w.way;
  }

  by_way : {P : Path} {S : Sets} {N u m : ℕ} {T : List (Parse Tree)} {p : Parse Tree} →
      governor P N u ≡ minimum m →
      Way (open' P S N u T) m (nth_nonterminal book N).count (nth_nonterminal book N).first p →
      Derives book text P N u p
  by_way {P} {N = N} {u = u} {m = m} {p = p} e w =
      by_variant e w.below (subst (λ k. leb m (nth_variant book k).level ≡ true) w.is w.high)
      (subst (λ k. Through book text (attempt P N u k p) (todo_of book (nth_variant book k)) u no_trees) w.is w.way)

  by_named : {P : Path} {N u m : ℕ} {p : Parse Tree} → governor P N u ≡ minimum m → has_mark book 2 N ≡ true →
      (b : Bool) → claimed book text P u ≡ b →
      (end : Option ℕ) → free_end book text u ≡ end → p ∈ cond b [] (named book text end u) → Derives book text P N u p
  by_named g k true c end e m = absurd (Memᴰ.not-nil m)
  by_named g k false c None e m = absurd (Memᴰ.not-nil m)
  by_named g k false c (Some end) e m = by_identifier g k c e (Memᴰ.eq_of_singleton m)

  -- ---- What follows a child
  -- what is left to do has a parse
  abbrev ThroughLeft : Path → ℕ → ℕ → ℕ → Left → Parse Tree → Type 0
  ThroughLeft P N u j l p = Through book text (attempt P N u j p) l.todo l.place l.items

  -- one of a child's parses, and what follows it
  record Followed (o : Open) (j : ℕ) (c : Follows) (Q : List (Parse Tree)) (p : Parse Tree) : Type 0 where
    q : Parse Tree
    found : q ∈ Q
    way : ThroughLeft o.path o.nonterminal o.start j (resume book text c q) p

  followed_later : {o : Open} {j : ℕ} {c : Follows} {q : Parse Tree} {Q : List (Parse Tree)} {p : Parse Tree} →
      Followed o j c Q p → Followed o j c (q ∷ Q) p
  followed_later f = record { q = f.q; found = Memᴰ.tail f.found; way = f.way }

  after_element_lem : {P : Path} {N u j x M : ℕ} {comma : Bool} {values : Trees} {close : Option ℕ} {q p : Parse Tree}
      {rest : List (Todo Trees)} {items : Trees} →
      Derives book text (within (use_of book N u j (skip_from text x)) ∷ P) M (skip_from text x) q → (z : After) →
      after_element text comma q.rest ≡ z →
      ThroughLeft P N u j (onward book text z q.value comma M values close rest items) p →
      Through book text (attempt P N u j p) (elements comma M values close ∷ rest) x items
  after_element_lem d (goes y) e t = by_more d e t
  after_element_lem d (halts y) e t = by_last d e t

  after_name_lem : {P : Path} {N u j x : ℕ} {d : Read Entry} {names : List Entry} {kinds : Trees} {close M : ℕ}
      {p : Parse Tree} {rest : List (Todo Trees)} {items : Trees} →
      declaration_at book text (skip_from text x) ≡ Some d → (z : After) → after_element text true d.end ≡ z →
      ThroughLeft P N u j (with_name book text z d.value names kinds close M rest items) p →
      Through book text (attempt P N u j p) (naming names kinds close M ∷ rest) x items
  after_name_lem e (goes y) g t = by_name e g t
  after_name_lem e (halts y) g t = by_last_name e g t

  mutual
    pub s_enters : {P : Path} {S : Sets} {A : List Bool} {N u : ℕ} {R : List (Parse Tree)} {A' : List Bool} →
        Enters book text P S A N u R A' → Truthful P S → (p : Parse Tree) → p ∈ R → Derives book text P N u p
    s_enters (again {P} {Q} {S} {N = N} {u = u} {i = i} {f = f} g r a) h p m =
        let n = sift_out (keeps f) (nth S i) (subst (λ l. p ∈ l) r m) in
        by_governor g (h i f Q (gov_at P N u g) p n.0) n.1
    s_enters (identifier {P} {u = u} g k r a) h p m =
        by_named g k (claimed book text P u) refl (free_end book text u) refl (subst (λ l. p ∈ l) r m)
    s_enters (quiet {P} {S} {N = N} {u = u} g k v b a) h p m = s_runs v g h (nothing_stored P S N u) p m
    s_enters (barren {P} {S} {N = N} {u = u} g k v r a) h p m = s_runs v g h (nothing_stored P S N u) p m
    s_enters (grown {P} {S} {N = N} {u = u} g k v rs) h p m =
        s_rounds rs g h (λ q n. s_runs v g h (nothing_stored P S N u) q n) p m

    s_runs : {P : Path} {S : Sets} {m N u : ℕ} {T : List (Parse Tree)} {B : List Bool}
        {R : List (Parse Tree)} {B' : List Bool} →
        Runs book text P S m N u T B R B' → governor P N u ≡ minimum m → Truthful P S → Mine (open' P S N u T) →
        (p : Parse Tree) → p ∈ R → Derives book text P N u p
    s_runs (runs v) g h t p m = by_way g (s_variants v h t p m)

    s_rounds : {P : Path} {S : Sets} {m N u : ℕ} {T : List (Parse Tree)} {B : List Bool}
        {U : List (Parse Tree)} {A' : List Bool} →
        Rounds book text P S m N u T B U A' → governor P N u ≡ minimum m → Truthful P S → Mine (open' P S N u T) →
        (p : Parse Tree) → p ∈ U → Derives book text P N u p
    s_rounds (last v sub e a) g h t p m = t p (subst (λ l. p ∈ l) e m)
    s_rounds (more v j rs) g h t p m =
        s_rounds rs g h (λ q n. either (j.out q n) (λ l. t q l) (λ l. s_runs v g h t q l)) p m

    s_variants : {o : Open} {m n j : ℕ} {B : List Bool} {R : List (Parse Tree)} {B' : List Bool} →
        Variants book text o m n j B R B' →
        Truthful o.path o.sets → Mine o → (p : Parse Tree) → p ∈ R → Way o m n j p
    s_variants no_more h t p m = absurd (Memᴰ.not-nil m)
    s_variants (too_low low v) h t p m = way_later (s_variants v h t p m)
    s_variants (taken high s v j) h t p m =
        either (j.out p m) (λ n. way_first high (s_steps s h t p n)) (λ n. way_later (s_variants v h t p n))

    s_steps : {o : Open} {j : ℕ} {todo : List (Todo Trees)} {x : ℕ} {items : Trees} {B : List Bool}
        {R : List (Parse Tree)} {B' : List Bool} →
        Steps book text o j todo x items B R B' → Truthful o.path o.sets → Mine o → (p : Parse Tree) → p ∈ R →
        Through book text (attempt o.path o.nonterminal o.start j p) todo x items
    s_steps (s_done r) h t p m = done (only r m)
    s_steps (s_nothing e) h t p m = absurd (Memᴰ.not-nil m)
    s_steps (s_token e s) h t p m = by_token e (s_steps s h t p m)
    s_steps (s_child {o} {j} {x} e c es) h t p m =
        let f = s_each es h t p m in
        by_child e (s_enters c (truthful o j (skip_from text x) h t) f.q f.found) f.way
    s_steps (s_optional {o} {j} {x} e s c es u) h t p m =
        either (u.out p m) (λ n. by_absent e (s_steps s h t p n)) (λ n.
        let f = s_each es h t p n in
        by_one e (s_enters c (truthful o j (skip_from text x) h t) f.q f.found) f.way)
    s_steps (s_list e s) h t p m = by_list e (s_steps s h t p m)
    s_steps (s_unopened e s) h t p m = by_unopened e (s_steps s h t p m)
    s_steps (s_elements {o} {j} {x} {comma = comma} s c es u) h t p m =
        either (u.out p m) (λ n. by_stop (s_steps s h t p n)) (λ n.
        let f = s_each es h t p n in
        after_element_lem (s_enters c (truthful o j (skip_from text x) h t) f.q f.found)
        (after_element text comma f.q.rest) refl f.way)
    s_steps (s_unclosed e) h t p m = absurd (Memᴰ.not-nil m)
    s_steps (s_ending e s) h t p m = by_ending e (s_steps s h t p m)
    s_steps (s_names e s) h t p m = by_names e (s_steps s h t p m)
    s_steps (s_body {o} {j} {x} e c es) h t p m =
        let f = s_each es h t p m in
        by_body e (s_enters c (truthful o j (skip_from text x) h t) f.q f.found) f.way
    s_steps (s_no_name e s) h t p m = by_no_name (s_steps s h t p m)
    s_steps (s_name {o} {j} {d = d} e l s r u) h t p m =
        either (u.out p m) (λ n. by_no_name (s_steps s h t p n)) (λ n.
        after_name_lem e (after_element text true d.end) refl
        (subst (λ k. ThroughLeft o.path o.nonterminal o.start j k p) (sym l) (s_steps r h t p n)))
    s_steps (s_unopening e) h t p m = absurd (Memᴰ.not-nil m)
    s_steps (s_opening {o} {j} {y = y} {names = names} e c es) h t p m =
        let f = s_each es h t p m in
        by_opening e
        (s_enters c
        (truthful_behind names (inside book text o j (skip_from text y)) (around o)
        (truthful o j (skip_from text y) h t))
        f.q f.found) f.way

    s_each : {o : Open} {j : ℕ} {c : Follows} {Q : List (Parse Tree)} {B : List Bool} {R : List (Parse Tree)}
        {B' : List Bool} → Each book text o j c Q B R B' →
        Truthful o.path o.sets → Mine o → (p : Parse Tree) → p ∈ R → Followed o j c Q p
    s_each e_none h t p m = absurd (Memᴰ.not-nil m)
    s_each (e_one {q = q} s es u) h t p m =
        either (u.out p m) (λ n. record { q = q; found = Memᴰ.head refl; way = s_steps s h t p n })
        (λ n. followed_later (s_each es h t p n))
