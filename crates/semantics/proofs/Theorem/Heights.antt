-- Derivations of at most a height, and that every derivation has one. Only a use adds to the height: a child is lower
-- than the use that has it, and what is left to do of a variant counts as high as its highest child.
use Rattle.std.specs.Prelude.{◌≡◌, true, false, List, [], ◌∷◌, ◌++◌, ℕ, zero, suc, ◌+◌, ◌<◌, ◌≤◌, leb}
use Rattle.std.specs.Prelude.{Some}
use Rattle.std.proofs.Common.{arith}
use Rattle.characters.specs.Skipping.{skip_from}
use Rattle.book.specs.Book.{Book, nth_nonterminal, nth_variant}
use Rattle.semantics.specs.Values.{Tree, Trees, no_trees, ◌▸◌, number, absent, list, Parse}
use Rattle.semantics.specs.Uses.{behind, Path, has_mark, minimum, same_start, governor, keeps}
use Rattle.semantics.specs.Tokens.{character_end, free_end, claimed, declaration_at}
use Rattle.semantics.specs.Steps.{Taken, goes, halts, after_element, closed, Todo, taking, elements}
use Rattle.semantics.specs.Steps.{ending, naming, closing, todo_of}
use Rattle.semantics.specs.Derivations.{parse_of, identifier_parse, with_item, Attempt, attempt, variant_of, inside}
use Rattle.semantics.specs.Derivations.{takes, Derives, by_variant, by_governor, by_identifier}
use Rattle.semantics.specs.Derivations.{Through, done, by_token, by_child, by_absent, by_one, by_list}
use Rattle.semantics.specs.Derivations.{by_unopened, by_stop, by_more, by_last, by_ending}
use Rattle.semantics.specs.Derivations.{by_names, by_body, by_no_name, by_name, by_last_name, by_opening}

module _ (book : Book) (text : List ℕ) where
  -- the rules of derivations once more, with a height
  mutual
    pub data Der : ℕ → Path → ℕ → ℕ → Parse Tree → Type 0 where
      h_variant : {h P N u p m i : _} → governor P N u ≡ minimum m →
          i < (nth_nonterminal book N).count → leb m (nth_variant book (variant_of book N i)).level ≡ true →
          DThrough h (attempt P N u (variant_of book N i) p) (todo_of book (nth_variant book (variant_of book N i))) u
          no_trees → Der (suc h) P N u p
      h_governor : {h P N u p i f Q : _} → governor P N u ≡ same_start i f Q →
          Der h Q f.nonterminal f.start p → keeps f p ≡ true → Der (suc h) P N u p
      h_identifier : {h P N u p m end : _} → governor P N u ≡ minimum m → has_mark book 2 N ≡ true →
          claimed book text P u ≡ false → free_end book text u ≡ Some end →
          p ≡ identifier_parse text u end → Der (suc h) P N u p

    pub data DThrough : ℕ → Attempt → List (Todo Trees) → ℕ → Trees → Type 0 where
      h_done : {h : ℕ} {a : Attempt} {x items : _} →
          a.parse ≡ parse_of book a.variant x items → DThrough h a [] x items
      h_token : {h a s t rest x items : _} → takes book text a s x ≡ Taken.token t →
          DThrough h a rest t.next (with_item text items t.item) → DThrough h a (taking s ∷ rest) x items
      h_child : {h a s M q rest x items : _} → takes book text a s x ≡ Taken.child M →
          Der h (inside book a (skip_from text x)) M (skip_from text x) q →
          DThrough h a rest q.rest (items ▸ q.value) → DThrough h a (taking s ∷ rest) x items
      h_absent : {h a s M rest x items : _} → takes book text a s x ≡ Taken.optional M →
          DThrough h a rest x (items ▸ absent) → DThrough h a (taking s ∷ rest) x items
      h_one : {h a s M q rest x items : _} → takes book text a s x ≡ Taken.optional M →
          Der h (inside book a (skip_from text x)) M (skip_from text x) q →
          DThrough h a rest q.rest (items ▸ q.value) → DThrough h a (taking s ∷ rest) x items
      h_list : {h a s comma M close y rest x items : _} → takes book text a s x ≡ Taken.list comma M close y →
          DThrough h a (elements comma M no_trees close ∷ rest) y items → DThrough h a (taking s ∷ rest) x items
      h_unopened : {h a s y rest x items : _} → takes book text a s x ≡ Taken.unopened y →
          DThrough h a rest y (items ▸ list no_trees) → DThrough h a (taking s ∷ rest) x items
      h_stop : {h a comma M values close rest x items : _} →
          DThrough h a (ending values close ∷ rest) x items →
          DThrough h a (elements comma M values close ∷ rest) x items
      h_more : {h a comma M values close q y rest x items : _} →
          Der h (inside book a (skip_from text x)) M (skip_from text x) q → after_element text comma q.rest ≡ goes y →
          DThrough h a (elements comma M (values ▸ q.value) close ∷ rest) y items →
          DThrough h a (elements comma M values close ∷ rest) x items
      h_last : {h a comma M values close q y rest x items : _} →
          Der h (inside book a (skip_from text x)) M (skip_from text x) q → after_element text comma q.rest ≡ halts y →
          DThrough h a (ending (values ▸ q.value) close ∷ rest) y items →
          DThrough h a (elements comma M values close ∷ rest) x items
      h_ending : {h a values close y rest x items : _} → closed text close x ≡ Some y →
          DThrough h a rest y (items ▸ list values) → DThrough h a (ending values close ∷ rest) x items
      h_names : {h a s close M y rest x items : _} → takes book text a s x ≡ Taken.names close M y →
          DThrough h a (naming [] no_trees close M ∷ rest) y items → DThrough h a (taking s ∷ rest) x items
      h_body : {h a s M q rest x items : _} → takes book text a s x ≡ Taken.body M →
          Der h (inside book a (skip_from text x)) M (skip_from text x) q →
          DThrough h a rest q.rest (items ▸ absent ▸ q.value) → DThrough h a (taking s ∷ rest) x items
      h_no_name : {h a names kinds close M rest x items : _} →
          DThrough h a (closing names kinds close M ∷ rest) x items →
          DThrough h a (naming names kinds close M ∷ rest) x items
      h_name : {h a names kinds close M d y rest x items : _} →
          declaration_at book text (skip_from text x) ≡ Some d → after_element text true d.end ≡ goes y →
          DThrough h a (naming (names ++ (d.value ∷ [])) (kinds ▸ number d.value.label) close M ∷ rest) y items →
          DThrough h a (naming names kinds close M ∷ rest) x items
      h_last_name : {h a names kinds close M d y rest x items : _} →
          declaration_at book text (skip_from text x) ≡ Some d → after_element text true d.end ≡ halts y →
          DThrough h a (closing (names ++ (d.value ∷ [])) (kinds ▸ number d.value.label) close M ∷ rest) y items →
          DThrough h a (naming names kinds close M ∷ rest) x items
      h_opening : {h a names kinds close M q y rest x items : _} → character_end text close x ≡ Some y →
          Der h (behind names ∷ inside book a (skip_from text y)) M (skip_from text y) q →
          DThrough h a rest q.rest (items ▸ list kinds ▸ q.value) →
          DThrough h a (closing names kinds close M ∷ rest) x items

  pub der_zero : {P : Path} {N u : ℕ} {p : Parse Tree} → Der zero P N u p → ⊥
  der_zero d = elim d [ ]

  mutual
    pub raise : {h : ℕ} {P : Path} {N u : ℕ} {p : Parse Tree} → Der h P N u p → (k : ℕ) → h ≤ k → Der k P N u p
    raise (h_variant e i high t) zero l = absurd (omega arith)
    raise (h_variant e i high t) (suc k) l = h_variant e i high (raise_through t k (omega arith))
    raise (h_governor e d c) zero l = absurd (omega arith)
    raise (h_governor e d c) (suc k) l = h_governor e (raise d k (omega arith)) c
    raise (h_identifier e a c f v) zero l = absurd (omega arith)
    raise (h_identifier e a c f v) (suc k) l = h_identifier e a c f v

    pub raise_through : {h : ℕ} {a : Attempt} {todo : List (Todo Trees)} {x : ℕ} {items : Trees} →
        DThrough h a todo x items → (k : ℕ) → h ≤ k → DThrough k a todo x items
    raise_through (h_done e) k l = h_done e
    raise_through (h_token e t) k l = h_token e (raise_through t k l)
    raise_through (h_child e d t) k l = h_child e (raise d k l) (raise_through t k l)
    raise_through (h_absent e t) k l = h_absent e (raise_through t k l)
    raise_through (h_one e d t) k l = h_one e (raise d k l) (raise_through t k l)
    raise_through (h_list e t) k l = h_list e (raise_through t k l)
    raise_through (h_unopened e t) k l = h_unopened e (raise_through t k l)
    raise_through (h_stop t) k l = h_stop (raise_through t k l)
    raise_through (h_more d e t) k l = h_more (raise d k l) e (raise_through t k l)
    raise_through (h_last d e t) k l = h_last (raise d k l) e (raise_through t k l)
    raise_through (h_ending e t) k l = h_ending e (raise_through t k l)
    raise_through (h_names e t) k l = h_names e (raise_through t k l)
    raise_through (h_body e d t) k l = h_body e (raise d k l) (raise_through t k l)
    raise_through (h_no_name t) k l = h_no_name (raise_through t k l)
    raise_through (h_name e g t) k l = h_name e g (raise_through t k l)
    raise_through (h_last_name e g t) k l = h_last_name e g (raise_through t k l)
    raise_through (h_opening e d t) k l = h_opening e (raise d k l) (raise_through t k l)

  -- a child and what follows it, at one height
  record Both (P : Path) (M v : ℕ) (q : Parse Tree) (a : Attempt) (todo : List (Todo Trees)) (x : ℕ)
      (items : Trees) : Type 0 where
    top : ℕ
    child : Der top P M v q
    way : DThrough top a todo x items

  both : {P : Path} {M v : ℕ} {q : Parse Tree} {a : Attempt} {todo : List (Todo Trees)} {x : ℕ} {items : Trees} →
      (h : ℕ) × Der h P M v q → (h : ℕ) × DThrough h a todo x items → Both P M v q a todo x items
  both a b = record {
    top = a.0 + b.0;
    child = raise a.1 (a.0 + b.0) (omega arith);
    way = raise_through b.1 (a.0 + b.0) (omega arith);
  }

  mutual
    pub height : {P : Path} {N u : ℕ} {p : Parse Tree} → Derives book text P N u p → (h : ℕ) × Der h P N u p
    height (by_variant e i high t) = let r = height_through t in (suc r.0, h_variant e i high r.1)
    height (by_governor e d c) = let r = height d in (suc r.0, h_governor e r.1 c)
    height (by_identifier e a c f v) = (suc zero, h_identifier e a c f v)

    pub height_through : {a : Attempt} {todo : List (Todo Trees)} {x : ℕ} {items : Trees} →
        Through book text a todo x items → (h : ℕ) × DThrough h a todo x items
    height_through (done e) = (zero, h_done e)
    height_through (by_token e t) = let r = height_through t in (r.0, h_token e r.1)
    height_through (by_child e d t) =
        let r = both (height d) (height_through t) in (r.top, h_child e r.child r.way)
    height_through (by_absent e t) = let r = height_through t in (r.0, h_absent e r.1)
    height_through (by_one e d t) = let r = both (height d) (height_through t) in (r.top, h_one e r.child r.way)
    height_through (by_list e t) = let r = height_through t in (r.0, h_list e r.1)
    height_through (by_unopened e t) = let r = height_through t in (r.0, h_unopened e r.1)
    height_through (by_stop t) = let r = height_through t in (r.0, h_stop r.1)
    height_through (by_more d e t) =
        let r = both (height d) (height_through t) in (r.top, h_more r.child e r.way)
    height_through (by_last d e t) =
        let r = both (height d) (height_through t) in (r.top, h_last r.child e r.way)
    height_through (by_ending e t) = let r = height_through t in (r.0, h_ending e r.1)
    height_through (by_names e t) = let r = height_through t in (r.0, h_names e r.1)
    height_through (by_body e d t) =
        let r = both (height d) (height_through t) in (r.top, h_body e r.child r.way)
    height_through (by_no_name t) = let r = height_through t in (r.0, h_no_name r.1)
    height_through (by_name e g t) = let r = height_through t in (r.0, h_name e g r.1)
    height_through (by_last_name e g t) = let r = height_through t in (r.0, h_last_name e g r.1)
    height_through (by_opening e d t) =
        let r = both (height d) (height_through t) in (r.top, h_opening e r.child r.way)
