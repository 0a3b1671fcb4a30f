-- Document 01, "Derivations", with the rules of document 02 d for binders: what a text's derivations are. Nothing here
-- speaks of a run.
use Rattle.std.specs.Prelude.{◌≡◌, true, false, cond, List, [], ◌∷◌, ◌++◌, ℕ, ◌+◌, ◌<◌, leb}
use Rattle.std.specs.Prelude.{Option, None, Some}
use Rattle.characters.specs.Skipping.{skip_from}
use Rattle.characters.specs.Spelling.{part_of}
use Rattle.book.specs.Book.{Book, nth_nonterminal, nth_variant}
use Rattle.book.specs.declared.records.Associativity.{Associativity}
use Rattle.book.specs.declared.records.Step.{Step}
use Rattle.book.specs.Numbers.{default_level}
use Rattle.semantics.specs.Values.{Tree, Trees, no_trees, ◌▸◌, variant, name, number, variable, declared}
use Rattle.semantics.specs.Values.{absent, list, Parse}
use Rattle.semantics.specs.Uses.{use_of, has_mark, within, behind, Path, scope_of, minimum, same_start, governor}
use Rattle.semantics.specs.Uses.{keeps}
use Rattle.semantics.specs.Tokens.{Item, character_end, free_end, spelled, claimed, declaration_at}
use Rattle.semantics.specs.Steps.{Taken, step_at, goes, halts, after_element, closed, Todo, taking, elements}
use Rattle.semantics.specs.Steps.{ending, naming, closing, todo_of}

-- the last item; a passing variant has just one
unfoldable pub last_of : Trees → Tree
last_of no_trees = absent
last_of (ts ▸ t) = t

-- "a variant's number and items in step order; passing, the child's value"
abbrev pub value_of : Book → ℕ → Trees → Tree
value_of book j items = cond (nth_variant book j).passing (last_of items) (variant j items)

-- "the parse is (rest, level, associativity, value)"
abbrev pub parse_of : Book → ℕ → ℕ → Trees → Parse Tree
parse_of book j rest items =
    let v = nth_variant book j in
    record { rest = rest; level = v.level; associativity = v.associativity; value = value_of book j items }

-- of a mark-2 use: "level 255 Both", "for mark 2 the spelling"
abbrev pub identifier_parse : List ℕ → ℕ → ℕ → Parse Tree
identifier_parse text u end =
    record { rest = end; level = default_level; associativity = Associativity.Both; value = name (spelled text u end) }

-- what an item is
unfoldable pub tree_of : List ℕ → Item → Tree
tree_of text (Item.name place size) = name (part_of text place size)
tree_of text (Item.number n) = number n
tree_of text (Item.variable i kind) = variable i kind
tree_of text (Item.declared depth index) = declared depth index

-- the items with a token's
unfoldable pub with_item : List ℕ → Trees → Option Item → Trees
with_item text items None = items
with_item text items (Some item) = items ▸ tree_of text item

-- what stays the same while a variant's steps are taken: the use, by its path, nonterminal and start; the number of the
-- variant; and the parse that it comes to
pub record Attempt : Type 0 where
  pub path : Path
  pub nonterminal : ℕ
  pub start : ℕ
  pub variant : ℕ
  pub parse : Parse Tree

abbrev pub attempt : Path → ℕ → ℕ → ℕ → Parse Tree → Attempt
attempt P N u j p = record { path = P; nonterminal = N; start = u; variant = j; parse = p }

-- the number over the book of variant i of N
abbrev pub variant_of : Book → ℕ → ℕ → ℕ
variant_of book N i = (nth_nonterminal book N).first + i

-- the path of a child that begins at a place
abbrev pub inside : Book → Attempt → ℕ → Path
inside book a at = within (use_of book a.nonterminal a.start a.variant at) ∷ a.path

module _ (book : Book) (text : List ℕ) where
  -- what a step of an attempt takes at a place, in the attempt's scope
  abbrev pub takes : Attempt → Step → ℕ → Taken
  takes a s x = step_at book text (scope_of a.path) s x

  mutual
    -- a use of N at u, with its path, has the parse p
    pub data Derives : Path → ℕ → ℕ → Parse Tree → Type 0 where
      -- "A derivation takes a variant whose level reaches the minimum and all its steps in turn"
      by_variant : {P N u p m i : _} → governor P N u ≡ minimum m →
          i < (nth_nonterminal book N).count → leb m (nth_variant book (variant_of book N i)).level ≡ true →
          Through (attempt P N u (variant_of book N i) p)
          (todo_of book (nth_variant book (variant_of book N i))) u no_trees →
          Derives P N u p
      -- "Child at the governor's own start: its derivations are those at the governor's place and path, kept when .."
      by_governor : {P N u p i f Q : _} → governor P N u ≡ same_start i f Q →
          Derives Q f.nonterminal f.start p → keeps f p ≡ true → Derives P N u p
      -- "A mark-2 use yields an identifier .. unless .."
      by_identifier : {P N u p m end : _} → governor P N u ≡ minimum m → has_mark book 2 N ≡ true →
          claimed book text P u ≡ false → free_end book text u ≡ Some end →
          p ≡ identifier_parse text u end → Derives P N u p

    -- an attempt, with this left to do at a place, after these items, comes to its parse. "Kinds 2 to 5 and 8 to 13 add
    -- one item, others none"; of kind 14 "Its items are the kinds as a list of numbers, absent without the opening, and
    -- the body"
    pub data Through : Attempt → List (Todo Trees) → ℕ → Trees → Type 0 where
      done : {a : Attempt} {x items : _} → a.parse ≡ parse_of book a.variant x items → Through a [] x items
      by_token : {a s t rest x items : _} → takes a s x ≡ Taken.token t →
          Through a rest t.next (with_item text items t.item) → Through a (taking s ∷ rest) x items
      by_child : {a s M q rest x items : _} → takes a s x ≡ Taken.child M →
          Derives (inside book a (skip_from text x)) M (skip_from text x) q →
          Through a rest q.rest (items ▸ q.value) → Through a (taking s ∷ rest) x items
      -- "Optional is absent or one"
      by_absent : {a s M rest x items : _} → takes a s x ≡ Taken.optional M →
          Through a rest x (items ▸ absent) → Through a (taking s ∷ rest) x items
      by_one : {a s M q rest x items : _} → takes a s x ≡ Taken.optional M →
          Derives (inside book a (skip_from text x)) M (skip_from text x) q →
          Through a rest q.rest (items ▸ q.value) → Through a (taking s ∷ rest) x items
      by_list : {a s comma M close y rest x items : _} → takes a s x ≡ Taken.list comma M close y →
          Through a (elements comma M no_trees close ∷ rest) y items → Through a (taking s ∷ rest) x items
      by_unopened : {a s y rest x items : _} → takes a s x ≡ Taken.unopened y →
          Through a rest y (items ▸ list no_trees) → Through a (taking s ∷ rest) x items
      -- "Many is stop or one more. A comma list is stop, or one followed by stop or, after a comma, by the list again":
      -- any list may stop; after one more it goes on, or, without a comma where commas are wanted, it halts
      by_stop : {a comma M values close rest x items : _} →
          Through a (ending values close ∷ rest) x items → Through a (elements comma M values close ∷ rest) x items
      by_more : {a comma M values close q y rest x items : _} →
          Derives (inside book a (skip_from text x)) M (skip_from text x) q →
          after_element text comma q.rest ≡ goes y →
          Through a (elements comma M (values ▸ q.value) close ∷ rest) y items →
          Through a (elements comma M values close ∷ rest) x items
      by_last : {a comma M values close q y rest x items : _} →
          Derives (inside book a (skip_from text x)) M (skip_from text x) q →
          after_element text comma q.rest ≡ halts y →
          Through a (ending (values ▸ q.value) close ∷ rest) y items →
          Through a (elements comma M values close ∷ rest) x items
      by_ending : {a values close y rest x items : _} → closed text close x ≡ Some y →
          Through a rest y (items ▸ list values) → Through a (ending values close ∷ rest) x items
      -- document 02 d: "an opening character, a comma list of names, a closing character, and a body; without the
      -- opening, the body alone", in the scope around
      by_names : {a s close M y rest x items : _} → takes a s x ≡ Taken.names close M y →
          Through a (naming [] no_trees close M ∷ rest) y items → Through a (taking s ∷ rest) x items
      by_body : {a s M q rest x items : _} → takes a s x ≡ Taken.body M →
          Derives (inside book a (skip_from text x)) M (skip_from text x) q →
          Through a rest q.rest (items ▸ absent ▸ q.value) → Through a (taking s ∷ rest) x items
      -- "a comma list of names": it may stop; after one more it goes on, or, without a comma, it halts
      by_no_name : {a names kinds close M rest x items : _} →
          Through a (closing names kinds close M ∷ rest) x items →
          Through a (naming names kinds close M ∷ rest) x items
      by_name : {a names kinds close M d y rest x items : _} →
          declaration_at book text (skip_from text x) ≡ Some d → after_element text true d.end ≡ goes y →
          Through a (naming (names ++ (d.value ∷ [])) (kinds ▸ number d.value.label) close M ∷ rest) y items →
          Through a (naming names kinds close M ∷ rest) x items
      by_last_name : {a names kinds close M d y rest x items : _} →
          declaration_at book text (skip_from text x) ≡ Some d → after_element text true d.end ≡ halts y →
          Through a (closing (names ++ (d.value ∷ [])) (kinds ▸ number d.value.label) close M ∷ rest) y items →
          Through a (naming names kinds close M ∷ rest) x items
      -- "The body is read in a new scope"
      by_opening : {a names kinds close M q y rest x items : _} → character_end text close x ≡ Some y →
          Derives (behind names ∷ inside book a (skip_from text y)) M (skip_from text y) q →
          Through a rest q.rest (items ▸ list kinds ▸ q.value) →
          Through a (closing names kinds close M ∷ rest) x items

  -- "A text's derivations are the start's from place 0, with an empty path, by finitely many of these rules"; a use
  -- begins at a skipped place
  abbrev pub DerivesText : ℕ → Parse Tree → Type 0
  DerivesText start p = Derives [] start (skip_from text 0) p
