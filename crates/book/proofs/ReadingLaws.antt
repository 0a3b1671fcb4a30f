-- Laws of reading a book by its index, in the order in which the code asks.
--
--   mark_of_number, ..                          a number of document 01, and what it stands for
--   upTo-                                       a list of a function's values, by number
--   nonterminal-, variant-, step-, entry-       a record that the book has, and one that it doesn't
--   words_length, ..                            how many there are
--   any_by_number, reserved-                    whether any word is reserved
--   last-, lookup-                              the last equal name
--   kind-, least-                               the first equal word of a kind
--
-- Not here: that the index gives the book of the check (WholeLaws, EndLaws).
use Rattle.std.specs.Prelude.{Option, Some, None, MatchOption, ◌≡◌, Bool, true, false, cond, leb, ltb, eqb, length}
use Rattle.std.specs.Prelude.{get_or, take}
use Rattle.std.specs.List.{list_any, range_with_len}
use Rattle.std.proofs.Math.Path.{refl, sym}
use Rattle.std.proofs.Common.{ap, ◌∙◌, add-zero, length-take, take-suc, get_or-take}
use mathlib.Core.List.{List, [], ◌∷◌, ◌++◌}
use Prim.Native.Nat.{ℕ, zero, suc, ◌+◌, ◌-◌, ◌%◌, ◌≤◌, ◌<◌}
use native.Mathlib.Omega.{arith}
use Rattle.std.proofs.Math.ListN.{length-append, get_or-append, get_or-eq_default}
use Rattle.std.proofs.lemmas.List.{get_or_at}
use borrow.Author.Tests.{ltb-true, ltb-false}
use Rattle.characters.specs.Cases.{by_test}
use Rattle.characters.specs.Spelling.{same}
use Rattle.book.specs.Book.{Entry, mark_number, associativity_number, nth_entry, nth_nonterminal, nth_variant, nth_step}
use Rattle.book.specs.Book.{reserved_as, is_reserved, lookup_from, lookup_name, named, least_word, kind_word}
use Rattle.book.specs.Check.{mark_of, associativity_of, step_of}
use Rattle.book.specs.Index.{up_to, count_in, place_in, first_in, entry_from, nonterminal_from, entries_in, book_in}
use Rattle.book.specs.declared.names.StartingName.{StartingName}
use Rattle.book.specs.declared.records.Mark.{Mark}
use Rattle.book.specs.declared.records.Associativity.{Associativity}
use Rattle.book.specs.declared.records.Nonterminal.{Nonterminal}
use Rattle.book.specs.declared.records.Variant.{Variant}
use Rattle.book.specs.declared.records.Step.{Step}
use Rattle.std.specs.Prelude.{drop}
use Rattle.std.proofs.Common.{add-one, drop_of_length-le, drop-cons}
use Prim.Native.Nat.{min}
use Rattle.book.proofs.SectionLaws.{up_to_more}

-- ---- Numbers and what they stand for
pub mark_of_number : (mark : Mark) → mark_of (mark_number mark) ≡ mark
mark_of_number Mark.Plain = refl
mark_of_number Mark.Variable = refl
mark_of_number Mark.Identifier = refl
mark_of_number Mark.Binder = refl

pub associativity_of_number : (associativity : Associativity) →
    associativity_of (associativity_number associativity) ≡ associativity
associativity_of_number Associativity.Left = refl
associativity_of_number Associativity.Right = refl
associativity_of_number Associativity.None = refl
associativity_of_number Associativity.Both = refl

-- ---- The values of a function below n
module _ {A : Type 0} (f : ℕ → A) where
  pub up_to_length : (n : ℕ) → length (up_to n f) ≡ n
  unfolding up_to
  up_to_length zero = refl
  up_to_length (suc n) = length-append (up_to n f) (f n ∷ []) ∙ (let h = up_to_length n in omega arith)

  pub up_to_in : (n k : ℕ) (d : A) → k < n → get_or (up_to n f) k d ≡ f k
  unfolding up_to
  up_to_in zero k d h = absurd (omega arith)
  up_to_in (suc n) k d h =
      let l = up_to_length n in
      by_test (ltb k n)
      (λ t. let less = ltb-true k n t in
      get_or-append (up_to n f) (f n ∷ []) d k (omega arith) ∙ up_to_in n k d less)
      (λ t. let e : k ≡ n = omega (arith, ltb-false k n t) in
      rw e (get_or_at (up_to n f) (f n) [] d n l))

  pub up_to_out : (n k : ℕ) (d : A) → n ≤ k → get_or (up_to n f) k d ≡ d
  up_to_out n k d h = get_or-eq_default (up_to n f) d (let l = up_to_length n in omega arith)

-- ---- Records
module _ (book index : List ℕ) where
  module _ (i : ℕ) where
    pub nonterminal_in : (count at byte first number : ℕ) (mark : Mark) → count ≡ count_in index 258 → i < count →
        at ≡ place_in index 258 i →
        byte ≡ get_or book (at + 0) 0 → mark ≡ mark_of byte → first ≡ first_in index 258 i → number ≡ get_or book
        (at + 1) 0 →
        ◌≡◌ {A = Nonterminal} (record { mark = mark; first = first; count = number })
        (nth_nonterminal (book_in book index) i)
    unfolding book_in
    nonterminal_in count at byte first number mark c_is h at-is b_is m_is f_is n_is =
        rw (m_is, b_is, f_is, n_is, at-is, add-zero) (sym (up_to_in _ (count_in index 258) i _ (omega arith)))

    pub nonterminal_out : (count : ℕ) → count ≡ count_in index 258 → count ≤ i →
        ◌≡◌ {A = Nonterminal} (record { mark = Mark.Plain; first = 0; count = 0 })
        (nth_nonterminal (book_in book index) i)
    unfolding book_in
    nonterminal_out count c_is h = sym (up_to_out _ (count_in index 258) i _ (omega arith))

  module _ (j : ℕ) where
    pub variant_in_lem : (count at flags level byte first number : ℕ) (associativity : Associativity) →
        count ≡ count_in index 323 → j < count → at ≡ place_in index 323 j → flags ≡ get_or book (at + 2) 0 →
        level ≡ get_or book (at + 0) 0 → byte ≡ get_or book (at + 1) 0 → associativity ≡ associativity_of byte →
        first ≡ first_in index 323 j → number ≡ get_or book (at + 3) 0 →
        ◌≡◌ {A = Variant} (record {
          level = level;
          associativity = associativity;
          committed = eqb (flags % 2) 1;
          passing = leb 2 flags;
          first = first;
          count = number;
        }) (nth_variant (book_in book index) j)
    unfolding book_in
    variant_in_lem count at flags level byte first number associativity c_is h at-is f_is l_is b_is a_is first-is n_is =
        rw (l_is, a_is, b_is, f_is, first-is, n_is, at-is, add-zero)
        (sym (up_to_in _ (count_in index 323) j _ (omega arith)))

    pub variant_out : (count : ℕ) → count ≡ count_in index 323 → count ≤ j →
        ◌≡◌ {A = Variant} (record {
          level = 0;
          associativity = Associativity.Left;
          committed = false;
          passing = false;
          first = 0;
          count = 0;
        }) (nth_variant (book_in book index) j)
    unfolding book_in
    variant_out count c_is h = sym (up_to_out _ (count_in index 323) j _ (omega arith))

  module _ (k : ℕ) where
    pub step_in : (count at kind a b c : ℕ) (step : Step) → count ≡ count_in index 580 → k < count →
        at ≡ place_in index 580 k → kind ≡ get_or book (at + 0) 0 → a ≡ get_or book (at + 1) 0 → b ≡ get_or book
        (at + 2) 0 →
        c ≡ get_or book (at + 3) 0 → step ≡ step_of kind a b c → step ≡ nth_step (book_in book index).steps k
    unfolding book_in
    step_in count at kind a b c step c_is h at-is k_is a_is b_is c_is' s_is =
        rw (s_is, k_is, a_is, b_is, c_is', at-is, add-zero) (sym (up_to_in _ (count_in index 580) k _ (omega arith)))

    pub step_out : (count : ℕ) → count ≡ count_in index 580 → count ≤ k →
        Step.Character 0 ≡ nth_step (book_in book index).steps k
    unfolding book_in
    step_out count c_is h = sym (up_to_out _ (count_in index 580) k _ (omega arith))

  -- an entry of a section
  module _ (base i : ℕ) where
    pub entry_in : (count at : ℕ) → count ≡ count_in index base → i < count → at ≡ place_in index base i →
        nth_entry (entries_in book index base) i ≡ entry_from book at
    entry_in count at c_is h at-is =
        rw at-is (up_to_in (λ i. entry_from book (place_in index base i)) (count_in index base) i _ (omega arith))

    pub entry_out : (count : ℕ) → count ≡ count_in index base → count ≤ i →
        nth_entry (entries_in book index base) i ≡ record { label = 0; spelling = [] }
    entry_out count c_is h =
        up_to_out (λ i. entry_from book (place_in index base i)) (count_in index base) i _ (omega arith)

-- ---- How many there are
pub words_length : (book index : List ℕ) → length (book_in book index).words ≡ count_in index 0
unfolding book_in
words_length book index = up_to_length (λ i. entry_from book (place_in index 0 i)) (count_in index 0)

pub nonterminals_length : (book index : List ℕ) → length (book_in book index).nonterminals ≡ count_in index 258
unfolding book_in
nonterminals_length book index =
    up_to_length (λ i. nonterminal_from book (place_in index 258 i) (first_in index 258 i)) (count_in index 258)

pub names_length : (book index : List ℕ) → length (book_in book index).names ≡ count_in index 129
unfolding book_in
names_length book index = up_to_length (λ i. entry_from book (place_in index 129 i)) (count_in index 129)

-- ---- Whether any passes a test, asked by number
module _ {X : Type 0} (test : X → Bool) (d : X) where
  any_from : (f : ℕ → Bool) (a : ℕ) (xs : List X) → ((i : ℕ) → f (a + i) ≡ test (get_or xs i d)) →
      list_any f (range_with_len a (length xs)) ≡ list_any test xs
  any_from f a [] h = refl
  any_from f a (x ∷ xs) h =
      let here : f a ≡ test x = rw add-zero at (h 0) in
      let rest = any_from f (a + 1) xs (λ i. let e : a + 1 + i ≡ a + suc i = omega arith in rw e (h (suc i))) in
      rw (here, rest)

  pub any_by_number : (xs : List X) →
      list_any (λ i. test (get_or xs i d)) (range_with_len 0 (length xs)) ≡ list_any test xs
  any_by_number xs =
      any_from (λ i. test (get_or xs i d)) 0 xs (λ i. let e : 0 + i ≡ i = omega arith in rw e)

-- ---- Reserved words
module _ (wanted : List ℕ) (words : List Entry) (i : ℕ) where
  pub reserved_on : i < length words → reserved_as wanted (nth_entry words i) ≡ false →
      is_reserved (drop i words) wanted ≡ is_reserved (drop (i + 1) words) wanted
  unfolding is_reserved
  reserved_on h e = rw (drop-cons words i (record { label = 0; spelling = [] }) h, e, add-one)

  pub reserved_hit : i < length words → reserved_as wanted (nth_entry words i) ≡ true →
      is_reserved (drop i words) wanted ≡ true
  unfolding is_reserved
  reserved_hit h e = rw (drop-cons words i (record { label = 0; spelling = [] }) h, e)

  pub reserved_end : length words ≤ i → is_reserved (drop i words) wanted ≡ false
  unfolding is_reserved
  reserved_end h = rw (drop_of_length-le words h)

pub reserved_any : (words : List Entry) (wanted : List ℕ) →
    list_any (reserved_as wanted) words ≡ is_reserved words wanted
unfolding is_reserved
reserved_any [] wanted = refl
reserved_any (w ∷ ws) wanted = rw (reserved_any ws wanted)

-- ---- Names
lookup_snoc : (found : Option StartingName) (i : ℕ) (names : List Entry) (n : Entry) (wanted : List ℕ) →
    lookup_from found i (names ++ (n ∷ [])) wanted
    ≡ cond (same wanted n.spelling) (Some (named (i + length names) n.label)) (lookup_from found i names wanted)
unfolding lookup_from
lookup_snoc found i [] n wanted = rw add-zero
lookup_snoc found i (m ∷ names) n wanted =
    let h = lookup_snoc (cond (same wanted m.spelling) (Some (named i m.label)) found) (suc i) names n wanted in
    let k : suc i + length names ≡ i + suc (length names) = omega arith in
    rw k at h

module _ (names : List Entry) (wanted : List ℕ) (i : ℕ) where
  pub last_none : i ≤ 0 → lookup_name (take i names) wanted ≡ None
  unfolding lookup_from
  last_none h = let e : i ≡ 0 = omega arith in rw e

  module _ (some' : 0 < i) (all : i ≤ length names) where
    one_name_less : lookup_name (take i names) wanted ≡ cond (same wanted (nth_entry names (i - 1)).spelling)
        (Some (named (i - 1) (nth_entry names (i - 1)).label)) (lookup_name (take (i - 1) names) wanted)
    one_name_less =
        let e : i ≡ suc (i - 1) = omega arith in
        let l : 0 + length (take (i - 1) names) ≡ i - 1 = omega (arith, length-take (i - 1) names) in
        ap (λ (n : ℕ). lookup_name (take n names) wanted) e
        ∙ ap (λ (ns : List Entry). lookup_name ns wanted)
        (take-suc names (i - 1) (record { label = 0; spelling = [] }) (omega arith))
        ∙ lookup_snoc None 0 (take (i - 1) names) (nth_entry names (i - 1)) wanted ∙ rw l

    -- the name that is looked at has the number i - 1
    module _ (last : ℕ) (last_is : last ≡ i - 1) where
      pub last_hit : (kind : ℕ) → same wanted (nth_entry names last).spelling ≡ true →
          kind ≡ (nth_entry names last).label → lookup_name (take i names) wanted ≡ Some (named last kind)
      last_hit kind e k = one_name_less ∙ rw (← last_is, e, k)

      pub last_on : same wanted (nth_entry names last).spelling ≡ false →
          lookup_name (take i names) wanted ≡ lookup_name (take (i - 1) names) wanted
      last_on e = one_name_less ∙ rw (rw last_is at e)

module _ (book index wanted : List ℕ) where
  abbrev name_from : ℕ → Entry
  name_from i = entry_from book (place_in index 129 i)

  -- the lookup among the first i names
  abbrev pub lookup_below : ℕ → Option StartingName
  lookup_below i = lookup_name (up_to i name_from) wanted

  pub lookup_all : lookup_name (book_in book index).names wanted ≡ lookup_below (count_in index 129)
  unfolding book_in
  lookup_all = refl

  pub lookup_none : (i : ℕ) → i ≤ 0 → lookup_below i ≡ None
  unfolding up_to lookup_from
  lookup_none i h = let e : i ≡ 0 = omega arith in rw e

  module _ (i : ℕ) (some' : 0 < i) (all : i ≤ count_in index 129) where
    last_name : nth_entry (book_in book index).names (i - 1) ≡ name_from (i - 1)
    unfolding book_in
    last_name = up_to_in name_from (count_in index 129) (i - 1) _ (omega arith)

    one_less : lookup_below i ≡ cond (same wanted (name_from (i - 1)).spelling)
        (Some (named (i - 1) (name_from (i - 1)).label)) (lookup_below (i - 1))
    one_less =
        let e : i ≡ (i - 1) + 1 = omega arith in
        let l = up_to_length name_from (i - 1) in
        let z : 0 + length (up_to (i - 1) name_from) ≡ i - 1 = omega arith in
        ap lookup_below e ∙ ap (λ (ns : List Entry). lookup_name ns wanted) (up_to_more (i - 1) name_from)
        ∙ lookup_snoc None 0 (up_to (i - 1) name_from) (name_from (i - 1)) wanted ∙ rw z

    pub lookup_hit : (kind : ℕ) → same wanted (nth_entry (book_in book index).names (i - 1)).spelling ≡ true →
        kind ≡ (nth_entry (book_in book index).names (i - 1)).label → lookup_below i ≡ Some (named (i - 1) kind)
    lookup_hit kind e k = one_less ∙ rw (rw last_name at e, k, last_name)

    pub lookup_on : same wanted (nth_entry (book_in book index).names (i - 1)).spelling ≡ false →
        lookup_below i ≡ lookup_below (i - 1)
    lookup_on e = one_less ∙ rw (rw last_name at e)

-- ---- The words of kinds
pub kind_words : (book index : List ℕ) → length (take 8 (book_in book index).words) ≡ min 8 (count_in index 0)
kind_words book index = length-take 8 (book_in book index).words ∙ rw (words_length book index)

module _ (wanted : List ℕ) (book index : List ℕ) (i : ℕ) where
  abbrev words : List Entry
  words = take 8 (book_in book index).words

  -- what decides from word i on
  abbrev pub kind_from : Option ℕ
  kind_from = least_word i (drop i words) wanted

  pub kind_end : length words ≤ i → kind_from ≡ None
  unfolding least_word
  kind_end h = rw (drop_of_length-le words h)

  module _ (h : i < length words) where
    first_word : drop i words ≡ nth_entry (book_in book index).words i ∷ drop (suc i) words
    first_word =
        let d : Entry = record { label = 0; spelling = [] } in
        let less : i < 8 = omega (arith, kind_words book index) in
        drop-cons words i d h ∙ rw (get_or-take 8 (book_in book index).words i d less)

    pub kind_hit : same wanted (nth_entry (book_in book index).words i).spelling ≡ true → kind_from ≡ Some i
    unfolding least_word
    kind_hit e = rw (first_word, e)

    pub kind_on : same wanted (nth_entry (book_in book index).words i).spelling ≡ false →
        kind_from ≡ least_word (i + 1) (drop (i + 1) words) wanted
    unfolding least_word
    kind_on e = rw (first_word, e, add-one)

module _ (wanted : List ℕ) where
  abbrev Alike : List Entry → ℕ → Bool → Type 0
  Alike words i b = same wanted (nth_entry words i).spelling ≡ b

  least_none : (i : ℕ) (words : List Entry) → ((k : ℕ) → k < length words → Alike words k false) →
      least_word i words wanted ≡ None
  unfolding least_word
  least_none i [] h = refl
  least_none i (w ∷ ws) h = rw (h 0 (omega arith), least_none (suc i) ws (λ k l. h (suc k) (omega arith)))

  least_found : (i : ℕ) (words : List Entry) (k : ℕ) → k < length words →
      ((j : ℕ) → j < k → Alike words j false) → Alike words k true → least_word i words wanted ≡ Some (i + k)
  unfolding least_word
  least_found i [] k l h e = absurd (omega arith)
  least_found i (w ∷ ws) zero l h e = rw (e, add-zero)
  least_found i (w ∷ ws) (suc k) l h e =
      let n : suc i + k ≡ i + suc k = omega arith in
      rw (h 0 (omega arith), ← n) (least_found (suc i) ws k (omega arith) (λ j m. h (suc j) (omega arith)) e)

  module _ (words : List Entry) where
    among_eight : (i : ℕ) (b : Bool) → i < length (take 8 words) → Alike words i b → Alike (take 8 words) i b
    among_eight i b l e =
        rw (get_or-take 8 words i (record { label = 0; spelling = [] }) (omega (arith, length-take 8 words))) e

    pub kind_is : (found : Option ℕ) (n : ℕ) → n ≡ length (take 8 words) →
        MatchOption found ((k : ℕ) → 0 ≤ k → k < n → Alike words k false)
        (λ i. (0 ≤ i) × (i < n) × Alike words i true × ((k : ℕ) → 0 ≤ k → k < i → Alike words k false)) →
        found ≡ kind_word words wanted
    kind_is None n n_is h =
        sym (least_none 0 (take 8 words) (λ k l. among_eight k false l (h k (omega arith) (omega arith))))
    kind_is (Some i) n n_is h =
        let least = least_found 0 (take 8 words) i (omega arith)
        (λ j l. among_eight j false (omega arith) (h.3 j (omega arith) l)) (among_eight i true (omega arith) h.2) in
        let e : 0 + i ≡ i = omega arith in sym (rw e at least)
