-- Document 01, "The book" and refusals 3 to 8 of "The answer": the check of a book, "byte by byte forward, a bad byte
-- before a missing one"; and what document 02 d asks of the records of a binder. Numbers.antt names the refusals and
-- the limits.
use Rattle.std.specs.Prelude.{Bool, false, cond, not, ◌&&◌, ◌||◌, List, [], ◌∷◌, map, ℕ, zero, suc, ◌+◌, ◌%◌, leb, ltb}
use Rattle.std.specs.Prelude.{eqb, length, get_or}
use Rattle.characters.specs.Classes.{between, is_of}
use Rattle.characters.specs.declared.classes.Class.TheVariants.{Letter, Digit}
use Rattle.book.specs.Numbers.{book_ends_early, bad_count, bad_spelling, bad_field, bad_passing, bytes_left_over}
use Rattle.book.specs.Numbers.{most_words, most_names, most_nonterminals, most_variants, reserved, last_kind}
use Rattle.book.specs.Numbers.{longest_spelling, identifier_mark, binder_mark, last_mark, variants_each, default_level}
use Rattle.book.specs.Numbers.{both, committed_flags, last_flags, steps_each, last_step_kind, binder_kind}
use Rattle.book.specs.Numbers.{first_character, last_character}
use Rattle.book.specs.Book.{Entry, Book, no_variant, mark_number, step_number, nth_step}
use Rattle.book.specs.declared.records.Mark.{Mark}
use Rattle.book.specs.declared.records.Associativity.{Associativity}
use Rattle.book.specs.declared.records.Nonterminal.{Nonterminal}
use Rattle.book.specs.declared.records.Variant.{Variant}
use Rattle.book.specs.declared.records.Step.{Step}

-- ---- Readers: what a part of the book gives, from a place on
pub data Checked (A : Type 0) : Type 0 where
  -- a refusal's number and place
  refused : ℕ → ℕ → Checked A
  -- what was read, and the next place
  accepted : A → ℕ → Checked A

-- a refusal is handed on; what was read goes to what follows, with the next place
abbrev pub and_then : {A B : Type 0} → Checked A → (A → ℕ → Checked B) → Checked B
and_then (refused number place) f = refused number place
and_then (accepted x next) f = f x next

-- from the book's bytes and a place
abbrev pub Reader : Type 0 → Type 0
Reader A = List ℕ → ℕ → Checked A

abbrev pub ◌>>=◌ : {A B : Type 0} → Reader A → (A → Reader B) → Reader B
◌>>=◌ m f = λ book place. and_then (m book place) (λ x next. f x book next)

-- nothing is read, and x is given
abbrev pub give : {A : Type 0} → A → Reader A
give x = λ book place. accepted x place

-- the place itself
abbrev pub here : Reader ℕ
here = λ book place. accepted place place

-- A byte that passes a test, else the refusal at the place `at`; where the book has ended, 3 at its length
unfoldable pub checked : (ℕ → Bool) → ℕ → ℕ → Reader ℕ
checked fits number at book place =
    cond (ltb place (length book))
    (cond (fits (get_or book place 0)) (accepted (get_or book place 0) (place + 1)) (refused number at))
    (refused book_ends_early (length book))

-- "section count outside its limits or unequal to its sum": 4 at the count
abbrev pub count : (ℕ → Bool) → Reader ℕ
count fits = do
  at ← here
  checked fits bad_count at

-- "any other field out of range": 6 at that byte
abbrev pub field : (ℕ → Bool) → Reader ℕ
field fits = do
  at ← here
  checked fits bad_field at

-- n records one after another, numbered from i. Each is told its number, and the sum of the sizes of those before it
module _ {A : Type 0} (size : A → ℕ) (one : ℕ → ℕ → Reader A) where
  unfoldable pub records : ℕ → ℕ → ℕ → Reader (List A)
  records zero i sum = give []
  records (suc n) i sum = do
    x ← one i sum
    xs ← records n (i + 1) (sum + size x)
    give (x ∷ xs)

-- "Five sections in order, each after a one-byte count": the count, which passes a test, and so many records
abbrev pub section : {A : Type 0} → (ℕ → Bool) → (A → ℕ) → (ℕ → ℕ → Reader A) → Reader (List A)
section fits size one = do
  n ← count fits
  records size one n 0 0

-- the same, with the place where it begins
abbrev pub placed : {A : Type 0} → Reader A → Reader (ℕ × A)
placed m = do
  at ← here
  x ← m
  give (at, x)

-- ---- Spellings: "length, bytes"
-- "identifier-shaped": a letter, or a digit that isn't first
abbrev pub shaped : ℕ → ℕ → Bool
shaped i b = is_of Letter b || (ltb 0 i && is_of Digit b)

-- "spelling not of length 1 to 15, or not identifier-shaped": 5 at the length byte
unfoldable pub spelling : Reader (List ℕ)
spelling = do
  at ← here
  size ← checked (between 1 longest_spelling) bad_spelling at
  records (λ b. 0) (λ i sum. checked (shaped i) bad_spelling at) size 0 0

-- ---- Sections 1 and 2: "reserved 0 or 1, length, bytes"; "kind 0 to 7, length, bytes"
unfoldable pub entry : ℕ → Reader Entry
entry greatest = do
  label ← field (between 0 greatest)
  bytes ← spelling
  give (record { label = label; spelling = bytes })

-- ---- Records of a binder. Document 02 d: "A mark-3 nonterminal has one variant, bytes 255, 3, 1, 1, with a step of
-- kind 14: body, opening, closing; anything else there, or kind 14 elsewhere, gives 6"
-- a binder's byte is n; elsewhere the byte passes a test
abbrev pub fixed : Bool → ℕ → (ℕ → Bool) → ℕ → Bool
fixed binder n fits b = cond binder (eqb b n) (fits b)

-- whether a binder's number is i, where `at` gives a nonterminal's: that of its variant, or of its variant's step
unfoldable pub of_binder : (Nonterminal → ℕ) → List Nonterminal → ℕ → Bool
of_binder at [] i = false
of_binder at (n ∷ ns) i = (eqb (mark_number n.mark) binder_mark && eqb (at n) i) || of_binder at ns i

-- the number of a nonterminal's first variant's first step
abbrev pub first_step : List (ℕ × Variant) → Nonterminal → ℕ
first_step variants n = (get_or variants n.first (0, no_variant)).1.first

-- ---- Section 3: "mark, number of variants 0 to 16"; mark 2 "with 0 variants"; "A mark-3 nonterminal has one variant"
abbrev pub mark_of : ℕ → Mark
mark_of n = cond (eqb n 1) Mark.Variable (cond (eqb n 2) Mark.Identifier (cond (eqb n 3) Mark.Binder Mark.Plain))

unfoldable pub nonterminal : ℕ → Reader Nonterminal
nonterminal first = do
  mark ← field (between 0 last_mark)
  count ← field (fixed (eqb mark binder_mark) 1 (between 0 (cond (eqb mark identifier_mark) 0 variants_each)))
  give (record { mark = mark_of mark; first = first; count = count })

-- ---- Section 4: "level; associativity 0 Left, 1 Right, 2 None, 3 Both; flags 0 to 3 (1 committed, plus 2 passing);
-- steps 0 to 8"; "Level 255 is Rust's default and needs Both, else 6 at the associativity"
abbrev pub associativity_of : ℕ → Associativity
associativity_of n =
    cond (eqb n 0) Associativity.Left
    (cond (eqb n 1) Associativity.Right
    (cond (eqb n 2) Associativity.None
    Associativity.Both))

-- a binder's associativity is Both, since its level is 255
unfoldable pub variant : Bool → ℕ → Reader Variant
variant binder first = do
  level ← field (fixed binder default_level (between 0 default_level))
  associativity ← field (between (cond (eqb level default_level) both 0) both)
  flags ← field (fixed binder committed_flags (between 0 last_flags))
  count ← field (fixed binder 1 (between 0 steps_each))
  give (record {
    level = level;
    associativity = associativity_of associativity;
    committed = eqb (flags % 2) 1;
    passing = leb 2 flags;
    first = first;
    count = count;
  })

-- ---- Section 5: "kind, a, b, c; unused bytes 0"
-- what `a` may be, by the kind: "Characters are 33 to 126"; a word, a kind of names, a nonterminal, or 0
abbrev pub argument : ℕ → ℕ → ℕ → ℕ → Bool
argument words nonterminals kind a =
    cond (eqb kind 0) (between first_character last_character a)
    (cond (eqb kind 1) (ltb a words)
    (cond (eqb kind 5) (between 0 last_kind a)
    (cond (leb 8 kind) (ltb a nonterminals)
    (eqb a 0))))

-- which b and c: "12 delimited a between b and c; 13 the same, optional"; "kind 14: body, opening, closing"
abbrev pub delimiter : ℕ → ℕ → Bool
delimiter kind b = cond (leb 12 kind) (between first_character last_character b) (eqb b 0)

-- a kind that is none of these has no step; it reads as the character 0, which no book asks for
unfoldable pub step_of : ℕ → ℕ → ℕ → ℕ → Step
step_of kind a b c =
    cond (eqb kind 0) (Step.Character a)
    (cond (eqb kind 1) (Step.Word a)
    (cond (eqb kind 2) Step.Identifier
    (cond (eqb kind 3) Step.Number
    (cond (eqb kind 4) Step.Variable
    (cond (eqb kind 5) (Step.VariableOfKind a)
    (cond (eqb kind 6) Step.RejectVariable
    (cond (eqb kind 7) Step.RejectReserved
    (cond (eqb kind 8) (Step.Nonterminal a)
    (cond (eqb kind 9) (Step.Optional a)
    (cond (eqb kind 10) (Step.Many a)
    (cond (eqb kind 11) (Step.CommaList a)
    (cond (eqb kind 12) (Step.Delimited a b c)
    (cond (eqb kind 13) (Step.OptionalDelimited a b c)
    (cond (eqb kind 14) (Step.Binder a b c)
    (Step.Character 0)))))))))))))))

unfoldable pub step : ℕ → ℕ → Bool → Reader Step
step words nonterminals binder = do
  kind ← field (fixed binder binder_kind (between 0 last_step_kind))
  a ← field (argument words nonterminals kind)
  b ← field (delimiter kind)
  c ← field (delimiter kind)
  give (step_of kind a b c)

-- ---- "after steps": "passing variant other than one step of kind 8", 7 at the "first byte of the variant"
abbrev pub passes : List Step → Variant → Bool
passes steps v = not v.passing || (eqb v.count 1 && eqb (step_number (nth_step steps v.first)) 8)

unfoldable pub all_pass : List Step → List (ℕ × Variant) → Reader (Unit {0})
all_pass steps [] = give tt
all_pass steps (v ∷ vs) = λ book place.
    cond (passes steps v.1) (all_pass steps vs book place) (refused bad_passing v.0)

-- "last": "bytes left over", 8 at the "first of them"
unfoldable pub ended : Reader (Unit {0})
ended book place = cond (ltb place (length book)) (refused bytes_left_over place) (accepted tt place)

-- ---- The whole book
-- the sum of the sizes
abbrev pub total : {A : Type 0} → (A → ℕ) → List A → ℕ
total size [] = 0
total size (x ∷ xs) = size x + total size xs

-- "the sum of those, at most 128"
abbrev pub variants_fit : ℕ → ℕ → Bool
variants_fit all n = between 0 most_variants n && eqb n all

-- the sections in order, then 7, then 8
unfoldable pub entire_book : Reader Book
entire_book = do
  words ← section (between 0 most_words) (λ w. 0) (λ i first. entry reserved)
  names ← section (between 0 most_names) (λ w. 0) (λ i first. entry last_kind)
  nonterminals ← section (between 1 most_nonterminals) (λ n. n.count) (λ i. nonterminal)
  variants ←
      section (variants_fit (total (λ n. n.count) nonterminals)) (λ v. v.1.count)
      (λ j first. placed (variant (of_binder (λ n. n.first) nonterminals j) first))
  steps ←
      section (eqb (total (λ v. v.1.count) variants)) (λ s. 0)
      (λ k first. step (length words) (length nonterminals) (of_binder (first_step variants) nonterminals k))
  passed ← all_pass steps variants
  over ← ended
  give (record {
    words = words;
    names = names;
    nonterminals = nonterminals;
    variants = map (λ v. v.1) variants;
    steps = steps;
  })

-- the book that the bytes are, or a refusal's number and place
pub data Outcome : Type 0 where
  book : Book → Outcome
  refusal : ℕ → ℕ → Outcome

abbrev pub outcome : Checked Book → Outcome
outcome (refused number place) = refusal number place
outcome (accepted b next) = book b

-- document 01's "refusal (0 if none), place", where a place that isn't stated is 0
abbrev pub outcome_refusal : Outcome → ℕ
outcome_refusal (Outcome.book b) = 0
outcome_refusal (Outcome.refusal number place) = number

abbrev pub outcome_place : Outcome → ℕ
outcome_place (Outcome.book b) = 0
outcome_place (Outcome.refusal number place) = place

unfoldable pub check_book : List ℕ → Outcome
check_book bytes = outcome (entire_book bytes 0)
