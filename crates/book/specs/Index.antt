-- The index of a book, and the book that an index gives: each record from its place. This is no part of what document
-- 01 says: the contract of `check_into` equates the book that its index gives with the one of `check_book`, and the
-- reading functions are stated over the former.
use Rattle.std.specs.Prelude.{⊤, Option, Some, None, Result, Ok, Err, Bool, false, cond, ◌&&◌, List, [], ◌∷◌, ◌++◌}
use Rattle.std.specs.Prelude.{◌≡◌, ℕ, zero, suc, ◌+◌, ◌-◌, ◌*◌, ◌%◌, ◌≤◌}
use Rattle.std.specs.Prelude.{◌<◌, leb, ltb, eqb, length, get_or}
use Rattle.characters.specs.Slices.{Slice}
use Rattle.characters.specs.Classes.{between}
use Rattle.characters.specs.Spelling.{part_of}
use Rattle.book.specs.Book.{Entry, Book, mark_number}
use Rattle.book.specs.Numbers.{short_lists, book_ends_early, bad_count, bad_spelling, bad_field, bad_passing}
use Rattle.book.specs.Numbers.{fault_number, most_words, most_names, most_nonterminals, reserved, last_kind}
use Rattle.book.specs.Numbers.{largest_byte, binder_mark, last_step_kind, binder_kind, first_character, last_character}
use Rattle.book.specs.Check.{Checked, refused, accepted, and_then, Reader, records, section, placed, entry, fixed}
use Rattle.book.specs.Check.{of_binder, first_step, mark_of, nonterminal, associativity_of, variant, step_of, step}
use Rattle.book.specs.Check.{total, variants_fit}
use Rattle.book.specs.Check.{Outcome, outcome_refusal, outcome_place, check_book}
use Rattle.book.specs.declared.binders.Sought.{Sought}
use Rattle.book.specs.declared.parts.Read.{Read}
use Rattle.book.specs.declared.refusals.Fault.{Fault}
use Rattle.book.specs.declared.refusals.Refusal.{Refusal}
use Rattle.book.specs.declared.sections.Sort.{Sort}
use Rattle.book.specs.declared.ranges.Range.{Range}
use Rattle.book.specs.declared.records.Nonterminal.{Nonterminal}
use Rattle.book.specs.declared.records.Variant.{Variant}
use Rattle.book.specs.declared.records.Step.{Step}

-- ---- Records from a place of the book
abbrev pub entry_from : List ℕ → ℕ → Entry
entry_from book at = record { label = get_or book at 0; spelling = part_of book (at + 2) (get_or book (at + 1) 0) }

abbrev pub nonterminal_from : List ℕ → ℕ → ℕ → Nonterminal
nonterminal_from book at first = record {
  mark = mark_of (get_or book at 0);
  first = first;
  count = get_or book
      (at + 1) 0;
}

abbrev pub variant_from : List ℕ → ℕ → ℕ → Variant
variant_from book at first =
    record {
      level = get_or book at 0;
      associativity = associativity_of (get_or book (at + 1) 0);
      committed = eqb (get_or book (at + 2) 0 % 2) 1;
      passing = leb 2 (get_or book (at + 2) 0);
      first = first;
      count = get_or book (at + 3) 0;
    }

abbrev pub step_from : List ℕ → ℕ → Step
step_from book at = step_of (get_or book at 0) (get_or book (at + 1) 0) (get_or book (at + 2) 0)
    (get_or book (at + 3) 0)

-- ---- Sorts of records: what one is, how it is read, what it counts, and it from its place
abbrev pub RecordOf : Sort → Type 0
RecordOf (Sort.Entry greatest) = Entry
RecordOf Sort.Nonterminal = Nonterminal
RecordOf (Sort.Variant binders) = ℕ × Variant
RecordOf (Sort.Step words nonterminals binders) = Step

-- a binder's, or another
abbrev pub one_of : (sort : Sort) → Bool → ℕ → Reader (RecordOf sort)
one_of (Sort.Entry greatest) binder first = entry greatest
one_of Sort.Nonterminal binder first = nonterminal first
one_of (Sort.Variant binders) binder first = placed (variant binder first)
one_of (Sort.Step words nonterminals binders) binder first = step words nonterminals binder

abbrev pub size_of : (sort : Sort) → RecordOf sort → ℕ
size_of (Sort.Entry greatest) x = 0
size_of Sort.Nonterminal x = x.count
size_of (Sort.Variant binders) x = x.1.count
size_of (Sort.Step words nonterminals binders) x = 0

abbrev pub record_from : (sort : Sort) → List ℕ → ℕ → ℕ → RecordOf sort
record_from (Sort.Entry greatest) book at first = entry_from book at
record_from Sort.Nonterminal book at first = nonterminal_from book at first
record_from (Sort.Variant binders) book at first = (at, variant_from book at first)
record_from (Sort.Step words nonterminals binders) book at first = step_from book at

-- ---- The index: where each section's region begins, and how many numbers it has in all
abbrev pub words_at : ℕ
words_at = 0

abbrev pub names_at : ℕ
names_at = 129

abbrev pub nonterminals_at : ℕ
nonterminals_at = 258

abbrev pub variants_at : ℕ
variants_at = 323

abbrev pub steps_at : ℕ
steps_at = 580

abbrev pub index_size : ℕ
index_size = 1091

-- the values of f below n, in order
unfoldable pub up_to : {A : Type 0} → ℕ → (ℕ → A) → List A
up_to zero f = []
up_to (suc n) f = up_to n f ++ (f n ∷ [])

abbrev pub count_in : List ℕ → ℕ → ℕ
count_in index base = get_or index base 0

abbrev pub place_in : List ℕ → ℕ → ℕ → ℕ
place_in index base i = get_or index (base + 1 + 2 * i) 0

abbrev pub first_in : List ℕ → ℕ → ℕ → ℕ
first_in index base i = get_or index (base + 2 + 2 * i) 0

-- the first number that 32 bits do not hold
abbrev pub wide : ℕ
wide = 4294967296

-- record r has the numbers of record i; where twice i would be too large a number, it stands for it
pub record SameRecord (index : List ℕ) (i r : ℕ) : Type 0 where
  pub small : r ≤ length index + wide
  pub same : (k : ℕ) → get_or index (k + 2 * r) 0 ≡ get_or index (k + 2 * i) 0

-- the first n records of a section, by the index
abbrev pub records_in : (sort : Sort) → List ℕ → List ℕ → ℕ → ℕ → List (RecordOf sort)
records_in sort book index base n = up_to n (λ i. record_from sort book (place_in index base i) (first_in index base i))

abbrev pub entries_in : List ℕ → List ℕ → ℕ → List Entry
entries_in book index base = up_to (count_in index base) (λ i. entry_from book (place_in index base i))

abbrev pub nonterminals_in : List ℕ → List ℕ → List Nonterminal
nonterminals_in book index = records_in Sort.Nonterminal book index nonterminals_at (count_in index nonterminals_at)

-- each with its place
abbrev pub placed_in : List ℕ → List ℕ → List (ℕ × Variant)
placed_in book index = records_in (Sort.Variant false) book index variants_at (count_in index variants_at)

abbrev pub steps_in : List ℕ → List ℕ → List Step
steps_in book index = up_to (count_in index steps_at) (λ k. step_from book (place_in index steps_at k))

unfoldable pub book_in : List ℕ → List ℕ → Book
book_in book index =
    record {
      words = entries_in book index words_at;
      names = entries_in book index names_at;
      nonterminals = nonterminals_in book index;
      variants =
          up_to (count_in index variants_at)
          (λ j. variant_from book (place_in index variants_at j) (first_in index variants_at j));
      steps = steps_in book index;
    }

-- the book of two slices that a function is lent
abbrev pub book_at : Slice → Slice → Book
book_at book index = book_in book index

-- ---- Records of a binder
-- the number that is looked for, and a nonterminal's: where any will do, all have number 0
abbrev pub sought_number : Sought → ℕ
sought_number Sought.Any = 0
sought_number (Sought.OfVariant j) = j
sought_number (Sought.OfStep k) = k

abbrev pub own_number : Sought → List ℕ → List ℕ → Nonterminal → ℕ
own_number Sought.Any book index n = 0
own_number (Sought.OfVariant j) book index n = n.first
own_number (Sought.OfStep k) book index n = first_step (placed_in book index) n

abbrev pub is_sought : Sought → List ℕ → List ℕ → Nonterminal → Bool
is_sought sought book index n =
    eqb (mark_number n.mark) binder_mark && eqb (own_number sought book index n) (sought_number sought)

abbrev pub has_binder : Sought → List ℕ → List ℕ → Bool
has_binder sought book index =
    of_binder (own_number sought book index) (nonterminals_in book index) (sought_number sought)

-- whether record i is a binder's. A sort that says that there are no binders looks for none
abbrev pub binder_in : Sort → List ℕ → List ℕ → ℕ → Bool
binder_in (Sort.Entry greatest) book index i = false
binder_in Sort.Nonterminal book index i = false
binder_in (Sort.Variant binders) book index i = binders && has_binder (Sought.OfVariant i) book index
binder_in (Sort.Step words nonterminals binders) book index i = binders && has_binder (Sought.OfStep i) book index

-- each record of a section, by its number
abbrev pub each_of : (sort : Sort) → List ℕ → List ℕ → ℕ → ℕ → Reader (RecordOf sort)
each_of sort book index i first = one_of sort (binder_in sort book index i) first

-- what tells a binder's records stands before a place of the index
abbrev pub Before : Sort → ℕ → List ℕ → Type 0
Before (Sort.Entry greatest) base index = Unit {0}
Before Sort.Nonterminal base index = Unit {0}
Before (Sort.Variant binders) base index = nonterminals_at + 1 + 2 * count_in index nonterminals_at ≤ base
Before (Sort.Step words nonterminals binders) base index =
    (nonterminals_at + 1 + 2 * count_in index nonterminals_at ≤ base) ×
    (variants_at + 1 + 2 * count_in index variants_at ≤ base)

-- ---- The ranges of a step's arguments
abbrev pub below_range : ℕ → Range
below_range n = cond (eqb n 0) (record { low = 1; high = 0 }) (record { low = 0; high = n - 1 })

abbrev pub argument_range : ℕ → ℕ → ℕ → Range
argument_range words nonterminals kind =
    cond (eqb kind 0) (record { low = first_character; high = last_character })
    (cond (eqb kind 1) (below_range words)
    (cond (eqb kind 5) (record { low = 0; high = last_kind })
    (cond (leb 8 kind) (below_range nonterminals)
    (record { low = 0; high = 0 }))))

abbrev pub delimiter_range : ℕ → Range
delimiter_range kind =
    cond (leb 12 kind) (record { low = first_character; high = last_character }) (record { low = 0; high = 0 })

-- of an a, and of b and c, if there is such a kind
abbrev pub allowed : ℕ → ℕ → Bool → ℕ → Option (Range × Range)
allowed words nonterminals binder kind =
    cond (fixed binder binder_kind (between 0 last_step_kind) kind)
    (Some (argument_range words nonterminals kind, delimiter_range kind))
    None

-- ---- What the code's answers say
-- what the code gives of a part of a book
abbrev pub Part : Type 0
Part = Result Read Refusal

-- a refusal, by its number
abbrev pub refused_as : {A : Type 0} → Refusal → Checked A
refused_as e = refused (fault_number e.fault) e.place

-- a reading, of which the code gives the next place, or the refusal; what was read may go by the code's value
abbrev pub reading_of : {A : Type 0} → Part → (ℕ → A) → Checked A
reading_of (Ok r) f = accepted (f r.value) r.next
reading_of (Err e) f = refused_as e

-- the code's value, where there is one, is n
abbrev pub Valued : Part → ℕ → Type 0
Valued (Ok r) n = r.value ≡ n
Valued (Err e) n = Unit {0}

-- the code's value, where there is one, is a byte's
abbrev pub Small : Part → Type 0
Small (Ok r) = r.value ≤ largest_byte
Small (Err e) = Unit {0}

-- a list is as it was, but for the numbers from `low` up to, and not including, `high`
pub record KeptOutside (low high : ℕ) (before after : List ℕ) : Type 0 where
  pub below : (k : ℕ) → k < low → get_or after k 0 ≡ get_or before k 0
  pub above : (k : ℕ) → high ≤ k → get_or after k 0 ≡ get_or before k 0

-- one record was read
pub record One (sort : Sort) (binder : Bool) (book : List ℕ) (at : ℕ) (part : Part) : Type 0 where
  pub reads : (first : ℕ) → one_of sort binder first book at ≡ reading_of part (λ v. record_from sort book at first)
  pub valued : (first : ℕ) → Valued part (size_of sort (record_from sort book at first))
  pub small : Small part

-- records were read, and their numbers stand in the index
pub record RecordsRead (sort : Sort) (book : List ℕ) (at count base : ℕ) (before after : List ℕ)
    (part : Part) : Type 0 where
  pub reads :
      records (size_of sort) (each_of sort book before) count 0 0 book at ≡
      reading_of part (λ v. records_in sort book after base count)
  pub valued : Valued part (total (size_of sort) (records_in sort book after base count))
  pub kept : KeptOutside (base + 1) (base + 1 + 2 * count) before after

-- where something was read, n is at most `high`
abbrev pub Few : Part → ℕ → ℕ → Type 0
Few (Ok r) n high = n ≤ high
Few (Err e) n high = Unit {0}

-- a section was read: its count, which passes a test and is at most `high`, and its records
pub record Section (sort : Sort) (fits : ℕ → Bool) (book : List ℕ) (at high base : ℕ) (before after : List ℕ)
    (part : Part) : Type 0 where
  pub reads :
      section fits (size_of sort) (each_of sort book before) book at ≡
      reading_of part (λ v. records_in sort book after base (count_in after base))
  pub valued : Valued part (total (size_of sort) (records_in sort book after base (count_in after base)))
  pub few : Few part (count_in after base) high
  pub kept : KeptOutside base (base + 1 + 2 * high) before after

-- ---- Sections one after the other
-- what follows a part that was read
abbrev pub followed : Part → (ℕ → Checked Book) → Checked Book
followed (Ok r) K = K r.next
followed (Err e) K = refused_as e

abbrev pub Heads : Type 0
Heads = List Entry → List Entry → List Nonterminal → ℕ → Checked Book

-- words, names and nonterminals, and what follows them
abbrev pub heads : List ℕ → Heads → Checked Book
heads book K =
    and_then (section (between 0 most_words) (λ w. 0) (λ i first. entry reserved) book 0) (λ words p.
    and_then (section (between 0 most_names) (λ w. 0) (λ i first. entry last_kind) book p) (λ names q.
    and_then (section (between 1 most_nonterminals) (λ n. n.count) (λ i. nonterminal) book q) (λ nonterminals r.
    K words names nonterminals r)))

pub record HeadsRead (book before after : List ℕ) (part : Part) : Type 0 where
  pub reads :
      (K : Heads) →
      heads book K ≡
      followed part (K (entries_in book after words_at) (entries_in book after names_at) (nonterminals_in book after))
  pub valued : Valued part (total (λ n. n.count) (nonterminals_in book after))
  pub few_words : Few part (count_in after words_at) most_words
  pub few_names : Few part (count_in after names_at) most_names
  pub few_nonterminals : Few part (count_in after nonterminals_at) most_nonterminals
  pub kept : KeptOutside 0 variants_at before after

abbrev pub Sections : Type 0
Sections = List Entry → List Entry → List Nonterminal → List (ℕ × Variant) → List Step → ℕ → Checked Book

abbrev pub five_sections : List ℕ → Sections → Checked Book
five_sections book K =
    heads book (λ words names nonterminals p.
    and_then
    (section (variants_fit (total (λ n. n.count) nonterminals)) (λ v. v.1.count)
    (λ j first. placed (variant (of_binder (λ n. n.first) nonterminals j) first)) book p) (λ variants q.
    and_then
    (section (eqb (total (λ v. v.1.count) variants)) (λ s. 0)
    (λ k first. step (length words) (length nonterminals) (of_binder (first_step variants) nonterminals k))
    book q) (λ steps r.
    K words names nonterminals variants steps r)))

pub record SectionsRead (book before after : List ℕ) (part : Part) : Type 0 where
  pub reads :
      (K : Sections) →
      five_sections book K ≡
      followed part
      (K (entries_in book after words_at) (entries_in book after names_at) (nonterminals_in book after)
      (placed_in book after)
      (steps_in book after))
  pub kept : KeptOutside 0 index_size before after

-- ---- Verdicts
abbrev pub Verdict : Type 0
Verdict = Result ⊤ Refusal

-- nothing is read, and the next place is the same; or the refusal
abbrev pub passed_of : Verdict → ℕ → Checked (Unit {0})
passed_of (Ok u) next = accepted tt next
passed_of (Err e) next = refused_as e

-- a verdict's numbers: document 01's "refusal (0 if none), place", where a place that isn't stated is 0
abbrev pub refusal_of : Verdict → ℕ
refusal_of (Ok u) = 0
refusal_of (Err e) = fault_number e.fault

abbrev pub place_of : Verdict → ℕ
place_of (Ok u) = 0
place_of (Err e) = e.place

-- the fault of a number; a number that is no other's is that of bytes left over
abbrev pub fault_of : ℕ → Fault
fault_of n =
    cond (eqb n short_lists) Fault.ShortIndex
    (cond (eqb n book_ends_early) Fault.EndsEarly
    (cond (eqb n bad_count) Fault.BadCount
    (cond (eqb n bad_spelling) Fault.BadSpelling
    (cond (eqb n bad_field) Fault.BadField
    (cond (eqb n bad_passing) Fault.BadPassing
    Fault.BytesLeftOver)))))

-- the verdict of an outcome
abbrev pub verdict : Outcome → Verdict
verdict (Outcome.book b) = Ok tt
verdict (Outcome.refusal number place) = Err (record { fault = fault_of number; place = place })

-- a verdict has an outcome's numbers, and is its case
pub record Says (o : Outcome) (r : Verdict) : Type 0 where
  pub refusal : refusal_of r ≡ outcome_refusal o
  pub place : place_of r ≡ outcome_place o
  pub case : r ≡ verdict o

-- what the check promises: the verdict; the book, where it is accepted; and nothing beyond the index is stored
pub record Checks (book before after : List ℕ) (r : Verdict) : Type 0 where
  pub says : Says (check_book book) r
  pub gives : r ≡ Ok tt → check_book book ≡ Outcome.book (book_in book after)
  pub kept : KeptOutside 0 index_size before after

-- the outcome of the check with an index: one that is too short is refused as 1
abbrev pub check_with : List ℕ → List ℕ → Outcome
check_with book index = cond (ltb (length index) index_size) (Outcome.refusal short_lists 0) (check_book book)

-- The public promise. An index that is too short is left as it is. Where the book is refused, the index holds what was
-- read before the refusal, of which nothing is said: whoever reads by it has the verdict
pub record CheckedInto (book before after : List ℕ) (r : Verdict) : Type 0 where
  pub says : Says (check_with book before) r
  pub gives : r ≡ Ok tt → check_book book ≡ Outcome.book (book_in book after)
  pub beyond : (k : ℕ) → index_size ≤ k → get_or after k 0 ≡ get_or before k 0
  pub short : length before < index_size → after ≡ before
