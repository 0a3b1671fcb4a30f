-- Laws of the sections one after the other. A section's records stay where they are while later sections are read.
--
--   kept-                                numbers of the index that a later section leaves
--   follow, follow-                      what follows a part
--   heads-                               words, names and nonterminals
--   variants_fit_lem, ..                 the tests of the counts; `retest`, a section under another test that says the
--                                        same
--   sections-                            all five
--
-- Not here: what comes after them (EndLaws).
use Rattle.std.specs.Prelude.{◌≡◌, Ok, Err, Bool, false, ◌&&◌, List, ℕ, ◌+◌, ◌*◌, ◌≤◌, eqb, length, get_or}
use Rattle.std.proofs.Common.{sym, ap, ◌∙◌, arith, eq-eqb, ne_eqb, eqb-true}
use Rattle.std.proofs.Math.Path.{fun_ext}
use Rattle.std.proofs.lemmas.Bool.{eqb-false}
use Rattle.characters.specs.Cases.{by_test}
use Rattle.characters.specs.Classes.{between}
use Rattle.book.specs.Book.{Entry, Book}
use Rattle.book.specs.Check.{Checked, and_then, checked, records, section, placed, entry, nonterminal, variant}
use Rattle.book.specs.Check.{of_binder, first_step, step, total, variants_fit}
use Rattle.book.specs.Index.{Part, reading_of, Few, KeptOutside, Section, size_of, each_of, count_in, entries_in}
use Rattle.book.specs.Index.{nonterminals_in, placed_in, steps_in, has_binder, followed, HeadsRead, SectionsRead}
use Rattle.book.proofs.ReaderLaws.{no_value, value_of}
use Rattle.book.proofs.SectionLaws.{count_stays, records_stay, not_few, few_of}
use Rattle.book.proofs.ReadingLaws.{up_to_length}
use Rattle.book.proofs.BinderLaws.{among_any}
use Rattle.book.specs.declared.binders.Sought.{Sought}
use Rattle.book.specs.declared.parts.Read.{Read}
use Rattle.book.specs.declared.refusals.Refusal.{Refusal}
use Rattle.book.specs.declared.sections.Sort.{Sort}
use Rattle.book.specs.declared.records.Nonterminal.{Nonterminal}
use Rattle.std.specs.Prelude.{◌<◌, leb}
use Rattle.std.proofs.Common.{leb-true, leb-false}
use Rattle.std.proofs.Math.Bool.{and-false}
use Rattle.book.proofs.ReaderLaws.{between_inside, between_under, between_over, between_one}

-- ---- Frames
pub kept_join : (a b c d low high : ℕ) (f g h : List ℕ) → low ≤ a → low ≤ c → b ≤ high → d ≤ high →
    KeptOutside a b f g → KeptOutside c d g h → KeptOutside low high f h
kept_join a b c d low high f g h la lc bh dh first second =
    record {
      below = λ k l. second.below k (omega arith) ∙ first.below k (omega arith);
      above = λ k l. second.above k (omega arith) ∙ first.above k (omega arith);
    }

pub kept_wider : (a b low high : ℕ) (f g : List ℕ) → low ≤ a → b ≤ high → KeptOutside a b f g → KeptOutside low high f g
kept_wider a b low high f g la bh k =
    record { below = λ i l. k.below i (omega arith); above = λ i l. k.above i (omega arith) }

-- ---- What follows a part
pub follow : {A : Type 0} (c : Checked A) (part : Part) (x : A) (K : A → ℕ → Checked Book) →
    c ≡ reading_of part (λ v. x) → and_then c K ≡ followed part (K x)
follow c (Ok r) x K e = rw e
follow c (Err d) x K e = rw e

pub follow_read : (part : Part) (K : ℕ → Checked Book) {r : Read} → part ≡ Ok r → followed part K ≡ K r.next
follow_read part K told = ap (λ (p : Part). followed p K) told

pub follow_refused : (part : Part) (K L : ℕ → Checked Book) {d : Refusal} → part ≡ Err d →
    followed part K ≡ followed part L
follow_refused part K L told = rw told

pub few_read : {part : Part} {r : Read} (k high : ℕ) → part ≡ Ok r → Few part k high → k ≤ high
few_read k high told h = rw told at h

-- ---- Words, names, nonterminals
module _ (book f g : List ℕ) (part : Part) (s : Section (Sort.Entry 1) (between 0 64) book 0 64 0 f g part) where
  -- the words are refused
  pub heads_words : {d : Refusal} → part ≡ Err d → HeadsRead book f g part
  heads_words told =
      record {
        reads = λ K.
            follow (section (between 0 64) (λ w. 0) (λ i first. entry 1) book 0) part (entries_in book g 0) _ s.reads
            ∙ follow_refused part _ _ told;
        valued = no_value told _;
        few_words = not_few _ _ told;
        few_names = not_few _ _ told;
        few_nonterminals = not_few _ _ told;
        kept = kept_wider 0 129 0 323 f g (omega arith) (omega arith) s.kept;
      }

  module _ (r : Read) (told : part ≡ Ok r) (h : List ℕ) (part' : Part)
      (s' : Section (Sort.Entry 7) (between 0 64) book r.next 64 129 g h part') where
    words_few : count_in g 0 ≤ 64
    words_few = few_read _ _ told s.few

    words_then : (K : List Entry → ℕ → Checked Book) →
        and_then (section (between 0 64) (λ w. 0) (λ i first. entry 1) book 0) K ≡ K (entries_in book g 0) r.next
    words_then K =
        follow (section (between 0 64) (λ w. 0) (λ i first. entry 1) book 0) part (entries_in book g 0) K s.reads
        ∙ follow_read part (K (entries_in book g 0)) told

    pub heads_names : {d : Refusal} → part' ≡ Err d → HeadsRead book f h part'
    heads_names told' =
        record {
          reads = λ K. words_then _ ∙ follow (section (between 0 64) (λ w. 0) (λ i first. entry 7) book r.next) part'
              (entries_in book h 129) _ s'.reads ∙ follow_refused part' _ _ told';
          valued = no_value told' _;
          few_words = not_few _ _ told';
          few_names = not_few _ _ told';
          few_nonterminals = not_few _ _ told';
          kept = kept_join 0 129 129 258 0 323 f g h (omega arith) (omega arith) (omega arith)
              (omega arith) s.kept s'.kept;
        }

    pub heads_all : (r' : Read) → part' ≡ Ok r' → (i : List ℕ) (last : Part) →
        Section Sort.Nonterminal (between 1 32) book r'.next 32 258 h i last → HeadsRead book f i last
    heads_all r' told' i last s'' =
        let names_few = few_read _ _ told' s'.few in
        let after_names : KeptOutside 129 323 g i =
        kept_join 129 258 258 323 129 323 g h i (omega arith) (omega arith) (omega arith)
        (omega arith) s'.kept s''.kept in
        let words_stay = records_stay (Sort.Entry 1) book 0 129 g i after_names.below (omega (arith, words_few)) in
        let names_stay = records_stay (Sort.Entry 7) book 129 258 h i s''.kept.below (omega (arith, names_few)) in
        record {
          reads = λ K.
              words_then _
              ∙ follow (section (between 0 64) (λ w. 0) (λ i first. entry 7) book r.next) part'
              (entries_in book h 129) _ s'.reads
              ∙ follow_read part' _ told'
              ∙ follow (section (between 1 32) (λ n. n.count) (λ i. nonterminal) book r'.next) last
              (nonterminals_in book i)
              (λ x p. K (entries_in book g 0) (entries_in book h 129) x p) s''.reads
              ∙ rw (words_stay, names_stay);
          valued = s''.valued;
          few_words = few_of last (omega (
            arith,
            words_few,
            count_stays (Sort.Entry 1) book 0 129 g i after_names.below (omega (arith, words_few)),
          ));
          few_names = few_of last (omega (
            arith,
            names_few,
            count_stays (Sort.Entry 7) book 129 258 h i s''.kept.below (omega (arith, names_few)),
          ));
          few_nonterminals = s''.few;
          kept = kept_join 0 129 129 323 0 323 f g i (omega arith) (omega arith) (omega arith)
              (omega arith) s.kept after_names;
        }

-- ---- The tests of the counts
nothing_fits : (n : ℕ) → between 1 0 n ≡ false
nothing_fits n =
    by_test (leb 1 n) (λ t. between_over 1 0 n (leb-true 1 n t)) (λ t. between_under 1 0 n (leb-false 1 n t))

pub variants_fit_lem : (all n : ℕ) → all ≤ 128 → between all all n ≡ variants_fit all n
variants_fit_lem all n h =
    between_one all n
    ∙ by_test (eqb n all)
    (λ t. let e = eqb-true n all t in t ∙ sym (rw (t, between_inside 0 128 n (omega arith) (omega arith))))
    (λ t. t ∙ sym (rw t (and-false (between 0 128 n))))

pub too_many_variants : (all n : ℕ) → 128 < all → between 1 0 n ≡ variants_fit all n
too_many_variants all n h =
    nothing_fits n
    ∙ by_test (eqb n all)
    (λ t. let e = eqb-true n all t in sym (rw (between_over 0 128 n (omega arith))))
    (λ t. sym (rw t (and-false (between 0 128 n))))

pub steps_fit : (all n : ℕ) → between all all n ≡ eqb all n
steps_fit all n =
    between_one all n
    ∙ by_test (eqb n all)
    (λ t. t ∙ sym (eq-eqb all n (sym (eqb-true n all t))))
    (λ t. t ∙ sym (ne_eqb all n (λ e. eqb-false n all t (sym e))))

pub too_many_steps : (all n : ℕ) → n < 256 → 255 < all → between 1 0 n ≡ eqb all n
too_many_steps all n h k = nothing_fits n ∙ sym (ne_eqb all n (λ e. omega arith))

-- a range holds a number alone, among those up to `most`
abbrev Exactly : ℕ → ℕ → ℕ → ℕ → Type 0
Exactly all most low high = (n : ℕ) → n ≤ most → between low high n ≡ eqb n all

pub exactly_fits : (all low high n : ℕ) → Exactly all 255 low high → n ≤ 255 → between low high n ≡ eqb all n
exactly_fits all low high n h k =
    h n k
    ∙ by_test (eqb n all)
    (λ t. t ∙ sym (eq-eqb all n (sym (eqb-true n all t))))
    (λ t. t ∙ sym (ne_eqb all n (λ e. eqb-false n all t (sym e))))

-- a section under another test, which says the same of its count
pub retest :
    (sort : Sort) (fits wanted : ℕ → Bool) (book : List ℕ) (at low high base : ℕ) (f g : List ℕ) (part : Part) →
    fits (get_or book at 0) ≡ wanted (get_or book at 0) → low ≤ high →
    Section sort fits book at low base f g part → Section sort wanted book at high base f g part
unfolding checked
retest sort fits wanted book at low high base f g part e h s =
    let same_count : checked fits 4 at book at ≡ checked wanted 4 at book at = rw e in
    record {
      reads =
          ap (λ (c : Checked ℕ). and_then c (λ n next. records (size_of sort) (each_of sort book f) n 0 0 book next))
          (sym same_count)
          ∙ s.reads;
      valued = s.valued;
      few = few_more part s.few;
      kept = kept_wider base (base + 1 + 2 * low) base (base + 1 + 2 * high) f g (omega arith) (omega arith) s.kept;
    }
  where
    few_more : (part : Part) → Few part (count_in g base) low → Few part (count_in g base) high
    few_more (Ok r) l = omega arith
    few_more (Err d) l = tt

-- ---- The five sections
module _ (book f g : List ℕ) (head : Part) (s : HeadsRead book f g head) where
  pub sections_heads : {d : Refusal} → head ≡ Err d → SectionsRead book f g head
  sections_heads told =
      record {
        reads = λ K. s.reads _ ∙ follow_refused head _ _ told;
        kept = kept_wider 0 323 0 1091 f g (omega arith) (omega arith) s.kept;
      }

  module _ (r : Read) (told : head ≡ Ok r) (binders : Bool)
      (binders_is : binders ≡ has_binder Sought.Any book g) (h : List ℕ) (body : Part)
      (s' : Section (Sort.Variant binders) (variants_fit r.value) book r.next 128 323 g h body) where
    all_is : r.value ≡ total (λ n. n.count) (nonterminals_in book g)
    all_is = value_of told _ s.valued

    -- where there are no binders, none is found
    abbrev binder_at : (Nonterminal → ℕ) → ℕ → Bool
    binder_at at = of_binder at (nonterminals_in book g)

    found : (at : Nonterminal → ℕ) → (λ i. binders && binder_at at i) ≡ binder_at at
    found at = fun_ext (λ i. rw binders_is (among_any at i (nonterminals_in book g)))

    variants_read : section (variants_fit (total (λ n. n.count) (nonterminals_in book g))) (λ v. v.1.count)
        (λ j first. placed (variant (binder_at (λ n. n.first) j) first)) book r.next
        ≡ reading_of body (λ v. placed_in book h)
    variants_read =
        ap (λ (binder : ℕ → Bool). section (variants_fit (total (λ n. n.count) (nonterminals_in book g)))
        (λ v. v.1.count) (λ j first. placed (variant (binder j) first)) book r.next) (sym (found (λ n. n.first)))
        ∙ rw (← all_is) s'.reads

    pub sections_variants : {d : Refusal} → body ≡ Err d → SectionsRead book f h body
    sections_variants told' =
        record {
          reads =
              λ K. s.reads _ ∙ follow_read head _ told ∙ follow _ body (placed_in book h) _ variants_read
              ∙ follow_refused body _ _ told';
          kept = kept_join 0 323 323 580 0 1091 f g h (omega arith) (omega arith) (omega arith)
              (omega arith) s.kept s'.kept;
        }

    few_words_read : count_in g 0 ≤ 64
    few_words_read = few_read _ _ told s.few_words

    few_names_read : count_in g 129 ≤ 64
    few_names_read = few_read _ _ told s.few_names

    few_nonterminals_read : count_in g 258 ≤ 32
    few_nonterminals_read = few_read _ _ told s.few_nonterminals

    module _ (r' : Read) (told' : body ≡ Ok r') (i : List ℕ) (last : Part)
        (s'' : Section (Sort.Step (count_in h 0) (count_in h 258) binders) (eqb r'.value) book r'.next 255 580 h i
        last) where
      after_heads : KeptOutside 323 1091 g i
      after_heads =
          kept_join 323 580 580 1091 323 1091 g h i (omega arith) (omega arith) (omega arith)
          (omega arith) s'.kept s''.kept

      few_variants_read : count_in h 323 ≤ 128
      few_variants_read = few_read _ _ told' s'.few

      nonterminals_still : nonterminals_in book h ≡ nonterminals_in book g
      nonterminals_still =
          records_stay Sort.Nonterminal book 258 323 g h s'.kept.below (omega (arith, few_nonterminals_read))

      steps_read : section (eqb (total (λ v. v.1.count) (placed_in book h))) (λ s. 0)
          (λ k first. step (length (entries_in book g 0)) (length (nonterminals_in book g))
          (binder_at (first_step (placed_in book h)) k)) book r'.next
          ≡ reading_of last (λ v. steps_in book i)
      steps_read =
          let total_is = value_of told' _ s'.valued in
          let words_are : count_in h 0 ≡ length (entries_in book g 0) =
          s'.kept.below 0 (omega arith) ∙ sym (up_to_length _ (count_in g 0)) in
          let nonterminals_are : count_in h 258 ≡ length (nonterminals_in book g) =
          s'.kept.below 258 (omega arith) ∙ sym (up_to_length _ (count_in g 258)) in
          ap (λ (binder : ℕ → Bool). section (eqb (total (λ v. v.1.count) (placed_in book h))) (λ s. 0)
          (λ k first. step (length (entries_in book g 0)) (length (nonterminals_in book g)) (binder k)) book r'.next)
          (sym (found (first_step (placed_in book h))))
          ∙ rw (← total_is, ← words_are, ← nonterminals_are, ← nonterminals_still) s''.reads

      pub sections_all : SectionsRead book f i last
      sections_all =
          let words_stay =
          records_stay (Sort.Entry 1) book 0 323 g i after_heads.below (omega (arith, few_words_read)) in
          let names_stay =
          records_stay (Sort.Entry 7) book 129 323 g i after_heads.below (omega (arith, few_names_read)) in
          let nonterminals_stay =
          records_stay Sort.Nonterminal book 258 323 g i after_heads.below (omega (arith, few_nonterminals_read)) in
          let variants_stay =
          records_stay (Sort.Variant false) book 323 580 h i s''.kept.below (omega (arith, few_variants_read)) in
          record {
            reads = λ K.
                s.reads _
                ∙ follow_read head _ told
                ∙ follow _ body (placed_in book h) _ variants_read
                ∙ follow_read body _ told'
                ∙ follow _ last (steps_in book i)
                (λ x p. K (entries_in book g 0) (entries_in book g 129) (nonterminals_in book g) (placed_in book h) x p)
                steps_read
                ∙ rw (words_stay, names_stay, nonterminals_stay, variants_stay);
            kept = kept_join 0 323 323 1091 0 1091 f g i (omega arith) (omega arith) (omega arith)
                (omega arith) s.kept after_heads;
          }
