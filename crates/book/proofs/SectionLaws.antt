-- Laws of records with their index, in which two numbers are stored for each record.
--
--   upTo-                 a list of a function's values
--   Stored, stored        two numbers stored side by side
--   Begun, begun-         the loop over the records: what has been read stands in the index
--   Same, -stay, -stays   numbers of the index that later ones leave: records, and what tells a binder's
--   section-, count_fits  a section: its count and its records
--
-- Not here: sections one after the other (WholeLaws).
use Rattle.std.specs.Prelude.{◌≡◌, Ok, Err, Bool, false, ◌&&◌, List, [], ◌∷◌, ◌++◌, ℕ, zero, suc, ◌+◌, ◌-◌, ◌*◌, ◌≤◌}
use Rattle.std.specs.Prelude.{◌<◌}
use Rattle.std.specs.Prelude.{length, get_or, set}
use Rattle.std.proofs.Math.Path.{refl, fun_ext}
use Rattle.std.proofs.Common.{sym, ap, ◌∙◌, arith, add-one, length-set, get_or-set_same, get_or-set_other}
use Rattle.characters.specs.Classes.{between}
use Rattle.book.specs.Check.{accepted, checked, records, of_binder, first_step, total}
use Rattle.book.specs.Index.{Part, refused_as, KeptOutside, One, RecordsRead, Few, Section, one_of, size_of}
use Rattle.book.specs.Index.{record_from, records_in}
use Rattle.book.specs.Index.{up_to, count_in, place_in, first_in, nonterminals_in, binder_in, each_of, Before}
use Rattle.book.proofs.ReaderLaws.{between_high, checked_told, after}
use Rattle.book.proofs.ReaderLaws.{records_begins, records_refused, records_on, records_ends}
use Rattle.book.proofs.ReaderLaws.{read, stopped, handed, no_value, value_of, total_snoc}
use Rattle.book.specs.declared.parts.Read.{Read}
use Rattle.book.specs.declared.refusals.Refusal.{Refusal}
use Rattle.book.specs.declared.sections.Sort.{Sort}
use Rattle.book.specs.declared.records.Variant.{Variant}

-- ---- The values of a function below n
pub up_to_same : {A : Type 0} (n : ℕ) (f g : ℕ → A) → ((k : ℕ) → k < n → f k ≡ g k) → up_to n f ≡ up_to n g
unfolding up_to
up_to_same zero f g h = refl
up_to_same (suc n) f g h =
    let rest = up_to_same n f g (λ k l. h k (omega arith)) in
    let last = h n (omega arith) in
    rw (rest, last)

pub up_to_more : {A : Type 0} (n : ℕ) (f : ℕ → A) → up_to (n + 1) f ≡ up_to n f ++ (f n ∷ [])
unfolding up_to
up_to_more n f = rw add-one

-- ---- Two numbers stored at s and s + 1
pub record Stored (f g : List ℕ) (s a b : ℕ) : Type 0 where
  pub here : get_or g s 0 ≡ a
  pub next : get_or g (s + 1) 0 ≡ b
  pub others : (k : ℕ) → (k ≡ s → ⊥) → (k ≡ s + 1 → ⊥) → get_or g k 0 ≡ get_or f k 0

pub stored : (f : List ℕ) (s a b : ℕ) → s + 1 < length f → Stored f (set (set f s a) (s + 1) b) s a b
stored f s a b h =
    record {
      here = get_or-set_other (set f s a) (s + 1) s b 0 (λ e. omega arith) ∙ get_or-set_same f s a 0 (omega arith);
      next = get_or-set_same (set f s a) (s + 1) b 0 (simp length-set h);
      others = λ k n m. get_or-set_other (set f s a) (s + 1) k b 0 m ∙ get_or-set_other f s k a 0 n;
    }

-- ---- What tells a binder's records, when only numbers behind it are stored
-- the numbers before a place are as they were
abbrev pub Same : ℕ → List ℕ → List ℕ → Type 0
Same low f g = (k : ℕ) → k < low → get_or g k 0 ≡ get_or f k 0

-- a section's records, when only numbers behind it are stored
module _ (sort : Sort) (book : List ℕ) (base low : ℕ) (f g : List ℕ) (same : Same low f g)
    (before : base + 1 + 2 * count_in f base ≤ low) where
  pub count_stays : count_in g base ≡ count_in f base
  count_stays = same base (omega arith)

  pub records_stay : records_in sort book g base (count_in g base) ≡ records_in sort book f base (count_in f base)
  records_stay =
      rw count_stays
      (up_to_same (count_in f base) _ _
      (λ k l.
      let p : place_in g base k ≡ place_in f base k = same (base + 1 + 2 * k) (omega arith) in
      let q : first_in g base k ≡ first_in f base k = same (base + 2 + 2 * k) (omega arith) in
      rw (p, q)))

module _ (book : List ℕ) (base : ℕ) (f g : List ℕ) (same : Same base f g) where
  pub binder_stays : (sort : Sort) → Before sort base f → (i : ℕ) → binder_in sort book g i ≡ binder_in sort book f i
  binder_stays (Sort.Entry greatest) before i = refl
  binder_stays Sort.Nonterminal before i = refl
  binder_stays (Sort.Variant binders) before i = rw (records_stay Sort.Nonterminal book 258 base f g same before)
  binder_stays (Sort.Step words nonterminals binders) before i =
      rw (records_stay Sort.Nonterminal book 258 base f g same before.0)
      (ap (λ (variants : List (ℕ × Variant)). binders && of_binder (first_step variants) (nonterminals_in book f) i)
      (records_stay (Sort.Variant false) book 323 base f g same before.1))

  pub each_stays : (sort : Sort) → Before sort base f → each_of sort book g ≡ each_of sort book f
  each_stays sort before =
      ap (λ (binder : ℕ → Bool). λ (i first : ℕ). one_of sort (binder i) first) (fun_ext (binder_stays sort before))

  pub before_stays : (sort : Sort) → Before sort base f → Before sort base g
  before_stays (Sort.Entry greatest) before = tt
  before_stays Sort.Nonterminal before = tt
  before_stays (Sort.Variant binders) before = rw (count_stays Sort.Nonterminal book 258 base f g same before) before
  before_stays (Sort.Step words nonterminals binders) before = (
    rw (count_stays Sort.Nonterminal book 258 base f g same before.0) before.0,
    rw (count_stays (Sort.Variant false) book 323 base f g same before.1) before.1,
  )

pub put_behind : (base value : ℕ) (f g : List ℕ) → g ≡ set f base value → Same base f g
put_behind base value f g e k l = rw e (get_or-set_other f base k value 0 (λ z. omega arith))

-- ---- Records under way: i records have been read, and their numbers stand in the index
pub record Begun (sort : Sort) (book : List ℕ) (place count base : ℕ) (f g : List ℕ) (i at sum : ℕ) : Type 0 where
  pub reads : after (size_of sort) (each_of sort book f) book (records_in sort book g base i)
      (records (size_of sort) (each_of sort book f) (count - i) i sum book at)
      ≡ records (size_of sort) (each_of sort book f) count 0 0 book place
  pub totals : sum ≡ total (size_of sort) (records_in sort book g base i)
  pub kept : KeptOutside (base + 1) (base + 1 + 2 * count) f g

module _ (sort : Sort) (book : List ℕ) (place count base : ℕ) (f : List ℕ) where
  pub begun_first : Begun sort book place count base f f 0 place 0
  unfolding up_to
  begun_first = record {
    reads = records_begins (size_of sort) (each_of sort book f) book count 0 place;
    totals = refl;
    kept = record { below = λ k l. refl; above = λ k l. refl };
  }

  module _ (g g' : List ℕ) (i at sum : ℕ) (less : i < count) (b : Begun sort book place count base f g i at sum)
      (s : Stored g g' (base + 1 + 2 * i) at sum)
      (told_before : Before sort base f) where
    -- the records before are where they were
    before : records_in sort book g' base i ≡ records_in sort book g base i
    before = up_to_same i _ _ (λ k l.
        let p : place_in g' base k ≡ place_in g base k =
        s.others (base + 1 + 2 * k) (λ e. omega arith) (λ e. omega arith) in
        let q : first_in g' base k ≡ first_in g base k =
        s.others (base + 2 + 2 * k) (λ e. omega arith) (λ e. omega arith) in
        rw (p, q))

    here : record_from sort book (place_in g' base i) (first_in g' base i) ≡ record_from sort book at sum
    here =
        let slot : base + 2 + 2 * i ≡ base + 1 + 2 * i + 1 = omega arith in
        let q : first_in g' base i ≡ sum = rw slot s.next in
        rw (s.here, q)

    one_more : records_in sort book g' base (i + 1) ≡ records_in sort book g base i ++
        (record_from sort book at sum ∷ [])
    one_more = up_to_more i _ ∙ rw (before, here)

    kept_so : KeptOutside (base + 1) (base + 1 + 2 * count) f g'
    kept_so = record {
      below = λ k l. s.others k (λ e. omega arith) (λ e. omega arith) ∙ b.kept.below k l;
      above = λ k l. s.others k (λ e. omega arith) (λ e. omega arith) ∙ b.kept.above k l;
    }

    own : binder_in sort book g' i ≡ binder_in sort book f i
    own = binder_stays book base f g' (λ k l. kept_so.below k (omega arith)) sort told_before i

    pub begun_on : (part : Part) {r : Read} → One sort (binder_in sort book g' i) book at part →
        part ≡ Ok r → Begun sort book place count base f g' (i + 1) r.next (sum + r.value)
    begun_on part {r} o told =
        let x = record_from sort book at sum in
        let e : each_of sort book f i sum book at ≡ accepted x r.next =
        rw (← own) (read (each_of sort book g' i sum book at) part (λ v. x) (o.reads sum) told) in
        let v : r.value ≡ size_of sort x = value_of told (size_of sort x) (o.valued sum) in
        record {
          reads = rw (one_more, v)
              (sym (records_on (size_of sort) (each_of sort book f) book (records_in sort book g base i) count i sum at
              less e)
              ∙ b.reads);
          totals = rw (one_more, total_snoc (size_of sort) (records_in sort book g base i) x, v, b.totals);
          kept = kept_so;
        }

    pub begun_stop : (part : Part) {d : Refusal} → One sort (binder_in sort book g' i) book at part →
        part ≡ Err d → RecordsRead sort book place count base f g' part
    begun_stop part o told =
        let x = record_from sort book at sum in
        let e = rw own at (stopped (each_of sort book g' i sum book at) part (λ v. x) (o.reads sum) told) in
        record {
          reads = handed _ (sym b.reads
              ∙ records_refused (size_of sort) (each_of sort book f) book (records_in sort book g base i) count i sum at
              less e) told;
          valued = no_value told _;
          kept = kept_so;
        }

  pub begun_last : (g : List ℕ) (i at sum : ℕ) → i ≤ count → count ≤ i → Begun sort book place count base f g i at sum →
      RecordsRead sort book place count base f g (Ok (record { value = sum; next = at }))
  begun_last g i at sum h k b =
      let all : i ≡ count = omega arith in
      record {
        reads = sym b.reads
            ∙ records_ends (size_of sort) (each_of sort book f) book (records_in sort book g base i) count i sum at k
            ∙ rw all;
        valued = rw all at b.totals;
        kept = b.kept;
      }

-- ---- Sections
pub not_few : {part : Part} {d : Refusal} (k high : ℕ) → part ≡ Err d → Few part k high
not_few k high told = rw told tt

pub few_of : (part : Part) {k high : ℕ} → k ≤ high → Few part k high
few_of (Ok r) h = h
few_of (Err d) h = tt

pub stored_by : (f g h : List ℕ) (s a b : ℕ) → s + 1 < length f → g ≡ set f s a → h ≡ set g (s + 1) b → Stored f h s a b
stored_by f g h s a b l e k =
    let whole : h ≡ set (set f s a) (s + 1) b = k ∙ rw e in
    rw whole (stored f s a b l)

module _ (sort : Sort) (fits : ℕ → Bool) (book : List ℕ) (place high base : ℕ) (f : List ℕ) where
  pub section_stop : (part : Part) {d : Refusal} → checked fits 4 place book place ≡ refused_as d → part ≡ Err d →
      Section sort fits book place high base f f part
  section_stop part e told =
      record {
        reads = handed _ (rw e) told;
        valued = no_value told _;
        few = not_few _ _ told;
        kept = record { below = λ k l. refl; above = λ k l. refl };
      }

  module _ (value next : ℕ) (e : checked fits 4 place book place ≡ accepted value next) (fitted : value ≤ high) where
    pub section_read : (g h : List ℕ) (part : Part) → base < length f → g ≡ set f base value → Before sort base f →
        RecordsRead sort book next value base g h part → Section sort fits book place high base f h part
    section_read g h part l e' before r =
        let counted : count_in h base ≡ value =
        r.kept.below base (omega arith) ∙ rw e' (get_or-set_same f base value 0 l) in
        let each = each_stays book base f g (put_behind base value f g e') sort before in
        record {
          reads = rw (e, counted, ← each) r.reads;
          valued = rw counted r.valued;
          few = few_of part (omega arith);
          kept = record {
            below = λ k b. r.kept.below k (omega arith) ∙ rw e' (get_or-set_other f base k value 0 (λ z. omega arith));
            above = λ k b. r.kept.above k (omega arith) ∙ rw e' (get_or-set_other f base k value 0 (λ z. omega arith));
          };
        }

-- a count in a range
pub count_fits : (low high : ℕ) (book : List ℕ) (place value next : ℕ) →
    checked (between low high) 4 place book place ≡ accepted value next → value ≤ high
count_fits low high book place value next e =
    between_high low high value (checked_told (between low high) 4 place book place value next e).fitted
