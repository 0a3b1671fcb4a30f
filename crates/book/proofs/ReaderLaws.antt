-- Laws of readers, for the functions that read one byte and for those above them.
--
--   between-                        a number inside, under and over a range
--   checked-, field-                a byte of the book: good, bad, missing
--   same_test, fixed-               a test under another name; the test of a byte that a binder's record fixes
--   read, stopped, stop, handed     what follows a part that was read, and one that was refused
--   no_value, value_of, ..          the value of a part
--   after, records-, total_snoc         records, of which some have been read
--
-- Not here: the records themselves (RecordLaws, EntryLaws), and records with their index (SectionLaws).
use Rattle.std.specs.Prelude.{◌≡◌, refl, Result, Ok, Err, IsErrAnd, Bool, true, false, leb, ltb, length, get_or}
use Rattle.std.proofs.Common.{sym, ap, ◌∙◌, lt-ltb, le-ltb, le-leb, leb-true, ltb-true, ltb-false, eqb-true}
use Rattle.std.proofs.Math.Path.{fun_ext}
use Rattle.std.proofs.Math.Bool.{and-false}
use mathlib.Core.List.{List, [], ◌∷◌, ◌++◌, append-nil, append_assoc}
use Prim.Native.Nat.{ℕ, suc, ◌+◌, ◌-◌, ◌≤◌, ◌<◌}
use native.Mathlib.Omega.{arith}
use Rattle.std.proofs.Math.Nat.{sub-zero}
use Rattle.std.proofs.lemmas.Bool.{lt-leb}
use Rattle.characters.specs.Cases.{by_test, clash}
use Rattle.characters.specs.Classes.{between}
use Rattle.book.specs.Check.{Checked, refused, accepted, and_then, Reader, checked, records, fixed, total}
use Rattle.book.specs.Index.{Part, refused_as, reading_of, Valued, Small}
use Rattle.book.specs.declared.parts.Read.{Read}
use Rattle.book.specs.declared.refusals.Refusal.{Refusal}
use Rattle.std.specs.Prelude.{cond, eqb}
use Rattle.std.proofs.lemmas.Bool.{eqb-false}

-- ---- Ranges
pub between_inside : (low high b : ℕ) → low ≤ b → b ≤ high → between low high b ≡ true
between_inside low high b h k = rw (le-leb low b h, le-leb b high k)

pub between_under : (low high b : ℕ) → b < low → between low high b ≡ false
between_under low high b h = rw (lt-leb low b h)

pub between_over : (low high b : ℕ) → high < b → between low high b ≡ false
between_over low high b h = rw (lt-leb b high h) (and-false (leb low b))

pub between_high : (low high b : ℕ) → between low high b ≡ true → b ≤ high
between_high low high b e = by_test (leb b high) (λ t. leb-true b high t) (λ t. clash e (rw t (and-false (leb low b))))

pub between_low : (low high b : ℕ) → between low high b ≡ true → low ≤ b
between_low low high b e = by_test (leb low b) (λ t. leb-true low b t) (λ t. clash e (rw t refl))

pub between_one : (n b : ℕ) → between n n b ≡ eqb b n
between_one n b =
    by_test (eqb b n)
    (λ t. let e = eqb-true b n t in between_inside n n b (omega arith) (omega arith) ∙ sym t)
    (λ t.
    let other = eqb-false b n t in
    by_test (ltb b n)
    (λ l. between_under n n b (ltb-true b n l) ∙ sym t)
    (λ l. between_over n n b (omega (arith, ltb-false b n l, other)) ∙ sym t))

-- ---- A byte
module _ (fits : ℕ → Bool) (number at : ℕ) (book : List ℕ) (place : ℕ) where
  pub checked_bad : place < length book → fits (get_or book place 0) ≡ false →
      checked fits number at book place ≡ refused number at
  unfolding checked
  checked_bad h e = rw (lt-ltb place (length book) h, e)

  pub checked_short : length book ≤ place → checked fits number at book place ≡ refused 3 (length book)
  unfolding checked
  checked_short h = rw (le-ltb place (length book) h)

  pub checked_good : place < length book → fits (get_or book place 0) ≡ true →
      checked fits number at book place ≡ accepted (get_or book place 0) (place + 1)
  unfolding checked
  checked_good h e = rw (lt-ltb place (length book) h, e)

  -- a byte that was read is the one at the place, which the book has, and passes the test
  pub record ByteRead (v q : ℕ) : Type 0 where
    pub inside : place < length book
    pub value : v ≡ get_or book place 0
    pub next : q ≡ place + 1
    pub fitted : fits v ≡ true

  pub checked_told : (v q : ℕ) → checked fits number at book place ≡ accepted v q → ByteRead v q
  checked_told v q e =
      by_test (ltb place (length book))
      (λ t. let h = ltb-true place (length book) t in
      by_test (fits (get_or book place 0))
      (λ good. let g = checked_good h good in
      let value : v ≡ get_or book place 0 = cc in
      let next : q ≡ place + 1 = cc in
      record { inside = h; value = value; next = next; fitted = ap fits value ∙ good })
      (λ bad. let b = checked_bad h bad in let z : ◌≡◌ {A = ℕ} 0 1 = cc in absurd (omega arith)))
      (λ t.
      let s = checked_short (ltb-false place (length book) t) in let z : ◌≡◌ {A = ℕ} 0 1 = cc in absurd (omega arith))

-- a byte that the code has read, against a range
module _ (low high number at : ℕ) (book : List ℕ) (place value : ℕ) (h : place < length book)
    (value_is : value ≡ get_or book place 0) where
  pub field_low : value < low → checked (between low high) number at book place ≡ refused number at
  field_low l =
      checked_bad (between low high) number at book place h (between_under low high (get_or book place 0) (omega arith))

  pub field_high : high < value → checked (between low high) number at book place ≡ refused number at
  field_high l =
      checked_bad (between low high) number at book place h (between_over low high (get_or book place 0) (omega arith))

  pub field_read : low ≤ value → value ≤ high →
      checked (between low high) number at book place ≡ accepted value (place + 1)
  field_read l k =
      checked_good (between low high) number at book place h
      (between_inside low high (get_or book place 0) (omega arith) (omega arith)) ∙ rw value_is

-- the same test under another name
pub same_test : (fits wanted : ℕ → Bool) → ((b : ℕ) → fits b ≡ wanted b) →
    (number at : ℕ) (book : List ℕ) (place : ℕ) {c : Checked ℕ} →
    checked fits number at book place ≡ c → checked wanted number at book place ≡ c
same_test fits wanted h number at book place e =
    ap (λ (f : ℕ → Bool). checked f number at book place) (sym (fun_ext h)) ∙ e

-- a binder's byte, which is n, and another's, up to `high`
module _ (n high number at : ℕ) (book : List ℕ) (place : ℕ) {c : Checked ℕ} where
  pub fixed_range : (binder : Bool) (low top : ℕ) → low ≡ cond binder n 0 → top ≡ cond binder n high →
      checked (between low top) number at book place ≡ c →
      checked (fixed binder n (between 0 high)) number at book place ≡ c
  fixed_range true low top low-is top_is e =
      same_test (between n n) (λ b. eqb b n) (between_one n) number at book place (rw (low-is, top_is) at e)
  fixed_range false low top low-is top_is e = rw (low-is, top_is) at e

-- it is at most `most`, where both are
pub fixed_most : (binder : Bool) (n high most b : ℕ) → n ≤ most → high ≤ most →
    fixed binder n (between 0 high) b ≡ true → b ≤ most
fixed_most true n high most b h k e = omega (arith, eqb-true b n e)
fixed_most false n high most b h k e = omega (arith, between_high 0 high b e)

-- ---- What follows a part
module _ {A : Type 0} (c : Checked A) (part : Part) (f : ℕ → A) (e : c ≡ reading_of part f) where
  pub read : {r : Read} → part ≡ Ok r → c ≡ accepted (f r.value) r.next
  read told = e ∙ ap (λ (p : Part). reading_of p f) told

  pub stopped : {d : Refusal} → part ≡ Err d → c ≡ refused_as d
  stopped told = e ∙ ap (λ (p : Part). reading_of p f) told

  -- a refusal is handed on
  pub stop : {B : Type 0} (K : A → ℕ → Checked B) (g : ℕ → B) {d : Refusal} → part ≡ Err d →
      and_then c K ≡ reading_of part g
  stop K g told = rw (stopped told, told)

-- a `?` returns the refusal that it was given
pub passed_up : {A : Type 0} {result : Result A Refusal} {d : Refusal} → IsErrAnd result (λ e. e ≡ d) → result ≡ Err d
passed_up {result = Ok x} h = absurd h
passed_up {result = Err e} h = ap Err h

-- a refusal as a part says it
pub handed : {A : Type 0} {c : Checked A} {part : Part} (g : ℕ → A) {d : Refusal} → c ≡ refused_as d →
    part ≡ Err d → c ≡ reading_of part g
handed g e told = e ∙ sym (ap (λ (x : Part). reading_of x g) told)

-- a part that was refused has no value
pub no_value : {part : Part} {d : Refusal} → part ≡ Err d → (k : ℕ) → Valued part k
no_value told k = rw told tt

pub no_size : {part : Part} {d : Refusal} → part ≡ Err d → Small part
no_size told = rw told tt

pub small_of : {part : Part} {r : Read} → part ≡ Ok r → Small part → r.value ≤ 255
small_of told h = rw told at h

pub value_of : {part : Part} {r : Read} → part ≡ Ok r → (k : ℕ) → Valued part k → r.value ≡ k
value_of told k h = rw told at h

-- ---- Records. `before` has been read; what is left is read from here
module _ {A : Type 0} (size : A → ℕ) (one : ℕ → ℕ → Reader A) (book : List ℕ) where
  abbrev pub after : List A → Checked (List A) → Checked (List A)
  after before c = and_then c (λ xs next. accepted (before ++ xs) next)

  after_nothing : (c : Checked (List A)) → after [] c ≡ c
  after_nothing (refused number place) = refl
  after_nothing (accepted xs next) = refl

  after_one : (before : List A) (x : A) (c : Checked (List A)) →
      after before (and_then c (λ xs next. accepted (x ∷ xs) next)) ≡ after (before ++ (x ∷ [])) c
  after_one before x (refused number place) = refl
  after_one before x (accepted xs next) = ap (λ (l : List A). accepted l next) (sym (append_assoc before (x ∷ []) xs))

  pub records_begins : (n sum place : ℕ) →
      after [] (records size one (n - 0) 0 sum book place) ≡ records size one n 0 sum book place
  records_begins n sum place = rw sub-zero (after_nothing (records size one n 0 sum book place))

  -- i of them have been read
  module _ (before : List A) (n i sum place : ℕ) where
    pub records_refused : i < n → {number at : ℕ} → one i sum book place ≡ refused number at →
        after before (records size one (n - i) i sum book place) ≡ refused number at
    unfolding records
    records_refused h e = let left : n - i ≡ suc (n - (i + 1)) = omega arith in rw left (rw e)

    pub records_on : i < n → {x : A} {next : ℕ} → one i sum book place ≡ accepted x next →
        after before (records size one (n - i) i sum book place)
        ≡ after (before ++ (x ∷ [])) (records size one (n - (i + 1)) (i + 1) (sum + size x) book next)
    unfolding records
    records_on h {x} {next} e =
        let left : n - i ≡ suc (n - (i + 1)) = omega arith in
        rw left (rw e (after_one before x (records size one (n - (i + 1)) (i + 1) (sum + size x) book next)))

    pub records_ends : n ≤ i → after before (records size one (n - i) i sum book place) ≡ accepted before place
    unfolding records
    records_ends h =
        let none_left : n - i ≡ 0 = omega arith in
        rw none_left (ap (λ (l : List A). accepted l place) (append-nil before))

pub total_snoc : {A : Type 0} (size : A → ℕ) (xs : List A) (x : A) →
    total size (xs ++ (x ∷ [])) ≡ total size xs + size x
total_snoc size [] x = omega arith
total_snoc size (y ∷ xs) x = let h = total_snoc size xs x in omega arith
