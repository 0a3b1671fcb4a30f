-- What was read of a book, taken apart; and laws of the records of a section, read one after another.
--
--   by_then, by_byte    two parts, the second from where the first ended; a byte, and what follows it
--   records_first       one, and then the others
--   records_split       some, and then the others
--   records_length      so many as were asked for
--   records_end         where they end
--   records_inside      that is within the bytes
--   records_each        what holds of every record that is read
--   records_within      where each begins at the sum of the sizes before it, it ends within the sum of all
--   records_total       that sum, where a size is bounded
use Rattle.std.specs.Prelude.{◌≡◌, Bool, get_or}
use Rattle.std.proofs.Math.Path.{refl, sym, ap, subst}
use Rattle.std.proofs.Common.{◌∙◌, suc-mul}
use mathlib.Core.List.{List, [], ◌∷◌, ◌++◌}
use Prim.Native.Nat.{ℕ, zero, suc, ◌+◌, ◌*◌, ◌≤◌}
use native.Mathlib.Omega.{arith}
use Rattle.std.proofs.Math.ListN.{length}
use Rattle.book.specs.Check.{Checked, refused, accepted, and_then, Reader, checked, records, total}
use Rattle.book.proofs.ReaderLaws.{ByteRead, checked_told}

-- ---- What was read
pub refused_accepted : {A : Type 0} {number place end : ℕ} {x : A} → refused number place ≡ accepted x end → ⊥
refused_accepted e = let z : ◌≡◌ {A = ℕ} 0 1 = cc in omega arith

pub accepted_inj : {A : Type 0} {x y : A} {p q : ℕ} → accepted x p ≡ accepted y q → x ≡ y
accepted_inj e = cc

pub accepted_end : {A : Type 0} {x y : A} {p q : ℕ} → accepted x p ≡ accepted y q → p ≡ q
accepted_end e = cc

pub by_then : {A B P : Type 0} (c : Checked A) (f : A → ℕ → Checked B) {y : B} {end : ℕ} →
    and_then c f ≡ accepted y end → ((x : A) (at : ℕ) → c ≡ accepted x at → f x at ≡ accepted y end → P) → P
by_then (refused number place) f e k = absurd (refused_accepted e)
by_then (accepted x at) f e k = k x at refl e

-- what follows a byte begins at the next place
pub by_byte : {B P : Type 0} (fits : ℕ → Bool) (number at : ℕ) (bytes : List ℕ) (place next : ℕ) → next ≡ place + 1 →
    (f : ℕ → ℕ → Checked B) {y : B} {end : ℕ} → and_then (checked fits number at bytes place) f ≡ accepted y end →
    (ByteRead fits number at bytes place (get_or bytes place 0) next → f (get_or bytes place 0) next ≡ accepted y end →
    P) → P
by_byte fits number at bytes place next is f e k =
    by_then (checked fits number at bytes place) f e (λ v q told then.
    let b = checked_told fits number at bytes place v q told in
    let same : q ≡ next = b.next ∙ sym is in
    k (record { inside = b.inside; value = refl; next = is; fitted = rw b.value at b.fitted })
    (rw (b.value, same) at then))

-- ---- Records
module _ {A : Type 0} (size : A → ℕ) (one : ℕ → ℕ → Reader A) (bytes : List ℕ) where
  -- suc n records, numbered from i, are one, and then n more
  pub record First (n i sum place : ℕ) (ys : List A) (end : ℕ) : Type 0 where
    pub first : A
    pub others : List A
    pub at : ℕ
    pub read : one i sum bytes place ≡ accepted first at
    pub read_on : records size one n (i + 1) (sum + size first) bytes at ≡ accepted others end
    pub all : ys ≡ first ∷ others

  pub records_first : (n i sum place : ℕ) (ys : List A) (end : ℕ) →
      records size one (suc n) i sum bytes place ≡ accepted ys end → First n i sum place ys end
  unfolding records
  records_first n i sum place ys end e =
      by_then (one i sum bytes place)
      (λ x at. and_then (records size one n (i + 1) (sum + size x) bytes at)
      (λ others last. accepted (x ∷ others) last)) e
      (λ x at told next.
      by_then (records size one n (i + 1) (sum + size x) bytes at) (λ others last. accepted (x ∷ others) last)
      next (λ others last read all.
      let ended : last ≡ end = accepted_end all in
      record {
        first = x;
        others = others;
        at = at;
        read = told;
        read_on = rw ended at read;
        all = sym (accepted_inj all);
      }))

  -- a single one
  pub record Single (i sum place : ℕ) (ys : List A) (end : ℕ) : Type 0 where
    pub only : A
    pub read : one i sum bytes place ≡ accepted only end
    pub all : ys ≡ only ∷ []

  pub records_single : (i sum place : ℕ) (ys : List A) (end : ℕ) →
      records size one 1 i sum bytes place ≡ accepted ys end → Single i sum place ys end
  unfolding records
  records_single i sum place ys end e =
      let f = records_first 0 i sum place ys end e in
      let last : f.at ≡ end = accepted_end f.read_on in
      record {
        only = f.first;
        read = rw last at f.read;
        all = f.all ∙ ap (λ (l : List A). f.first ∷ l) (sym (accepted_inj f.read_on));
      }

  pub records_length : (n i sum place : ℕ) (xs : List A) (end : ℕ) →
      records size one n i sum bytes place ≡ accepted xs end → length xs ≡ n
  unfolding records
  records_length zero i sum place xs end e = sym (ap length (accepted_inj e))
  records_length (suc n) i sum place xs end e =
      let f = records_first n i sum place xs end e in
      rw f.all (ap suc (records_length n (i + 1) (sum + size f.first) f.at f.others end f.read_on))

  -- a record has so many bytes
  pub records_end : (width : A → ℕ) → ((i sum place : ℕ) (x : A) (end : ℕ) → one i sum bytes place ≡ accepted x end →
      end ≡ place + width x) → (n i sum place : ℕ) (xs : List A) (end : ℕ) →
      records size one n i sum bytes place ≡ accepted xs end → end ≡ place + total width xs
  unfolding records
  records_end width each zero i sum place xs end e =
      let none : xs ≡ [] = sym (accepted_inj e) in
      let here : place ≡ end = accepted_end e in
      rw none (omega arith)
  records_end width each (suc n) i sum place xs end e =
      let f = records_first n i sum place xs end e in
      let here = each i sum place f.first f.at f.read in
      let rest = records_end width each n (i + 1) (sum + size f.first) f.at f.others end f.read_on in
      rw f.all (omega arith)

  -- each ends within the bytes
  pub records_inside : ((i sum place : ℕ) (x : A) (end : ℕ) → one i sum bytes place ≡ accepted x end →
      end ≤ length bytes) → (n i sum place : ℕ) (xs : List A) (end : ℕ) → place ≤ length bytes →
      records size one n i sum bytes place ≡ accepted xs end → end ≤ length bytes
  unfolding records
  records_inside each zero i sum place xs end h e = let here : place ≡ end = accepted_end e in omega arith
  records_inside each (suc n) i sum place xs end h e =
      let f = records_first n i sum place xs end e in
      records_inside each n (i + 1) (sum + size f.first) f.at f.others end
      (each i sum place f.first f.at f.read) f.read_on

  -- n + m records are n, and then m more
  pub record Split (n m i sum place : ℕ) (ys : List A) (end : ℕ) : Type 0 where
    pub first : List A
    pub others : List A
    pub at : ℕ
    pub read : records size one n i sum bytes place ≡ accepted first at
    pub read_on : records size one m (i + n) (sum + total size first) bytes at ≡ accepted others end
    pub all : ys ≡ first ++ others

  split_more : (n m i sum place : ℕ) (x : A) (at : ℕ) (ys : List A) (end : ℕ) → one i sum bytes place ≡ accepted x at →
      Split n m (i + 1) (sum + size x) at ys end → Split (suc n) m i sum place (x ∷ ys) end
  unfolding records
  split_more n m i sum place x at ys end told s =
      let next : i + 1 + n ≡ i + suc n = omega arith in
      record {
        first = x ∷ s.first;
        others = s.others;
        at = s.at;
        read = rw (told, s.read) refl;
        read_on = subst (λ (k : ℕ). records size one m (i + suc n) k bytes s.at ≡ accepted s.others end)
            (omega arith) (rw next at s.read_on);
        all = ap (λ (l : List A). x ∷ l) s.all;
      }

  pub records_split : (n m all i sum place : ℕ) (ys : List A) (end : ℕ) → all ≡ n + m →
      records size one all i sum bytes place ≡ accepted ys end → Split n m i sum place ys end
  unfolding records
  records_split zero m all i sum place ys end is e =
      let same : all ≡ m = omega arith in
      let first : i + 0 ≡ i = omega arith in
      let none : sum + 0 ≡ sum = omega arith in
      record { first = []; others = ys; at = place; read = refl; read_on = rw (first, none, sym same) e; all = refl }
  records_split (suc n) m zero i sum place ys end is e = absurd (omega arith)
  records_split (suc n) m (suc all) i sum place ys end is e =
      let f = records_first all i sum place ys end e in
      rw f.all (split_more n m i sum place f.first f.at f.others end f.read
      (records_split n m all (i + 1) (sum + size f.first) f.at f.others end (omega (arith, is)) f.read_on))

pub at_number : {A : Type 0} (P : A → Type 0) (d : A) (i : ℕ) (x : A) (xs : List A) → P x →
    ((k : ℕ) → P (get_or xs k d)) → P (get_or (x ∷ xs) i d)
at_number P d zero x xs here others = here
at_number P d (suc i) x xs here others = others i

-- What holds of every record that `one` reads holds of all records; d stands for one that there isn't
module _ {A : Type 0} (size : A → ℕ) (one : ℕ → ℕ → Reader A) (P : A → Type 0) (bytes : List ℕ)
    (each : (i sum place : ℕ) (x : A) (end : ℕ) → one i sum bytes place ≡ accepted x end → P x) (d : A)
    (beyond : P d) where
  pub records_each : (n i sum place : ℕ) {xs : List A} {end : ℕ} →
      records size one n i sum bytes place ≡ accepted xs end → (k : ℕ) → P (get_or xs k d)
  unfolding records
  records_each zero i sum place e k = subst (λ (l : List A). P (get_or l k d)) (accepted_inj e) beyond
  records_each (suc n) i sum place {xs} {end} e k =
      let f = records_first size one bytes n i sum place xs end e in
      rw f.all (at_number P d k f.first f.others (each i sum place f.first f.at f.read)
      (records_each n (i + 1) (sum + size f.first) f.at f.read_on))

-- Where each record begins at the sum of the sizes before it, it ends within the sum of all; d stands for one that
-- there isn't
module _ {A : Type 0} (size first : A → ℕ) (one : ℕ → ℕ → Reader A) (bytes : List ℕ)
    (each : (i sum place : ℕ) (x : A) (end : ℕ) → one i sum bytes place ≡ accepted x end → first x ≡ sum)
    (d : A) (nothing : first d + size d ≡ 0) where
  abbrev Within : ℕ → List A → ℕ → Type 0
  Within sum xs i = first (get_or xs i d) + size (get_or xs i d) ≤ sum + total size xs

  within : (sum i : ℕ) (x : A) (xs : List A) → first x ≡ sum →
      ((k : ℕ) → Within (sum + size x) xs k) → Within sum (x ∷ xs) i
  within sum zero x xs e others = omega (arith, e)
  within sum (suc i) x xs e others = omega (arith, others i)

  pub records_within : (n i sum place : ℕ) {xs : List A} {end : ℕ} →
      records size one n i sum bytes place ≡ accepted xs end → (k : ℕ) → Within sum xs k
  unfolding records
  records_within zero i sum place e k = subst (λ (l : List A). Within sum l k) (accepted_inj e) (omega (arith, nothing))
  records_within (suc n) i sum place {xs} {end} e k =
      let f = records_first size one bytes n i sum place xs end e in
      let x = f.first in
      rw f.all (within sum k x f.others (each i sum place x f.at f.read)
      (records_within n (i + 1) (sum + size x) f.at f.read_on))

-- that sum, where a size is at most `most`
module _ {A : Type 0} (size : A → ℕ) (one : ℕ → ℕ → Reader A) (bytes : List ℕ) (most : ℕ)
    (each : (i sum place : ℕ) (x : A) (end : ℕ) → one i sum bytes place ≡ accepted x end → size x ≤ most) where
  fewer : (n a b : ℕ) → a ≤ most → b ≤ n * most → a + b ≤ suc n * most
  fewer n a b h k = rw (suc-mul n most) (omega (arith, h, k))

  pub records_total : (n i sum place : ℕ) {xs : List A} {end : ℕ} →
      records size one n i sum bytes place ≡ accepted xs end → total size xs ≤ n * most
  unfolding records
  records_total zero i sum place e = subst (λ (l : List A). total size l ≤ 0 * most) (accepted_inj e) (omega arith)
  records_total (suc n) i sum place {xs} {end} e =
      let f = records_first size one bytes n i sum place xs end e in
      rw f.all (fewer n (size f.first) (total size f.others) (each i sum place f.first f.at f.read)
      (records_total n (i + 1) (sum + size f.first) f.at f.read_on))
