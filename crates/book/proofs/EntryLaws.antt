-- Laws of spellings, words and starting names, in the order in which the code reads their bytes.
--
--   bytes_from, Begun, begun-     the loop over a spelling's bytes: what has been read, and what is read from here
--   spelling-, entry-            where the reading of each stops, and what it reads
use Rattle.std.specs.Prelude.{◌≡◌, Ok, Err, Bool, List, [], ◌∷◌, ◌++◌, ℕ, ◌+◌, ◌-◌, ◌≤◌, ◌<◌, ltb, length, get_or, drop}
use Rattle.std.proofs.Math.Path.{refl}
use Rattle.std.proofs.Common.{sym, ◌∙◌, add-one, length-drop, take-suc, get_or-drop, ltb-true, ltb-false}
use native.Mathlib.Omega.{arith}
use Rattle.characters.specs.Cases.{by_test}
use Rattle.characters.specs.Classes.{between}
use Rattle.characters.specs.Spelling.{part_of}
use Rattle.book.specs.Check.{Checked, refused, accepted, checked, records, shaped, spelling, entry}
use Rattle.book.specs.Index.{Part, reading_of, Valued, One}
use Rattle.book.proofs.ReaderLaws.{checked_short, checked_told, after, records_begins, records_refused}
use Rattle.book.proofs.ReaderLaws.{records_on, records_ends}
use Rattle.book.proofs.RecordLaws.{Byte, one_refused}
use Rattle.book.specs.declared.sections.Sort.{Sort}

-- ---- The bytes of a spelling whose length stands at `at`
module _ (book : List ℕ) (at place : ℕ) where
  abbrev pub bytes_from : ℕ → ℕ → ℕ → Checked (List ℕ)
  bytes_from n i from = records (λ b. 0) (λ k sum. checked (shaped k) 5 at) n i 0 book from

  -- i of them have been read
  abbrev pub Begun : ℕ → ℕ → ℕ → Type 0
  Begun size i from =
      (from ≡ place + i) ×
      (after (λ b. 0) (λ k sum. checked (shaped k) 5 at) book (part_of book place i) (bytes_from (size - i) i from)
      ≡ bytes_from size 0 place)

  byte_inside : (i from : ℕ) {v q : ℕ} → checked (shaped i) 5 at book from ≡ accepted v q → from < length book
  byte_inside i from e =
      by_test (ltb from (length book)) (λ t. ltb-true _ _ t)
      (λ t.
      let s = checked_short (shaped i) 5 at book from (ltb-false from (length book) t) in
      let z : ◌≡◌ {A = ℕ} 0 1 = cc in absurd (omega arith))

  -- a part with one byte more
  part_snoc : (i : ℕ) → place + i < length book →
      part_of book place (i + 1) ≡ part_of book place i ++ (get_or book (place + i) 0 ∷ [])
  part_snoc i h =
      let l = length-drop place book in
      rw add-one (take-suc (drop place book) i 0 (omega arith) ∙ rw (get_or-drop place book i 0))

  pub begun_on : (size i from : ℕ) {next : ℕ} → i < size → Begun size i from →
      checked (shaped i) 5 at book from ≡ accepted (get_or book from 0) next → Begun size (i + 1) next
  begun_on size i from {next} h b e =
      let told = checked_told (shaped i) 5 at book from (get_or book from 0) next e in
      let from_is = b.0 in
      let snoc : part_of book place (i + 1) ≡ part_of book place i ++ (get_or book from 0 ∷ []) =
      rw from_is (part_snoc i (omega (arith, byte_inside i from e))) in (
        omega (arith, told.next),
        rw snoc
            (sym (records_on (λ b. 0) (λ k sum. checked (shaped k) 5 at) book (part_of book place i) size i 0 from h e)
            ∙ b.1),
      )

  pub begun_first : (size : ℕ) → Begun size 0 place
  begun_first size = (omega arith, records_begins (λ b. 0) (λ k sum. checked (shaped k) 5 at) book size 0 place)

  pub begun_stop : (size i from : ℕ) {n p : ℕ} → i < size → Begun size i from →
      checked (shaped i) 5 at book from ≡ refused n p → bytes_from size 0 place ≡ refused n p
  begun_stop size i from h b e =
      sym b.1
      ∙ records_refused (λ b. 0) (λ k sum. checked (shaped k) 5 at) book (part_of book place i) size i 0 from h e

  pub begun_last : (size i from : ℕ) → i ≤ size → size ≤ i → Begun size i from →
      bytes_from size 0 place ≡ accepted (part_of book place size) from
  begun_last size i from h k b =
      let all : i ≡ size = omega arith in
      sym b.1
      ∙ records_ends (λ b. 0) (λ k sum. checked (shaped k) 5 at) book (part_of book place i) size i 0 from k ∙ rw all

-- ---- Spellings
module _ (book : List ℕ) (place : ℕ) where
  pub spelling_stop : {n p : ℕ} → checked (between 1 15) 5 place book place ≡ refused n p →
      spelling book place ≡ refused n p
  unfolding spelling
  spelling_stop e = rw e

  pub spelling_read : (size next : ℕ) (part : Part) → checked (between 1 15) 5 place book place ≡ accepted size next →
      bytes_from book place next size 0 next ≡ reading_of part (λ v. part_of book next size) →
      spelling book place ≡ reading_of part (λ v. part_of book (place + 1) (get_or book place 0))
  unfolding spelling
  spelling_read size next part e f =
      let told = checked_told (between 1 15) 5 place book place size next e in
      rw e (f ∙ rw (told.value, told.next))

-- ---- Entries
module _ (book : List ℕ) (place greatest : ℕ) where
  pub entry_stop : {n p : ℕ} → Byte (between 0 greatest) book place (refused n p) → (first : ℕ) →
      entry greatest book place ≡ refused n p
  unfolding entry
  entry_stop e first = rw e

  pub entry_read : (label next : ℕ) (part : Part) → Byte (between 0 greatest) book place (accepted label next) →
      spelling book next ≡ reading_of part (λ v. part_of book (next + 1) (get_or book next 0)) → Valued part 0 →
      (binder : Bool) → One (Sort.Entry greatest) binder book place part
  unfolding entry
  entry_read label next (Err d) l e h binder =
      one_refused (Sort.Entry greatest) binder book place (Err d) refl (λ first. rw l (rw e))
  entry_read label next (Ok r) l e h binder =
      let told = checked_told (between 0 greatest) 6 place book place label next l in
      let second : next ≡ place + 1 = told.next in
      let third : next + 1 ≡ place + 2 = omega arith in
      record {
        reads = λ first. rw l (rw e (rw (third, told.value, second)));
        valued = λ first. h;
        small = omega arith;
      }
