-- The places of an accepted book's sections, as numbers: what stands before each is as long as its records are.
use Rattle.std.specs.Prelude.{◌≡◌, List, [], ◌∷◌, ℕ, ◌+◌, ◌*◌, ◌≤◌, length, get_or}
use Rattle.std.proofs.Common.{sym, arith, mul-zero, mul-suc}
use Rattle.std.proofs.Math.Path.{subst}
use Rattle.book.specs.Book.{Entry, Book}
use Rattle.book.specs.Check.{accepted, checked, records, shaped, spelling, entry, nonterminal, total}
use Rattle.book.specs.Numbers.{bad_spelling, bad_field, nonterminal_size, record_size, reserved, last_kind}
use Rattle.book.proofs.ReaderLaws.{checked_told}
use Rattle.semantics.specs.Extension.{entry_size, variant_count_at, step_count_at}
use Rattle.semantics.proofs.Theorem.Records.{accepted_inj, accepted_end, by_then, by_byte, records_length}
use Rattle.semantics.proofs.Theorem.Records.{records_end, records_inside}
use Rattle.semantics.proofs.Theorem.Sections.{nonterminal_told, variant_told, step_told, Sections}
use Rattle.semantics.proofs.Theorem.BookFacts.{unplaced_length}

-- ---- Records of one size
pub total_same : {A : Type 0} (k : ℕ) (xs : List A) → total (λ (x : A). k) xs ≡ k * length xs
total_same k [] = sym (mul-zero k)
total_same k (x ∷ xs) = let h = total_same k xs in omega (arith, mul-suc k (length xs))

-- ---- Words and names
module _ (bytes : List ℕ) where
  pub letters_end : (at size place : ℕ) (x : List ℕ) (end : ℕ) →
      records (λ b. 0) (λ i sum. checked (shaped i) bad_spelling at) size 0 0 bytes place ≡ accepted x end →
      end ≡ place + length x
  letters_end at size place x end e =
      let ends = records_end (λ b. 0) (λ i sum. checked (shaped i) bad_spelling at) bytes (λ b. 1)
      (λ i sum p b q told. (checked_told (shaped i) bad_spelling at bytes p b q told).next) size 0 0 place x end e in
      let ones = total_same 1 x in
      omega arith

  pub spelling_end : (place : ℕ) (x : List ℕ) (end : ℕ) → spelling bytes place ≡ accepted x end →
      end ≡ place + 1 + length x
  unfolding spelling
  spelling_end place x end e =
      by_byte _ bad_spelling place bytes place (place + 1) (omega arith) _ e
      (λ _ letters. letters_end place _ (place + 1) x end letters)

  pub entry_end : (greatest place : ℕ) (x : Entry) (end : ℕ) → entry greatest bytes place ≡ accepted x end →
      end ≡ place + entry_size x
  unfolding entry
  entry_end greatest place x end e =
      by_byte _ bad_field place bytes place (place + 1) (omega arith) _ e (λ _ e₁.
      by_then (spelling bytes (place + 1)) _ e₁ (λ letters last told all.
      let ends = spelling_end (place + 1) letters last told in
      let here : last ≡ end = accepted_end all in
      subst (λ (x : Entry). end ≡ place + entry_size x) (accepted_inj all) (omega arith)))

-- ---- Where the sections of a book begin
module _ (bytes : List ℕ) (book : Book) (a : Sections bytes book) where
  pub names_place : a.names_at ≡ 1 + total entry_size book.words
  names_place =
      records_end (λ w. 0) (λ i first. entry reserved) bytes entry_size (λ i first. entry_end bytes reserved)
      (get_or bytes 0 0) 0 0 1 book.words a.names_at a.words.read

  pub nonterminals_place : a.nonterminals_at ≡ a.names_at + 1 + total entry_size book.names
  nonterminals_place =
      records_end (λ w. 0) (λ i first. entry last_kind) bytes entry_size (λ i first. entry_end bytes last_kind)
      (get_or bytes a.names_at 0) 0 0 (a.names_at + 1) book.names a.nonterminals_at a.names.read

  pub nonterminals_count : length book.nonterminals ≡ get_or bytes a.nonterminals_at 0
  nonterminals_count =
      records_length (λ n. n.count) (λ i. nonterminal) bytes (get_or bytes a.nonterminals_at 0) 0 0
      (a.nonterminals_at + 1) book.nonterminals a.variants_at a.nonterminals.read

  pub variants_place : a.variants_at ≡ variant_count_at book
  variants_place =
      let ends = records_end (λ n. n.count) (λ i. nonterminal) bytes (λ n. nonterminal_size)
      (λ i first place x end told. (nonterminal_told bytes first place x end told).1)
      (get_or bytes a.nonterminals_at 0) 0 0 (a.nonterminals_at + 1) book.nonterminals a.variants_at
      a.nonterminals.read in
      let twos = total_same nonterminal_size book.nonterminals in
      omega (arith, names_place, nonterminals_place)

  pub steps_place : a.steps_at ≡ step_count_at book
  steps_place =
      let ends = records_end (λ v. v.1.count) _ bytes (λ v. record_size)
      (λ j first place x end told. (variant_told bytes _ first place x end told).1)
      (get_or bytes a.variants_at 0) 0 0 (a.variants_at + 1) a.placed_variants a.steps_at a.variants.read in
      let fours = total_same record_size a.placed_variants in
      omega (arith, variants_place, unplaced_length bytes book a)

  pub steps_end : a.end ≤ length bytes
  steps_end =
      records_inside (λ s. 0) _ bytes (λ k first place x end told. (step_told bytes _ _ _ place x end told).2)
      (get_or bytes a.steps_at 0) 0 0 (a.steps_at + 1) book.steps a.end (omega (arith, a.steps.inside))
      a.steps.read
