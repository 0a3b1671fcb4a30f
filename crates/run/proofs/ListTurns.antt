-- Lists that are cleared, filled and searched number by number: after each number, and at the end; and what tests of
-- lengths say.
--
-- Contents:
-- - zeros: clear_first, clear_again
-- - one number more: copy_again; parses: parses_end
-- - high bytes: place_or_none, high_hit, high_on, high_end
-- - what the outermost row found: found_few
-- - the call: long_cells, room, reads_nothing
use Rattle.std.specs.Prelude.{◌≡◌, refl, Bool, true, false, cond, ◌||◌, List, [], ◌∷◌, ◌++◌, ℕ, zero, suc, ◌+◌, ◌<◌}
use Rattle.std.specs.Prelude.{◌≤◌, Option, None, Some, ltb, length, get_or, take, drop, set, replicate}
use Rattle.std.proofs.Common.{sym, ap, ◌∙◌, arith, add-one, drop_of_length-le, take-suc, length-take-le, take_all}
use Rattle.std.proofs.Math.Seq.{drop-cons}
use borrow.Author.Tests.{ltb-false, lt-ltb, le-ltb, le-leb, lt-leb}
use Rattle.characters.specs.Cases.{clash}
use Rattle.characters.specs.Classes.{between}
use Rattle.semantics.specs.Values.{Parse}
use Rattle.semantics.specs.Answer.{Answer, answer, written, parse_numbers, first_high}
use Rattle.sets.specs.PlaceLaws.{set_le}
use Rattle.run_model.specs.Rows.{row_of}
use Rattle.calls.specs.Table.{table}
use Rattle.calls.specs.TableLaws.{read_set}
use Rattle.run.specs.declared.reader.Answer as parse
use Rattle.run.specs.Promise.{answer_in, answered, no_room, answer_with, Reads}
use Rattle.run.specs.Reading.{short}
use Rattle.run.specs.ListLaws.{written_zeros, written_more}
use Rattle.run.specs.ReadingLaws.{with_lists}

-- ---- Zeros
zeros_again : (i : ℕ) (l : List ℕ) → i < length l →
    set (replicate i 0 ++ drop i l) i 0 ≡ replicate (suc i) 0 ++ drop (suc i) l
zeros_again i [] h = absurd (omega arith)
zeros_again zero (x ∷ l) h = refl
zeros_again (suc i) (x ∷ l) h = ap (λ (l : List ℕ). 0 ∷ l) (zeros_again i l (omega arith))

pub clear_first : (l : List ℕ) → l ≡ written 0 [] l
unfolding written
clear_first l = refl

pub clear_again : (i : ℕ) (l : List ℕ) → i < length l → set (written i [] l) i 0 ≡ written (i + 1) [] l
clear_again i l h = rw (add-one i, written_zeros i l, written_zeros (suc i) l) (zeros_again i l h)

-- ---- One number more
pub copy_again : (size : ℕ) (lent source : List ℕ) (i : ℕ) → i < size → i < length source →
    set (written size (take i source) lent) i (get_or source i 0) ≡ written size (take (i + 1) source) lent
copy_again size lent source i h l =
    rw (add-one i, take-suc source i 0 l)
    (written_more size lent (take i source) i (get_or source i 0) (length-take-le i source (omega arith)) h)

pub parses_end : (size : ℕ) (lent : List ℕ) (ps : List (Parse ℕ)) (i : ℕ) → length ps ≤ i →
    written size (parse_numbers (take i ps)) lent ≡ written size (parse_numbers ps) lent
parses_end size lent ps i h = rw (take_all i ps h)

-- ---- High bytes
-- a place of the text, where it is one
abbrev pub place_or_none : List ℕ → ℕ → Option ℕ
place_or_none text i = cond (ltb i (length text)) (Some i) None

module _ (text : List ℕ) (i : ℕ) where
  pub high_hit : i < length text → 128 ≤ get_or text i 0 → place_or_none text i ≡ first_high i (drop i text)
  unfolding first_high
  high_hit h l = rw (drop-cons text i 0 h, le-leb 128 (get_or text i 0) l, lt-ltb i (length text) h)

  pub high_on : i < length text → get_or text i 0 < 128 →
      first_high (i + 1) (drop (i + 1) text) ≡ first_high i (drop i text)
  unfolding first_high
  high_on h l = rw (add-one i, drop-cons text i 0 h, lt-leb 128 (get_or text i 0) l)

  pub high_end : length text ≤ i → place_or_none text i ≡ first_high i (drop i text)
  unfolding first_high
  high_end h = rw (drop_of_length-le text h, le-ltb i (length text) h)

-- ---- What the outermost row found
pub found_few : (rows : List ℕ) → length (row_of (table rows) 200).set ≤ 64
found_few rows = rw (read_set rows 200 (omega arith)) (set_le rows 105011)

-- ---- The call
-- the lists have their sizes
pub long_cells : (cells parses : List ℕ) (t : Bool) → t ≡ short cells parses → t ≡ false →
    (12288 ≤ length cells) × (256 ≤ length parses)
long_cells cells parses t e h = by (ltb (length cells) 12288) refl (sym e ∙ h)
  where
    by : (b : Bool) → ltb (length cells) 12288 ≡ b → (b || ltb (length parses) 256) ≡ false →
        (12288 ≤ length cells) × (256 ≤ length parses)
    by true q k = clash refl k
    by false q k = (ltb-false (length cells) 12288 q, ltb-false (length parses) 256 k)

-- the working memory has its sizes
pub room : (index store rows : List ℕ) (t : Bool) → t ≡ no_room index store rows → t ≡ false →
    (1091 ≤ length index) × (17408 ≤ length store) × (105525 ≤ length rows)
room index store rows t e h = by (ltb (length index) 1091) (ltb (length store) 17408) refl refl (sym e ∙ h)
  where
    by : (a b : Bool) → ltb (length index) 1091 ≡ a → ltb (length store) 17408 ≡ b →
        (a || (b || ltb (length rows) 105525)) ≡ false →
        (1091 ≤ length index) × (17408 ≤ length store) × (105525 ≤ length rows)
    by true b p q k = clash refl k
    by false true p q k = clash refl k
    by false false p q k =
        (ltb-false (length index) 1091 p, ltb-false (length store) 17408 q, ltb-false (length rows) 105525 k)

module _ (index store rows cells parses bytes text : List ℕ) (start allowance : ℕ) (t : Bool)
    (e : t ≡ no_room index store rows) where
  pub reads_nothing : (a : parse.Answer) → t ≡ true → answer_in a ≡ answer 1 0 0 0 0 0 0 →
      Reads bytes text start (answer_with index store rows cells parses bytes text start allowance)
      (answered a cells parses)
  reads_nothing a h q =
      record {
        is = with_lists {a = a} q refl refl ∙ rw (sym e ∙ h);
        exact = λ book accepted early limit.
            let one : between 1 11 (answer_in a).refusal ≡ true = ap (λ (x : Answer). between 1 11 x.refusal) q in
            clash one early;
      }
