-- Laws of the functions that read and print, one for each way out.
--
--   untouched, answers                       `midgebillon_read`, `midgebillon_read_in`: too few numbers, and the call
--   with_room                                with enough working memory `midgebillon_read_in` is `midgebillon_read`
--   some_line                                no line is empty
--   few_numbers, no_answer, line_printed     `midgebillon_print`: too few numbers, numbers that are no answer, the line
use Rattle.std.specs.Prelude.{◌≡◌, refl, Bool, true, false, cond, ◌&&◌, List, [], ◌∷◌, ℕ, ◌≤◌, ◌<◌, leb, eqb, length}
use Rattle.std.specs.Prelude.{drop, Option, Some, None, Ok, Err, unwrap_or}
use Rattle.std.proofs.Common.{sym, subst, ap, ◌∙◌, arith, le-leb, le-ltb, eqb-true, eq-eqb, ne_eqb}
use Rattle.std.proofs.lemmas.Bool.{lt-leb, eqb-false}
use Rattle.characters.specs.Cases.{by_test, clash}
use Rattle.characters.specs.Slices.{Slice}
use Rattle.book.specs.Book.{Entry}
use Rattle.book.specs.Check.{check_book, Outcome}
use Rattle.book.specs.Index.{book_in, verdict, CheckedInto, Verdict}
use Rattle.semantics.specs.Answer.{Answer, Answered}
use Rattle.run.specs.Promise.{answer_in, answered, Reads, no_room}
use Rattle.run.specs.declared.reader.Answer as code
use Rattle.printing.specs.Printing.{line_bytes, refused_line}
use Rattle.printing.specs.Lines.{Prints}
use Rattle.midgebillon.specs.Library.{answer_at, storing, Stays, AnswersInto, ReadInto, ReadIntoWith}
use Rattle.midgebillon.specs.Library.{is_answer, names_of, line_for, PrintsInto}

-- ---- Reading
-- the numbers stored are read back, and those behind them stay
stored : (a : code.Answer) (l : List ℕ) → 7 ≤ length l →
    (answer_at (storing a l) ≡ answer_in a) × (drop 7 (storing a l) ≡ drop 7 l)
stored a [] h = absurd (omega arith)
stored a (x ∷ []) h = absurd (omega arith)
stored a (x ∷ y ∷ []) h = absurd (omega arith)
stored a (x ∷ y ∷ z ∷ []) h = absurd (omega arith)
stored a (x ∷ y ∷ z ∷ t ∷ []) h = absurd (omega arith)
stored a (x ∷ y ∷ z ∷ t ∷ u ∷ []) h = absurd (omega arith)
stored a (x ∷ y ∷ z ∷ t ∷ u ∷ v ∷ []) h = absurd (omega arith)
stored a (x ∷ y ∷ z ∷ t ∷ u ∷ v ∷ w ∷ l) h = (refl, refl)

module _ (book text : Slice) (start : ℕ) (expected : Answered) (cells cells' parses parses' answer answer' : Slice)
  where
    pub untouched : length answer < 7 → Stays cells cells' → Stays parses parses' → Stays answer answer' →
        AnswersInto book text start expected cells cells' parses parses' answer answer'
    untouched h same_cells same_parses same_answer =
        record {
          few = λ k. (same_cells, same_parses, same_answer);
          reads = λ k. absurd (omega (arith, h, k));
          behind = ap (λ (l : List ℕ). drop 7 l) same_answer;
        }

    pub answers : (a : code.Answer) → 7 ≤ length answer →
        Reads book text start expected (answered a cells' parses') →
        answer' ≡ storing a answer → AnswersInto book text start expected cells cells' parses parses' answer answer'
    answers a h r e =
        let at = stored a answer h in
        record {
          few = λ k. absurd (omega (arith, h, k));
          reads = λ k. subst (λ (x : Answer). Reads book text start expected
              (record { answer = x; cells = cells'; parses = parses' }))
              (sym (ap (λ (l : List ℕ). answer_at l) e ∙ at.0)) r;
          behind = ap (λ (l : List ℕ). drop 7 l) e ∙ at.1;
        }

-- with enough working memory what `midgebillon_read_in` promises is what `midgebillon_read` promises
module _ (book text : Slice) (start allowance : ℕ)
    (cells cells' parses parses' index index' store store' rows rows' answer answer' : Slice) where
  pub with_room : no_room index store rows ≡ false →
      ReadIntoWith book text start allowance cells cells' parses parses' index index' store store' rows rows' answer
      answer' →
      ReadInto book text start allowance cells cells' parses parses' answer answer'
  with_room room r = rw room at r.answers

-- ---- Printing
-- no line is empty, so that the length 0 says that there is none
pub some_line : (names : List Entry) (text cells : List ℕ) (a : Answer) → 0 < length (line_bytes names text cells a)
unfolding line_bytes refused_line
some_line names text cells a =
    by_test (eqb a.refusal 0) (λ t. rw (t, line_bytes) (omega arith)) (λ t. rw (t, line_bytes) (omega arith))

-- no line: nothing is written
nothing : (out : List ℕ) → PrintsInto [] out out 0
nothing out =
    record { size_is = rw (le-leb 0 (length out) (omega arith)); out_is = rw (le-leb 0 (length out) (omega arith)) }

-- a line that is printed as a whole or not at all
whole : (line out out' : List ℕ) (r : Option ℕ) → Prints line out out' r → PrintsInto line out out' (unwrap_or r 0)
whole line out out' r p =
    by_test (leb (length line) (length out))
    (λ t.
    let e : r ≡ Some (length line) = p.length_is ∙ rw t in
    record { size_is = rw (t, e); out_is = rw (t, e) (p.out_is ∙ rw t) })
    (λ t.
    let e : r ≡ None = p.length_is ∙ rw t in
    record { size_is = rw (t, e); out_is = rw (t, e) (p.out_is ∙ rw t) })

-- the line of a refusal names nothing of the book
names_unused : (names names' : List Entry) (text cells : List ℕ) (a : Answer) → (a.refusal ≡ 0 → ⊥) →
    line_bytes names text cells a ≡ line_bytes names' text cells a
unfolding line_bytes
names_unused names names' text cells a h = rw (ne_eqb a.refusal 0 h, line_bytes)

-- a value's book is accepted
value_accepted : (v : Verdict) (cells : List ℕ) (a : Answer) → is_answer v cells a ≡ true →
    a.refusal ≡ 0 → v ≡ Ok tt
value_accepted (Ok u) cells a t e = refl
value_accepted (Err refusal) cells a t e = clash t (rw (eq-eqb a.refusal 0 e))

module _ (bytes text cells numbers out : List ℕ) where
  pub few_numbers : length numbers < 7 → PrintsInto (line_for bytes text cells numbers) out out 0
  few_numbers h = rw (lt-leb 7 (length numbers) h) (nothing out)

  -- the numbers are an answer by the code's test, of the verdict on the book
  module _ (index index' : List ℕ) (v : Verdict) (a : code.Answer) (test : Bool) (enough : 7 ≤ length numbers)
      (is : answer_in a ≡ answer_at numbers) (checked : CheckedInto bytes index index' v) (long : 1091 ≤ length index)
      (judged : test ≡ is_answer v cells (answer_in a)) where
    verdict_is : v ≡ verdict (check_book bytes)
    verdict_is = checked.says.case ∙ rw (le-ltb (length index) 1091 long)

    tested : leb 7 (length numbers) && is_answer (verdict (check_book bytes)) cells (answer_at numbers) ≡ test
    tested =
        rw (le-leb 7 (length numbers) enough)
        (sym (judged ∙ ap (λ (w : Verdict). is_answer w cells (answer_in a)) verdict_is
        ∙ ap (λ (x : Answer). is_answer (verdict (check_book bytes)) cells x) is))

    abbrev line_or : Bool → List ℕ
    line_or b = cond b (line_bytes (names_of (check_book bytes)) text cells (answer_at numbers)) []

    pub no_answer : test ≡ false → PrintsInto (line_for bytes text cells numbers) out out 0
    no_answer t = subst (λ (l : List ℕ). PrintsInto l out out 0) (sym (ap line_or (tested ∙ t))) (nothing out)

    same_line : test ≡ true →
        line_bytes (book_in bytes index').names text cells (answer_in a)
        ≡ line_bytes (names_of (check_book bytes)) text cells (answer_in a)
    same_line t =
        by_test (eqb a.refusal 0)
        (λ e.
        let accepted = value_accepted v cells (answer_in a) (sym judged ∙ t) (eqb-true a.refusal 0 e) in
        ap (λ (o : Outcome). line_bytes (names_of o) text cells (answer_in a)) (sym (checked.gives accepted)))
        (λ e.
        names_unused (book_in bytes index').names (names_of (check_book bytes)) text cells (answer_in a)
        (eqb-false a.refusal 0 e))

    pub line_printed : (out' : List ℕ) (r : Option ℕ) → test ≡ true →
        Prints (line_bytes (book_in bytes index').names text cells (answer_in a)) out out' r →
        PrintsInto (line_for bytes text cells numbers) out out' (unwrap_or r 0)
    line_printed out' r t p =
        let line = same_line t ∙ ap (λ (x : Answer). line_bytes (names_of (check_book bytes)) text cells x) is in
        subst (λ (l : List ℕ). PrintsInto l out out' (unwrap_or r 0))
        (line ∙ sym (ap line_or (tested ∙ t))) (whole _ out out' r p)
