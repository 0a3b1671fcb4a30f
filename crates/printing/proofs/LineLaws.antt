-- Laws of the line.
--
--   refused_fields, line_refused, line_value     its parts, one after the other
--   length_in, length_out                        whether it is within a limit
--   prints_whole, prints_nothing                 the line in a slice that holds it, and in one that doesn't
--
-- Not here: how its bytes are laid (LayingLaws).
use Rattle.std.specs.Prelude.{◌≡◌, List, [], ◌∷◌, ◌++◌, ℕ, ◌≤◌, ◌<◌, leb, length, take, Option, Some, None}
use Rattle.std.proofs.Math.Path.{sym}
use Rattle.std.proofs.Common.{◌∙◌, arith, le-leb, leb-true, eq-eqb, ne_eqb}
use Rattle.std.proofs.lemmas.Bool.{lt-leb}
use Rattle.characters.specs.Cases.{by_test}
use Rattle.book.specs.Book.{Entry}
use Rattle.semantics.specs.Answer.{Answer}
use Rattle.printing.specs.Printing.{decimal, line_of, column_of, value_word, refused_word, place_word, kind_word}
use Rattle.printing.specs.Printing.{argument_word, line_word, column_word, refused_line, line_bytes}
use Rattle.printing.proofs.LayingLaws.{whole_line}
use Rattle.printing.specs.Cells.{item_bytes}
use Rattle.printing.specs.Lines.{length_within, Prints, Window}

-- ---- Parts
pub refused_fields : (text : List ℕ) (a : Answer) (line column : ℕ) → line ≡ line_of text a → column ≡ column_of text a
    → (refused_word ++ decimal a.refusal)
    ++ ((place_word ++ decimal a.place)
    ++ ((kind_word ++ decimal a.kind)
    ++ ((argument_word ++ decimal a.argument)
    ++ ((line_word ++ decimal line) ++ ((column_word ++ decimal column) ++ (10 ∷ [])))))) ≡ refused_line text a
unfolding refused_line
refused_fields text a line column l c = rw (l, c)

module _ (names : List Entry) (text numbers : List ℕ) (a : Answer) where
  pub line_refused : (a.refusal ≡ 0 → ⊥) → refused_line text a ≡ line_bytes names text numbers a
  unfolding line_bytes
  line_refused h = sym (rw (ne_eqb a.refusal 0 h, line_bytes))

  pub line_value : (first : List ℕ) → first ≡ take 12288 numbers → a.refusal ≡ 0
      → value_word ++ (item_bytes names text first a.value ++ (10 ∷ [])) ≡ line_bytes names text numbers a
  unfolding line_bytes
  line_value first e h = rw e (sym (rw (eq-eqb a.refusal 0 h, line_bytes)))

-- ---- Whether the line fits
pub length_in : (limit end : ℕ) (line : List ℕ) → length line ≡ end → end ≤ limit →
    Some end ≡ length_within limit line
length_in limit end line e h = rw (e, le-leb end limit h)

pub length_out : (limit : ℕ) (line : List ℕ) → limit < length line → ◌≡◌ {A = Option ℕ} None (length_within limit line)
length_out limit line h = rw (lt-leb (length line) limit h)

module _ (line out : List ℕ) (r : Option ℕ) (is : r ≡ length_within (length out) line) where
  pub prints_whole : (out' : List ℕ) (size end : ℕ) → r ≡ Some end →
      Window 0 line out out' size → Prints line out out' r
  prints_whole out' size end e w =
      by_test (leb (length line) (length out))
      (λ t. record {
        length_is = is;
        out_is = rw t (whole_line line out out' size w (leb-true (length line) (length out) t));
      })
      (λ t.
      let longer : r ≡ None = is ∙ rw t in
      let never : ◌≡◌ {A = ℕ} 0 1 = cc in
      absurd (omega arith))

  pub prints_nothing : r ≡ None → Prints line out out r
  prints_nothing e =
      by_test (leb (length line) (length out))
      (λ t.
      let fits : r ≡ Some (length line) = is ∙ rw t in
      let never : ◌≡◌ {A = ℕ} 0 1 = cc in
      absurd (omega arith))
      (λ t. record { length_is = is; out_is = rw t })
