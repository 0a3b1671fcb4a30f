-- Document 01, "Characters": longest spans, and skipping.
use Rattle.std.specs.Prelude.{Bool, true, false, cond, not, ◌&&◌, ◌||◌, List, ℕ, zero, suc, ◌+◌, ltb, eqb}
use Rattle.std.specs.Prelude.{length, get_or, drop}
use Rattle.std.specs.List.{prefix_len}
use Rattle.characters.specs.Classes.{is_of}
use Rattle.characters.specs.declared.classes.Class.TheVariants.{Whitespace, Digit, Letter}
use Rattle.characters.specs.declared.skipping.Span.{Span}
use Rattle.characters.specs.declared.skipping.Span.TheVariants.{Spaces, Line, Word, Digits}

-- which bytes belong to a span; 10 is the line feed
abbrev pub belongs : Span → ℕ → Bool
belongs Spaces b = is_of Whitespace b
belongs Line b = not (eqb b 10)
belongs Word b = is_of Letter b || is_of Digit b
belongs Digits b = is_of Digit b

-- how many bytes at the front pass a test, up to the first that doesn't
unfoldable pub leading : (ℕ → Bool) → List ℕ → ℕ
leading test bytes = prefix_len test bytes

-- where the longest span at a place ends: the place itself, where nothing belongs or the text has ended
unfoldable pub span_end : Span → List ℕ → ℕ → ℕ
span_end span text place = place + leading (belongs span) (drop place text)

-- whether `//` stands at a place; 47 is `/`, and beyond the end there is no byte, which reads as 0
unfoldable pub comment_at : List ℕ → ℕ → Bool
comment_at text place = eqb (get_or text place 0) 47 && eqb (get_or text (place + 1) 0) 47

-- "through the next line feed or to the end"
unfoldable pub comment_end : List ℕ → ℕ → ℕ
comment_end text place = let end = span_end Line text place in cond (ltb end (length text)) (end + 1) end

-- one round: "drop whitespace; if `//` follows, drop through the next line feed or to the end"
unfoldable pub round_end : List ℕ → ℕ → ℕ
round_end text place =
    let at = span_end Spaces text place in
    elim (comment_at text at) [ true ↦ comment_end text at | false ↦ at ]

-- "repeat until a round drops nothing, and that round's place is the result", in at most n rounds
unfoldable pub skip_rounds : ℕ → List ℕ → ℕ → ℕ
skip_rounds zero text place = place
skip_rounds (suc n) text place =
    let next = round_end text place in
    elim (eqb next place) [ true ↦ place | false ↦ skip_rounds n text next ]

-- A round that drops something drops a byte at least, so a round for each byte of the text is enough: `skip_stop` and
-- `skip_on` of SkippingLaws say the sentence without a number of rounds. A place beyond the end stays
unfoldable pub skip_from : List ℕ → ℕ → ℕ
skip_from text place = skip_rounds (length text) text place
