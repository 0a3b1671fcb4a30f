-- Document 01, "Characters": identifiers and numbers. "Every token skips first; what follows it is unskipped": whoever
-- wants a token reads it where skipping leads, and its end is its own.
use Rattle.std.specs.Prelude.{Option, Some, None, cond, List, [], ◌∷◌, ℕ, ◌+◌, ◌-◌, ◌*◌, ◌^◌, leb, eqb, get_or}
use Rattle.characters.specs.Classes.{is_of}
use Rattle.characters.specs.Skipping.{span_end}
use Rattle.characters.specs.Spelling.{part_of}
use Rattle.characters.specs.declared.classes.Class.TheVariants.{Letter}
use Rattle.characters.specs.declared.skipping.Span.TheVariants.{Word, Digits}
use Rattle.characters.specs.declared.lexemes.Number.{Number}

-- "letter, then letters or digits, longest"; beyond the end there is none
unfoldable pub identifier_at : List ℕ → ℕ → Option ℕ
identifier_at text place =
    cond (is_of Letter (get_or text place 0)) (Some (span_end Word text (place + 1))) None

-- the number that digits spell after those that spell `value`
unfoldable pub decimal : ℕ → List ℕ → ℕ
decimal value [] = value
decimal value (digit ∷ digits) = decimal (value * 10 + (digit - 48)) digits

-- "at most 2^64 - 1"
abbrev pub largest : ℕ
largest = 2 ^ 64 - 1

unfoldable pub number_of : ℕ → ℕ → Number
number_of value end = cond (leb value largest) (Number.Value value end) Number.TooLarge

-- "longest digits"; beyond the end there are none
unfoldable pub number_at : List ℕ → ℕ → Number
number_at text place =
    let end = span_end Digits text place in
    cond (eqb end place) Number.Nothing (number_of (decimal 0 (part_of text place (end - place))) end)
