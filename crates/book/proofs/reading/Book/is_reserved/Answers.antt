-- `book::Book::is_reserved` meets its contract.
use Rattle.std.proofs.Common.{arith, refl, rules, tests, ◌∙◌}
use Rattle.std.proofs.lemmas.Iterator.{YieldsList-from_range}
use Rattle.std.proofs.lemmas.Iterator.Search.{any_from_yields_List}
use Rattle.book.specs.Book.{nth_entry, reserved_as}
use Rattle.book.proofs.ReadingLaws.{any_by_number, reserved_any}
use Rattle.book.proofs.reading.Book.is_reserved.Goals as goal

pub returns : goal.returns
returns c =
    let words = c.args.self.now.words in
    let wanted = c.args.spelling.now in
    any_from_yields_List (λ i. reserved_as wanted (nth_entry words i)) _ _ _ c.any.ensures.ran
    (YieldsList-from_range 0 c.words.result c.words.result refl (omega arith)) (λ x b q k. search (rules, tests))
    ∙ rw c.words.ensures (any_by_number (reserved_as wanted) _ words ∙ reserved_any words wanted)
