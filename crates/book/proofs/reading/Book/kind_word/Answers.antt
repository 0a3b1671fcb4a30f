-- `book::Book::kind_word` meets its contract: what `find` gives is what the definition says, and `search` hands it on.
use Rattle.std.proofs.Common.{true, false, rules, tests, ◌≡◌}
use Rattle.std.proofs.lemmas.Iterator.{first_from_Range}
use Rattle.characters.specs.Spelling.{same}
use Rattle.book.specs.Book.{nth_entry, kind_word}
use Rattle.book.proofs.ReadingLaws.{kind_is}
use Rattle.book.proofs.reading.Book.kind_word.Goals as goal

pub returns : goal.returns
returns c =
    let words = c.args.self.now.words in
    let wanted = c.args.spelling.now in
    let found : c.find.result ≡ kind_word words wanted = kind_is wanted words _ c.kind_words.result c.kind_words.ensures
    (first_from_Range _ _ _ _ (λ i. same wanted (nth_entry words i).spelling ≡ true)
    (λ i. same wanted (nth_entry words i).spelling ≡ false) c.find.ensures.ran (λ x q k. search (rules, tests))
    (λ x q k. search (rules, tests))) in
    search (rules, found)
