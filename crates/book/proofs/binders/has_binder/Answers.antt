-- `book::has_binder` meets its contract.
use Rattle.std.proofs.Common.{arith, refl, rules, tests, sym, ◌∙◌}
use Rattle.std.proofs.lemmas.Iterator.{YieldsList-from_range}
use Rattle.std.proofs.lemmas.Iterator.Search.{any_from_yields_List}
use Rattle.book.specs.Book.{nth_nonterminal}
use Rattle.book.specs.Index.{book_in, is_sought, own_number, sought_number, nonterminals_in}
use Rattle.book.proofs.BinderLaws.{binder_any}
use Rattle.book.proofs.ReadingLaws.{any_by_number, nonterminals_length}
use Rattle.book.proofs.binders.has_binder.Goals as goal

pub returns : goal.returns
unfolding book_in
returns c =
    let book = c.args.book.now in
    let index = c.args.index.now in
    let sought = c.args.sought in
    any_from_yields_List (λ i. is_sought sought book index (nth_nonterminal (book_in book index) i)) _ _ _
    c.any.ensures.ran (YieldsList-from_range 0 c.count.result c.count.result refl (omega arith))
    (λ x b q k. search (rules, tests))
    ∙ rw (c.count.ensures ∙ sym (nonterminals_length book index))
    (any_by_number (is_sought sought book index) _ (book_in book index).nonterminals
    ∙ binder_any (own_number sought book index) (sought_number sought) (nonterminals_in book index))
