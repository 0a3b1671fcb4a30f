-- The book that a `Book` of the code stands for.
use Rattle.book.specs.Book.{Book}
use Rattle.book.specs.Index.{book_in}
use Rattle.book.specs.declared.reading.Book.TheInside.{Inside}

abbrev pub book_view : Inside → Book
book_view b = book_in b.bytes.now b.index.now
