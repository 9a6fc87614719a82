-- 01, The book: the book whose rows are read where it is lent.
use Rattle.book.specs.Books.{Book, book_by}
pub use Rattle.book.specs.declared.lent.Rows.{Rows}

abbrev pub book_of : Rows → Book
book_of rows = book_by rows.head rows.bytes.now
