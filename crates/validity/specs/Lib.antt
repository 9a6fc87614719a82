-- 01, The book: the valid book and the opening book.
pub mod Valid
pub mod Opening
pub mod Totals
pub mod InRange
