pub mod Facts
pub mod RowTests
pub mod Fits
pub mod SameHead
pub mod AsFacts
pub mod Sums
pub mod Whole
