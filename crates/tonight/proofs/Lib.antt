pub mod Known
pub mod Facts
pub mod Sums
