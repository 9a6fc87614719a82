pub mod Sums
pub mod Pairings
pub mod BookFormula
