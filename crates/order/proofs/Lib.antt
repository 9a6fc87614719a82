pub mod Insertion
pub mod Pulling
pub mod Places
pub mod Theorem
pub mod Locality
pub mod Swapped
pub mod Example
pub mod Makes
