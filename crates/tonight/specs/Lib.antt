-- 01, Evening settlement: each member's night; Refusal numbers 8 and 9.
pub mod Given
pub mod Prices
pub mod Night
pub mod Evening
pub mod GivenOf
