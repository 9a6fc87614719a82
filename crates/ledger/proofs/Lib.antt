pub mod InRange
pub mod Outcomes
