pub mod Bounds
pub mod Totals
pub mod Articles
pub mod Answered
