-- 01, Day records, and Refusal numbers 1 to 7 and 10.
pub mod Fills
pub mod Postings
pub mod Entries
pub mod Answers
pub mod Ranges
