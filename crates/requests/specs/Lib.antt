-- 01, Day records: what a record is read as, and refusal 1.
pub mod Kinds
pub mod Records
pub mod Ranges
