-- 01, Examples on both sides, and Case E.
pub mod Rows
pub mod CaseE
pub mod Cases
