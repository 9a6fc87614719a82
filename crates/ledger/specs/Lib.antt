-- 01, Refusal numbers: a posting's outcome at the bytes.
pub mod Puts
pub mod Props
