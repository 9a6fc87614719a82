-- 01, Day records: an account that is lent.
pub mod Lent
