-- 01, Case E, as bytes.
pub mod SmallRows
pub mod CaseE
