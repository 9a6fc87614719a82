pub mod Settled
pub mod Back
pub mod Fine
pub mod Balances
pub mod Morning
pub mod CaseE
