pub mod Borrowed
pub mod Thin
pub mod Lender
pub mod Returning
