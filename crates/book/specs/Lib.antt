-- 01, The book: its layout, its rows and the account.
pub mod Layout
pub mod Heads
pub mod ContractRows
pub mod Members
pub mod Positions
pub mod Books
pub mod Accounts
pub mod Whole
pub mod Rows
pub mod Views
