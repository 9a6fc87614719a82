-- 01, Units, Money rules and Evening settlement, with their articles of 000.
pub mod Refusals
pub mod Units
pub mod Ranges
pub mod Members
pub mod Money
pub mod Securities
pub mod Margin
pub mod Profit
pub mod Fee
pub mod Night
pub mod Articles
