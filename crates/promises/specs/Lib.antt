-- 01, demands 2 and 3, over records and whole days.
pub mod Naming
pub mod Runs
pub mod Dealings
pub mod ByArticle
pub mod SmallBook
pub mod SameDay
pub mod Days
pub mod Promises
