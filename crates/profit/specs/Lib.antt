-- 000, article 31.
pub mod Day
pub mod Article31
