-- 01, Evening settlement, and Refusal numbers 8 to 11: the answer, the next book and the results.
pub mod Next
pub mod Settle
