-- 01, The evening program: its input, and the lines of it.
pub mod Intake
pub mod Posted
