-- 01, The evening program: what the program makes of the pieces of its input.
pub mod Settled
