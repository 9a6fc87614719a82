pub mod Sides
pub mod Rising
pub mod Outcomes
