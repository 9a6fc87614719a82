pub mod Lines
pub mod Parted
pub mod Pieces
pub mod Handed
