pub mod Places
pub mod Rows
pub mod Contents
pub mod LensLaws
pub mod Seeing
