pub mod Same
pub mod Sizes
