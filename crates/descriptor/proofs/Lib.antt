mod Floats
pub mod Same
pub mod Written
