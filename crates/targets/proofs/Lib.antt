pub mod Lawful
pub mod Loops
pub mod Pairs
