pub mod Kept
pub mod Lawful
pub mod Loops
pub mod Room
pub mod Slots
