pub mod Counts
pub mod Listed
pub mod Used
