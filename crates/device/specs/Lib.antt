pub mod Ceilings
pub mod Lacking
pub mod Words
