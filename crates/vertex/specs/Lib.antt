pub mod Claims
pub mod Numbers
pub mod Order
pub mod Rules
pub mod Words
