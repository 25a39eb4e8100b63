pub mod Costs
mod Rounding
