pub mod Conversions
pub mod Holdings
pub mod Needs
mod Products
mod Shares
pub mod Weights
pub mod Worths
