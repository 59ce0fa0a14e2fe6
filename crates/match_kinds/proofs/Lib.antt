pub mod Balance
pub mod Covered
mod Funding
mod Prices
mod Room
mod Shortness
