pub mod Conditions
pub mod Shares
