mod Again
pub mod Redemptions
mod Room
mod Weights
