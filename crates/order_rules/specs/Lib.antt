pub mod Crossing
pub mod Fits
pub mod Kinds
pub mod Orders
pub mod Prices
