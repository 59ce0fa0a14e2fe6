pub mod Matching
pub mod Settling
