pub mod Collections
pub mod Comparing
pub mod Stored
