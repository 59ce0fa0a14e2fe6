pub mod Apart
mod Paying
mod Shortage
