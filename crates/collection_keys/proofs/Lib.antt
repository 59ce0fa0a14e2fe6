pub mod Joining
mod Moving
mod Parts
mod Placing
pub mod Sameness
mod Sound
mod Storing
