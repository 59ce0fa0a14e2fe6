pub mod Acts
mod Moments
