pub mod Damage
pub mod EndText
pub mod Holds
pub mod Recovery
pub mod Run
pub mod Talk
pub mod Words
