pub mod Clock
pub mod Command
pub mod Ranges
pub mod Refusal
pub mod Reply
