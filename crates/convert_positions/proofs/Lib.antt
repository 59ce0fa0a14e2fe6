pub mod Counting
mod Made
mod Places
mod Room
mod Shortage
mod Untaken
