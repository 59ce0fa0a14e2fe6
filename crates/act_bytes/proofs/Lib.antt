mod Bodies
mod Fields
mod Lengths
pub mod Loop
pub mod Putting
mod Rooms
pub mod Unique
