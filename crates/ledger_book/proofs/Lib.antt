mod Carried
pub mod Counted
pub mod Fresh
mod Funding
mod Given
mod Held
pub mod Mixed
mod Movements
mod Net
mod Numbers
mod Places
mod Positions
mod Room
mod Rows
mod Soundness
mod Sums
mod Supplies
