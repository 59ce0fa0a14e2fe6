mod Filled
mod Fitting
mod Fronts
mod Insertion
mod Order
pub mod Proposed
mod Takers
