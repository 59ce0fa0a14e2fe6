pub mod Fairness
pub mod Need
pub mod Outcomes
pub mod Worth
pub mod Questions
