pub mod Coverage
mod Entered
mod EntryCounts
pub mod Fair
pub mod Filling
mod Flows
mod Funded
mod Held
pub mod Histories
mod Inductions
mod KeptLemmas
mod KeyLemmas
mod Known
mod Lists
mod Lowest
mod Markets
mod Matched
mod Moves
mod Orderly
mod Partings
pub mod Parts
mod Partitions
mod Plans
pub mod Posted
mod Proposed
mod Reported
mod Settled
mod Staging
mod Stops
pub mod Trading
mod Verdicts
mod Zeros
