pub mod Entries
pub mod Ledger
pub mod Naming
pub mod Planning
pub mod Postings
pub mod Staging
