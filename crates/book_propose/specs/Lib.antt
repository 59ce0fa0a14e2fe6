pub mod Candidates
pub mod Pricing
pub mod Proposals
