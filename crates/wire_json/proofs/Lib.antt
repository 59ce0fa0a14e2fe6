mod Faults
pub mod Listing
mod Lists
mod Requests
mod Rows
