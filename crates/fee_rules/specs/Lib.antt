pub mod Fees
