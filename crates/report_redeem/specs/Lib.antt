pub mod Redeeming
