mod Damages
mod Endings
mod Payments
mod Recoveries
mod Runs
mod Stores
mod Turns
