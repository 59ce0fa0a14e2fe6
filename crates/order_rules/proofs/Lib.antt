mod Crossings
mod Quotients
mod Spending
