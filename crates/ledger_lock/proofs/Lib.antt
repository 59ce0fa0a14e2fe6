mod Answered
mod Crossings
mod Ends
mod Listings
mod OpenOrders
mod Ranges
