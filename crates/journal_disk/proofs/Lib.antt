mod Fronts
mod Listing
mod MemoryCalls
