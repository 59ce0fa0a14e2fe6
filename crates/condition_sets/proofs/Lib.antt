pub mod FirstPlaces
pub mod Unions
