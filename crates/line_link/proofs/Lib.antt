mod Begun
pub mod FirstLines
