pub mod LineReader
pub mod Lines
pub mod Memory
pub mod Status
