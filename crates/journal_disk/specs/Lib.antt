pub mod Drive
pub mod Images
pub mod Laws
pub mod Memory
pub mod MemoryLaws
pub mod Steps
