pub mod Bodies
pub mod Puts
pub mod Reading
pub mod Spelling
