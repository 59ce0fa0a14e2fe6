pub mod AppendLaws
pub mod Batches
pub mod Format
pub mod FormatLaws
pub mod Journal
pub mod MakeLaws
pub mod Stands
pub mod TornLaws
