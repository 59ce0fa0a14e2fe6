pub mod Agreeing
mod AppendLaws
pub mod Beginning
pub mod Cutting
mod FormatLaws
pub mod FoundLaws
mod MakeLaws
pub mod Numbers
mod Payloads
mod Ready
mod Sized
mod Sizes
pub mod Standing
pub mod Telling
mod TornLaws
pub mod Unique
pub mod Windows
