pub mod CommandText
pub mod Kinds
pub mod Members
pub mod ReplyText
pub mod Request
