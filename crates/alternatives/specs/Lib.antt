pub mod Filled
pub mod Entries
pub mod Members
pub mod Alternatives
pub mod Open
pub mod Judged
