pub mod Images
pub mod Records
