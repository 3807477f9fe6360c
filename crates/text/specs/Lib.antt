pub mod Put
pub mod Records
pub mod Told
