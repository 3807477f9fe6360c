pub mod Blocks
pub mod Judging
pub mod Prepared
pub mod Room
pub mod Sets
pub mod Settling
pub mod Skipping
pub mod Stepping
