pub mod Masks
pub mod Matching
pub mod Wanted
pub mod Tables
pub mod Outcomes
