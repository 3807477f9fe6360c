pub mod Array
pub mod Records
pub mod Back
