pub mod Minimise
pub mod Table
pub mod Verdict
