pub mod Keys
pub mod Back
pub mod Trees
