pub mod Front
pub mod Positions
pub mod Refusal
pub mod Rules
pub mod Seen
