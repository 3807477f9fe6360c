pub mod Present
pub mod Rounds
pub mod Strikes
pub mod Outcome
