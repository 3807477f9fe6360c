pub mod Read
pub mod Sent
pub mod Tells
pub mod Trouble
