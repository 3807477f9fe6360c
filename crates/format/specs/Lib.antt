pub mod Given
pub mod Members
