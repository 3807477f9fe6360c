pub mod Draft
pub mod Given
pub mod Shown
