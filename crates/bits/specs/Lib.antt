pub mod Members
pub mod Sets
