pub mod Skipping
pub mod Offered
mod JoinLaws
pub mod FillLaws
mod OpenLaws
pub mod RowsLaws
mod TableLaws
