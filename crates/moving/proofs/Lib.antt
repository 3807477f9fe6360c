pub mod OldLaws
pub mod RowLaws
pub mod FormLaws
pub mod BackLaws
pub mod CallLaws
