pub mod RecordLaws
pub mod ListLaws
