pub mod KeyLaws
pub mod PlaceLaws
pub mod TreeLaws
pub mod RecordLaws
pub mod SectionLaws
pub mod CaseLaws
pub mod CallLaws
