pub mod TestLaws
pub mod SectionLaws
pub mod LoopLaws
pub mod MemberLaws
pub mod CaseLaws
pub mod SummaryLaws
pub mod PositionLaws
pub mod RefusalLaws
