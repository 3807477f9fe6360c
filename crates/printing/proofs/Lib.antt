pub mod AnswerLaws
pub mod LineLaws
pub mod ShownLaws
