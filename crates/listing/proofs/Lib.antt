pub mod AnswerLaws
pub mod OrderLaws
