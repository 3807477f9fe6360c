pub mod AnswerLaws
pub mod PathLaws
pub mod NodesLaws
pub mod KeptLaws
