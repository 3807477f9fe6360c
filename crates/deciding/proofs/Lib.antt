pub mod CallLaws
pub mod VerdictLaws
