pub mod ChargeLaws
pub mod MinimiseLaws
pub mod TableLaws
pub mod VerdictLaws
pub mod TallyLaws
