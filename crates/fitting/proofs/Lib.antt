pub mod LoopLaws
pub mod PathLaws
pub mod GatherLaws
pub mod FitLaws
