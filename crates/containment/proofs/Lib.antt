pub mod StepLoop
pub mod StepReady
pub mod SkipLoop
pub mod AnswerLaws
