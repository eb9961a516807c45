-- A step of an attempt keeps the invariant, and leaves the attempt where the records put it.
pub mod ActingAttempt
pub mod SentIsAsked
pub mod EngineViews
pub mod AdoptedRecord
pub mod RecordAnswers
pub mod OneValueOfAName
pub mod FreeSteps
pub mod WithoutRecord
pub mod StepKeeps
pub mod LostAnswerKeeps
