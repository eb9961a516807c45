pub mod Numbered
pub mod Reached
pub mod Killing
pub mod AttemptEvents
pub mod Applied
pub mod Whole
pub mod Stepped
