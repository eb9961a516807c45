pub mod Marks
pub mod Lives
pub mod Modes
pub mod SwitchStates
pub mod Next
pub mod Answers
