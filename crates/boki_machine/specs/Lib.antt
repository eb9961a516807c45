pub mod Attempt
pub mod Step
pub mod Machine
pub mod Decided
pub mod Turns
pub mod Ideal
pub mod Reports
