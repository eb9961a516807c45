pub mod Kept
pub mod CanStep
