pub mod CanStep
pub mod Kept
