pub mod Kept
pub mod ProgressLaws
