pub mod Ascending
pub mod Kept
pub mod StandsFor
pub mod Steps
pub mod Sweeps
pub mod Answers
pub mod Keys
pub mod Laws
