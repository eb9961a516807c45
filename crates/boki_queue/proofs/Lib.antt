pub mod Folding
pub mod Kept
pub mod States
pub mod Told
pub mod Walks
pub mod Windows
