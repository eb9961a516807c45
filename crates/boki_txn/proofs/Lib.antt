pub mod Commits
pub mod Entries
pub mod Folding
pub mod Kept
pub mod Told
pub mod Walks
