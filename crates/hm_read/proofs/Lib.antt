pub mod Walks
pub mod Kept
pub mod Wholes
pub mod Answering
