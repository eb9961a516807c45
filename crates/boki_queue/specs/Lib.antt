pub mod QueueStates
pub mod Shared
pub mod Walks
