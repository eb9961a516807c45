pub mod Progresses
pub mod Attempts
pub mod Sending
pub mod Deciding
