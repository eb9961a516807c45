pub mod Sends
pub mod Stores
pub mod Marked
