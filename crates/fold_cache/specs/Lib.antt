pub mod Kept
pub mod Bodies
