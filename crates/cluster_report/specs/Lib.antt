pub mod Folded
pub mod Reported
pub mod Told
pub mod Turned
