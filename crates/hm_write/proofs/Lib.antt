pub mod Stored
pub mod LiveStay
pub mod Marking
