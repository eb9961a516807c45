pub mod Agreeing
pub mod Doing
pub mod Ended
pub mod Parsed
