pub mod Worked
pub mod Teams
pub mod Plain
