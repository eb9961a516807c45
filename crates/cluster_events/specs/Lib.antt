pub mod Machines
pub mod Lines
pub mod Writes
pub mod Views
pub mod Restarts
