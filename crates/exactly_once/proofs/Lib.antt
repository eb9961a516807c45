-- Folders in the order of the proof; the folders with small letters have the answers of the law functions.
pub mod Log
pub mod LastWrites
pub mod Invocations
pub mod Simulation
pub mod Asking
pub mod Invariant
pub mod OldVersions
pub mod Attempts
pub mod Machines
pub mod AfterEvents
