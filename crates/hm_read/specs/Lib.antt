pub mod Kept
pub mod LastWrites
pub mod FreeReads
pub mod Laws
