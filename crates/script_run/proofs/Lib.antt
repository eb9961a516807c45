pub mod Lookups
pub mod Evals
pub mod Each
pub mod Blocks
pub mod Asks
pub mod Goes
pub mod Sets
pub mod Standings
