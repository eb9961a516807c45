pub mod Names
pub mod TxnStates
pub mod Walks
