pub mod Lists
pub mod IndexState
