pub mod Lists
pub mod Adding
pub mod ListRule
pub mod AppendRights
pub mod Engines
pub mod ClosedList
pub mod Indexed
