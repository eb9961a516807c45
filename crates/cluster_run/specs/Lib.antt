pub mod Clusters
pub mod Groups
pub mod Attempts
pub mod Killed
