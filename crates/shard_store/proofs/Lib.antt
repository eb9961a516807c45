mod Views
pub mod Progress
