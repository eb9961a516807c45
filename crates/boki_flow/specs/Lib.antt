pub mod Flow
pub mod Arms
