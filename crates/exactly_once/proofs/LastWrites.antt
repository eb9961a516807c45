-- The value of an object: its last write below a position.
pub mod LastBelow
pub mod WritePositions
pub mod ObjectStages
