pub mod Pairs
pub mod Results
pub mod ReadMoves
pub mod MarkerMoves
pub mod WriteMoves
