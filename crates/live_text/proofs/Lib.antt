pub mod ParseLemmas
pub mod WorkerCounts
