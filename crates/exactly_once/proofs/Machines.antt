-- Shards, engines and events: every event keeps the invariant, so the theorem holds.
pub mod ShardsAndVectors
pub mod StepEffects
pub mod EnginesStay
pub mod SentRecords
pub mod EventEffects
pub mod EventKeeps
pub mod ExactlyOnce
