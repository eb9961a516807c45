-- The invariant, and what keeps it: what the proof goes by. No reader of the laws needs it.
pub mod SoundLogs
pub mod SoundLogsRun
pub mod ReportsAgree
pub mod Invariant
pub mod OpeningHolds
pub mod MicroSteps
pub mod OrderedRecord
pub mod NamedValue
pub mod VersionKeeps
pub mod StepKeeps
pub mod QuietEvents
pub mod EventKeeps
