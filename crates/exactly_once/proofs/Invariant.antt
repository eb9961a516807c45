-- The invariant holds at the opening, and small changes keep it: a record is sent or ordered, a value is named.
pub mod OpeningHolds
pub mod StaysLater
pub mod MicroSteps
pub mod OrderedRecord
pub mod NamedValue
pub mod NamedValueKeeps
pub mod QuietEvents
