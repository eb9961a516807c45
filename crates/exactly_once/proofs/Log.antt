-- The log by itself: lists and maps, live records by their seqnums, modes, and the step records of an invocation.
pub mod ListElements
pub mod MapChanges
pub mod HistoryTails
pub mod LiveRecords
pub mod ModesAndFloors
pub mod StepRecords
