-- Where an invocation stands, by the records of a sound log alone.
pub mod NextRecord
pub mod FreeAnswers
pub mod SamePlace
pub mod InitAndCursor
pub mod RecordAtPlace
