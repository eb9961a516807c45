-- The further laws of a log and of a machine. None of them speaks of the invariant.
pub mod ModesAndFloors
pub mod StepRecords
pub mod Words
pub mod AnyEvents
pub mod EndedInvocations
pub mod LogEconomy
pub mod StoreBound
pub mod DecidedAnswers
