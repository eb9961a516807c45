-- Further laws of a machine after any events.
pub mod AnyEvents
pub mod DuplicatesAgree
pub mod EndedInvocations
pub mod EndIsLast
pub mod CountedOperations
pub mod LogEconomy
pub mod StoredOnce
pub mod StoreBound
pub mod VersionAnswers
pub mod VersionEvents
