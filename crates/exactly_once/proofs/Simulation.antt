-- A sound log runs: the failure-free execution of its turns is defined, and has the report of the machine.
pub mod NextOperations
pub mod FreeOperations
pub mod ExpectedState
pub mod OperationTurn
pub mod TurnsByKind
pub mod TransactionTurns
pub mod OtherTurns
pub mod SoundLogsRun
pub mod MapsInOrder
pub mod ReportsAgree
