-- What a script asks, and what it has asked by the log.
pub mod SpawnOrdinals
pub mod NewChildren
pub mod ScriptAsks
pub mod OpenTransactions
pub mod FreeAtCursor
pub mod FunctionNames
