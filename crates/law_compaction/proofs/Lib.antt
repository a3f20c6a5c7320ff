pub mod AlikeEvents
pub mod AlikeLogs
pub mod AlikeOutputs
pub mod AlikeStates
pub mod ReplacedPrefixes
