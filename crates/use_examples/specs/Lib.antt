pub mod Loss
pub mod RecordNames
pub mod StoppedTurns
