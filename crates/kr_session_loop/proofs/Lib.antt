pub mod OutputFrames
pub mod Handed
pub mod PastEvents
pub mod SessionSteps
pub mod Streams
pub mod Statuses
pub mod HandedOn
