pub mod Acts
pub mod ActsAfter
pub mod Allowed
pub mod EqualityLemmas
pub mod Logs
pub mod Standing
pub mod Stores
pub mod Verdicts
