mod Examples
pub mod CoreSteps
pub mod CoreRuns
