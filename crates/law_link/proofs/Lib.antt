mod Examples
mod LateExamples
pub mod FoundLeaderships
pub mod LinkSteps
pub mod StepLaws
pub mod UnderWay
pub mod LateFrames
pub mod PartsStand
pub mod Welcome
pub mod Committed
