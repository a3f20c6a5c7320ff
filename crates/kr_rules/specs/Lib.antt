pub mod Costs
pub mod Decisions
pub mod Handlers
pub mod Progress
pub mod Refusals
pub mod Room
