pub mod Clients
pub mod QueueLaws
pub mod Roles
pub mod RuleSteps
