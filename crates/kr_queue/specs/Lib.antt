pub mod Jobs
pub mod QueueRule
pub mod Steps
pub mod Passes
pub mod QueueLaws
