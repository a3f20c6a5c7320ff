pub mod DeskCalls
pub mod Dropping
