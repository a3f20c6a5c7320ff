pub mod Holding
pub mod Waits
