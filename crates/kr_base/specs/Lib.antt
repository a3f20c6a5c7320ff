pub mod Appends
pub mod Causes
pub mod Clocks
pub mod FailedPuts
pub mod Histories
pub mod Memory
