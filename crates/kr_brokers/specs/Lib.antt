pub mod Expiry
pub mod Stopping
pub mod Unfencing
