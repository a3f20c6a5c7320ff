pub mod Inputs
pub mod Messages
pub mod Requests
pub mod inner
