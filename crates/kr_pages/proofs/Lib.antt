pub mod Joining
pub mod Rising
pub mod NullableLaws
pub mod Messages
pub mod Asks
mod Examples
