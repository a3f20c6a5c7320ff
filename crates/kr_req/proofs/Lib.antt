pub mod Headers
mod Bodies
pub mod Asks
pub mod Replies
pub mod Examples
