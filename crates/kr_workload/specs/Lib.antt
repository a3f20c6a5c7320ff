pub mod Chances
pub mod Requests
pub mod Replies
pub mod Session
pub mod Summary
pub mod inner
