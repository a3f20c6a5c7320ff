pub mod Messages
pub mod Reading
pub mod WrittenReplies
pub mod inner
