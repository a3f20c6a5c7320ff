pub mod Answers
pub mod Encodable
pub mod Grammar
pub mod Layout
pub mod Limits
pub mod Reading
pub mod Records
pub mod Spelling
