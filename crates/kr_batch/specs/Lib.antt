pub mod Answers
pub mod BatchBytes
pub mod Crc
pub mod Grammar
pub mod Reading
