pub mod Endings
pub mod Images
pub mod Logs
pub mod SourceBytes
pub mod inner
