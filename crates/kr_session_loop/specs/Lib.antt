pub mod Session
pub mod Endings
pub mod inner
