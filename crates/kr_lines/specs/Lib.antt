pub mod BatchLines
pub mod Endings
pub mod Notes
pub mod WhichStatus
pub mod inner
