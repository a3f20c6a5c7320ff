pub mod Round
pub mod inner
