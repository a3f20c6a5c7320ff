pub mod SteadyReads
pub mod inner
