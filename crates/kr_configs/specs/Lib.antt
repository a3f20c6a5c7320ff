pub mod NamedKeys
pub mod inner
