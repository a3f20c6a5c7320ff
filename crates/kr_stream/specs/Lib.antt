pub mod Kinds
pub mod Frames
pub mod Reader
pub mod RefusalNumbers
pub mod Outputs
pub mod Laws
pub mod inner
