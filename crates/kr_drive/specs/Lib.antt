pub mod Driving
pub mod inner
