pub mod KeptImages
pub mod Timelines
pub mod inner
