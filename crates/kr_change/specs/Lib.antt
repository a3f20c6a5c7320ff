pub mod Built
pub mod Soundness
