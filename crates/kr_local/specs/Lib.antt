pub mod Appends
pub mod Plans
