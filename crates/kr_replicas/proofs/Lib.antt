pub mod Listed
pub mod Partitions
