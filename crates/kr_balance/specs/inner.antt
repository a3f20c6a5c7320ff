pub mod Planned
pub mod Tallies
