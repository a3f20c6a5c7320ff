mod Beginnings
mod Rounds
pub mod Endings
