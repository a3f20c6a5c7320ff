mod Examples
pub mod LinkTurns
pub mod Turns
