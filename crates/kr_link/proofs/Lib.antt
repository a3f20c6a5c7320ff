pub mod CoreSteps
pub mod Grouping
pub mod LinkMoves
