pub mod Flows
pub mod Moves
pub mod Rooms
pub mod Phases
pub mod Progresses
