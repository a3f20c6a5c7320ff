pub mod Equality
pub mod Rules
pub mod Tapes
