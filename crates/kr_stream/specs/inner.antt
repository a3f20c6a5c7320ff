pub mod Bodies
pub mod Taken
