pub mod Notes
pub mod Making
