pub mod ClosedStores
pub mod ContactRoom
pub mod EpochRows
