pub mod StoredBatches
pub mod Daemons
pub mod OneLog
