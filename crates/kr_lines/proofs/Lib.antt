pub mod BatchByBatch
pub mod FrontBatches
pub mod Fronts
pub mod Items
pub mod Runs
pub mod Statuses
pub mod Told
