pub mod Batches
pub mod Changes
pub mod NumberedRecords
pub mod Placements
pub mod Settings
