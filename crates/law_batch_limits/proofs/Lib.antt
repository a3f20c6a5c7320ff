pub mod RequestLimits
pub mod FittingRecords
pub mod ShortRecords
pub mod AbortRecords
