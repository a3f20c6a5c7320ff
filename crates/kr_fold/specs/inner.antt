pub mod ImageParts
pub mod NextBatches
pub mod SourceReads
