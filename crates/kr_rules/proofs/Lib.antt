pub mod EntryCosts
pub mod FullImages
pub mod KeyLookups
pub mod RecordLists
pub mod SingleEntries
pub mod Tags
