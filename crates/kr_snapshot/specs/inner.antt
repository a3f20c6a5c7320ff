pub mod EntryRecords
pub mod Writer
