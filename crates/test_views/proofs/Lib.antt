pub mod StagedItems
