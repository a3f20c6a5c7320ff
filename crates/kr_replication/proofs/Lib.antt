pub mod AgreeingNames
pub mod BrokerIds
pub mod Counts
pub mod EntryTests
pub mod LedPartitions
pub mod ListedWalks
pub mod Supersets
