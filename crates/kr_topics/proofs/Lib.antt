pub mod ActiveBrokers
pub mod Assignments
pub mod EarlyRefusals
pub mod FirstNumbers
pub mod MetadataRows
pub mod Names
pub mod Placements
pub mod TopicSettings
