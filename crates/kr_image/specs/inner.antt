pub mod PartitionKeys
pub mod Roles
pub mod RecordAnswers
pub mod TimelineMaps
pub mod TopicKeys
