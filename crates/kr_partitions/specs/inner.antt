pub mod EpochReports
pub mod NamedLeader
pub mod RequestKeys
