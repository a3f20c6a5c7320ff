pub mod AnsweredEntries
pub mod BrokerTests
pub mod CarefulChanges
pub mod FencingSizes
pub mod HeardBrokers
pub mod HearingRequests
pub mod Lengths
pub mod NamedTopics
pub mod NewReplicas
pub mod NewTopics
mod PastLimits
pub mod PlacedReplicas
pub mod Refusals
pub mod RefusedRules
pub mod SafeRecords
pub mod SafeRequests
pub mod SafeRules
pub mod SafeWalks
