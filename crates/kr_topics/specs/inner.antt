pub mod EntryRules
pub mod NamedTopics
pub mod TopicSettings
