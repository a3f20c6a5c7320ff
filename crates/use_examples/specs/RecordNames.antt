-- Kafka's names of the metadata records (the schemas of KIP-631 and later).
use Rattle.std.specs.Prelude.{ℕ, List, codes}
use Rattle.kr_defs.specs.declared.record.Record.{Record}
use Rattle.kr_defs.specs.declared.record.Record.TheVariants as kinds

abbrev pub name_of : Record → List ℕ
name_of (kinds.RegisterBroker broker state) = codes "RegisterBrokerRecord"
name_of (kinds.UnregisterBroker broker epoch) = codes "UnregisterBrokerRecord"
name_of (kinds.Topic name id) = codes "TopicRecord"
name_of (kinds.Partition index topic state) = codes "PartitionRecord"
name_of (kinds.Config kind name key value) = codes "ConfigRecord"
name_of (kinds.PartitionChange index topic change) = codes "PartitionChangeRecord"
name_of (kinds.FenceBroker broker epoch) = codes "FenceBrokerRecord"
name_of (kinds.UnfenceBroker broker epoch) = codes "UnfenceBrokerRecord"
name_of (kinds.RemoveTopic topic) = codes "RemoveTopicRecord"
name_of (kinds.FeatureLevel name level) = codes "FeatureLevelRecord"
name_of (kinds.BrokerRegistrationChange broker epoch fenced stopping) = codes "BrokerRegistrationChangeRecord"
name_of kinds.NoOp = codes "NoOpRecord"
name_of (kinds.BeginTransaction name) = codes "BeginTransactionRecord"
name_of kinds.EndTransaction = codes "EndTransactionRecord"
name_of (kinds.AbortTransaction reason) = codes "AbortTransactionRecord"
