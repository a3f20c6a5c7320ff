-- The record of an entry of an image.
use Rattle.std.specs.Prelude.{ℕ, ℤ, List, Some}
use Rattle.kr_defs.specs.declared.broker.Broker.{Broker}
use Rattle.kr_defs.specs.declared.partition.Partition.{Partition}
use Rattle.kr_defs.specs.declared.record.ConfigKey.{ConfigKey}
use Rattle.kr_defs.specs.declared.record.Record.{Record}
use Rattle.kr_defs.specs.declared.record.Record.TheVariants as kinds

abbrev pub feature_record : List ℕ × ℤ → Record
feature_record e = kinds.FeatureLevel e.0 e.1

abbrev pub broker_record : ℤ × Broker → Record
broker_record e = kinds.RegisterBroker e.0 e.1

-- by its key, the topic's id and the index
abbrev pub partition_record : (ℕ × ℤ) × Partition → Record
partition_record e = kinds.Partition e.0.1 e.0.0 e.1

abbrev pub config_record : ConfigKey × List ℕ → Record
config_record e = kinds.Config e.0.kind e.0.name e.0.key (Some e.1)
