-- The record of each entry of an image; of a topic those of its partitions too.
use Rattle.std.specs.Prelude.{ℕ, ℤ, List, [], ◌∷◌, Some}
use Rattle.kr_defs.specs.declared.broker.Broker.{Broker}
use Rattle.kr_defs.specs.declared.partition.Partition.{Partition}
use Rattle.kr_defs.specs.declared.record.ConfigKey.{ConfigKey}
use Rattle.kr_defs.specs.declared.record.Record.{Record}
use Rattle.kr_defs.specs.declared.record.Record.TheVariants as kinds

abbrev pub of_feature : List ℕ × ℤ → List Record
of_feature e = kinds.FeatureLevel e.0 e.1 ∷ []

abbrev pub of_broker : ℤ × Broker → List Record
of_broker e = kinds.RegisterBroker e.0 e.1 ∷ []

-- by its key, the topic's id and the index
abbrev pub of_partition : (ℕ × ℤ) × Partition → List Record
of_partition e = kinds.Partition e.0.1 e.0.0 e.1 ∷ []

abbrev pub of_config : ConfigKey × List ℕ → List Record
of_config e = kinds.Config e.0.kind e.0.name e.0.key (Some e.1) ∷ []
