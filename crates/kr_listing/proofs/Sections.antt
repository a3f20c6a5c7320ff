-- The sections of an image, one record after the other.
use Rattle.std.proofs.Common.{◌≡◌, ◌∙◌, ℕ, ℤ, List, [], ◌∷◌, ◌++◌, map, refl, sym, ap, append_assoc}
use Rattle.std.specs.List.{flat_map}
use Rattle.std.specs.Prelude.{Some}
use Rattle.kr_defs.specs.declared.broker.Broker.{Broker}
use Rattle.kr_defs.specs.declared.partition.Partition.{Partition}
use Rattle.kr_defs.specs.declared.record.ConfigKey.{ConfigKey}
use Rattle.kr_defs.specs.declared.record.Record.{Record}
use Rattle.kr_defs.specs.declared.record.Record.TheVariants as kinds
use Rattle.kr_defs.specs.Image.{Image}
use Rattle.kr_defs.specs.Records.{partition_record, records_of, topic_records}
use Rattle.kr_defs.specs.Walk.{of_topic, walked}
use Rattle.kr_listing.specs.ImageParts.{with_parts}
use Rattle.kr_listing.specs.inner.Contents.{of_broker, of_config, of_feature, of_partition}

-- ---- the partitions of a topic

one_by_one : (name : List ℕ) (es : List ((ℕ × ℤ) × Partition)) → map partition_record (map (walked name) es) ≡ flat_map of_partition es
one_by_one name [] = refl
one_by_one name (e ∷ es) = ap (λ (rs : List Record). kinds.Partition e.0.1 e.0.0 e.1 ∷ rs) (one_by_one name es)

pub topic_behind : (name : List ℕ) (id : ℕ) (ps : List ((ℕ × ℤ) × Partition)) (old new after : List Record) → new ≡ old ++ kinds.Topic name id ∷ []
    → after ≡ new ++ flat_map of_partition (of_topic id ps) → after ≡ old ++ topic_records ps (name, id)
topic_behind name id ps old new after first then =
    let partitions = flat_map of_partition (of_topic id ps) in
    then
    ∙ (ap (λ (rs : List Record). rs ++ partitions) first
    ∙ (append_assoc old (kinds.Topic name id ∷ []) partitions
    ∙ ap (λ (rs : List Record). old ++ kinds.Topic name id ∷ rs) (sym (one_by_one name (of_topic id ps)))))

pub ruleset topics = (topic_behind)

-- ---- all sections

abbrev feature_record : List ℕ × ℤ → Record
feature_record e = kinds.FeatureLevel e.0 e.1

abbrev broker_record : ℤ × Broker → Record
broker_record e = kinds.RegisterBroker e.0 e.1

abbrev config_record : ConfigKey × List ℕ → Record
config_record e = kinds.Config e.0.kind e.0.name e.0.key (Some e.1)

one_each : {X : Type 0} (f : X → Record) (xs : List X) → flat_map (λ (x : X). f x ∷ []) xs ≡ map f xs
one_each f [] = refl
one_each f (x ∷ xs) = ap (λ (rs : List Record). f x ∷ rs) (one_each f xs)

pub all_sections : (image : Image) (records : List Record)
    → records ≡ with_parts [] of_feature of_broker (λ (i : Image). topic_records i.partitions) of_config image → records ≡ records_of image
unfolding records_of
all_sections image records is =
    let configs = flat_map of_config image.configs in
    let all = flat_map (topic_records image.partitions) image.topics in
    let first = map feature_record image.features in
    is
    ∙ (ap (λ (rs : List Record). ((rs ++ flat_map of_broker image.brokers) ++ all) ++ configs) (one_each feature_record image.features)
    ∙ (ap (λ (rs : List Record). ((first ++ rs) ++ all) ++ configs) (one_each broker_record image.brokers)
    ∙ ap (λ (rs : List Record). ((first ++ map broker_record image.brokers) ++ all) ++ rs) (one_each config_record image.configs)))

pub ruleset sections = (all_sections)
