-- Each row of the meaning of records keeps an image valid.
use Rattle.std.proofs.Common.{◌≡◌, ℕ, Bool, true, false, List, length, refl, subst, arith, ℤ}
use Rattle.std.specs.Prelude.{not, ◌&&◌, ◌||◌, Option, Some, None, negsuc, pos, nat_le, nat_lt, ◌==◌}
use Rattle.std.specs.Ordering.{int_cmp, int_eq}
use Rattle.std.proofs.lemmas.Bool.Decides.{nat_tests}
use Rattle.kr_defs.specs.declared.broker.Broker.{Broker}
use Rattle.kr_defs.specs.declared.partition.Partition.{Partition}
use Rattle.kr_defs.specs.declared.partition.PartitionChange.{PartitionChange}
use Rattle.kr_defs.specs.declared.record.ConfigKey.{ConfigKey}
use Rattle.kr_defs.specs.declared.record.Record.{Record}
use Rattle.kr_defs.specs.declared.record.Record.TheVariants as kinds
use Rattle.kr_defs.specs.declared.record.Item.{Item}
use Rattle.kr_defs.specs.declared.record.Item.TheVariants as items
use Rattle.kr_defs.specs.declared.ill.Ill.TheVariants.{BadNumber, NoBroker, StaleEpoch, NoTopic, TopicExists, BadName, NoPartition, PartitionExists, BadPartition, Limit}
use Rattle.kr_defs.specs.declared.limits.TheConstants.{MOST_BROKERS, MOST_FEATURES, LONGEST_FEATURE}
use Rattle.kr_defs.specs.Map as map
use Rattle.kr_defs.specs.Map.{text_order, partition_order, config_order}
use Rattle.kr_defs.specs.Image.{Image, IsValid, AreBrokers, AreConfigs, AreFeatures, ArePartitions, has_numbers, is_small_registration, has_topic, is_index}
use Rattle.kr_defs.specs.Merge.{merged}
use Rattle.kr_defs.specs.Partition.{is_well_formed}
use Rattle.kr_defs.specs.Texts.{is_topic_name}
use Rattle.kr_defs.specs.Apply as apply
use Rattle.kr_defs.proofs.ImageParts.{brokers-insert, brokers-set, brokers-remove, topics-insert, topics-filter, partitions-insert, partitions-set, partitions-more, partitions-filter, configs-insert, configs-remove, configs-filter, features-insert, features-remove}
use Rattle.kr_defs.proofs.Tests.{Gives, gives_refuse, gives_found, gives_done, gives_if, positive, neither, not_false, none_is}

short_enough : (n : ℕ) → nat_lt LONGEST_FEATURE n ≡ false → nat_le n LONGEST_FEATURE ≡ true
short_enough n h = grind (arith, nat_tests)

module _ (image : Image) (v : IsValid image) where
  with_brokers : (bs : List (ℤ × Broker)) → AreBrokers bs → IsValid (record image { brokers = bs })
  with_brokers bs are = record { brokers = are; topics = v.topics; partitions = v.partitions; configs = v.configs; features = v.features }

  with_partitions : (ps : List ((ℕ × ℤ) × Partition)) → ArePartitions image.topics ps → IsValid (record image { partitions = ps })
  with_partitions ps are = record { brokers = v.brokers; topics = v.topics; partitions = are; configs = v.configs; features = v.features }

  with_configs : (cs : List (ConfigKey × List ℕ)) → AreConfigs cs → IsValid (record image { configs = cs })
  with_configs cs are = record { brokers = v.brokers; topics = v.topics; partitions = v.partitions; configs = are; features = v.features }

  with_features : (fs : List (List ℕ × ℤ)) → AreFeatures fs → IsValid (record image { features = fs })
  with_features fs are = record { brokers = v.brokers; topics = v.topics; partitions = v.partitions; configs = v.configs; features = are }

  registers : (id : ℤ) (state : Broker) → Gives IsValid (apply.register_broker image id state)
  registers id state =
      gives_refuse IsValid BadNumber _ _ (λ numbers.
      gives_refuse IsValid StaleEpoch _ _ (λ fresh.
      gives_refuse IsValid Limit _ _ (λ limit. let l = neither (map.is_full int_cmp MOST_BROKERS image.brokers id) (not (is_small_registration state)) limit in
      gives_done IsValid _ (with_brokers _ (brokers-insert image.brokers id state v.brokers (not_false (has_numbers id state) numbers) (not_false (is_small_registration state) l.1) l.0)))))

  unregisters : (id epoch : ℤ) → Gives IsValid (apply.unregister_broker image id epoch)
  unregisters id epoch =
      gives_found IsValid NoBroker (map.get int_cmp image.brokers id) _ (λ old there.
      gives_refuse IsValid StaleEpoch _ _ (λ same.
      gives_done IsValid _ (with_brokers _ (brokers-remove image.brokers id v.brokers))))

  changes_registration : (id epoch fenced stopping : ℤ) → Gives IsValid (apply.change_broker_registration image id epoch fenced stopping)
  changes_registration id epoch fenced stopping =
      gives_found IsValid NoBroker (map.get int_cmp image.brokers id) _ (λ old there.
      gives_refuse IsValid StaleEpoch (not (int_eq epoch old.epoch)) _ (λ same.
      gives_refuse IsValid BadNumber (not (apply.is_fencing fenced && apply.is_flag stopping)) _ (λ flags.
      gives_done IsValid _ (with_brokers _ (brokers-set image.brokers id old (apply.changed old fenced stopping) v.brokers there refl refl)))))

  adds_topic : (name : List ℕ) (id : ℕ) → Gives IsValid (apply.add_topic image name id)
  adds_topic name id =
      gives_refuse IsValid BadName _ _ (λ named.
      gives_refuse IsValid TopicExists _ _ (λ new. let n = neither (map.contains text_order image.topics name || has_topic image.topics id) (id == 0) new in let m = neither (map.contains text_order image.topics name) (has_topic image.topics id) n.0 in
      gives_refuse IsValid Limit _ _ (λ free. let none = none_is (map.get text_order image.topics name) m.0 in
      gives_done IsValid _ (record {
        brokers = v.brokers;
        topics = topics-insert image.topics name id v.topics (not_false (is_topic_name name) named) none m.1 n.1 free;
        partitions = partitions-more image.topics image.partitions name id v.partitions none;
        configs = v.configs;
        features = v.features;
      }))))

  adds_partition : (index : ℤ) (topic : ℕ) (state : Partition) → Gives IsValid (apply.add_partition image index topic state)
  adds_partition index topic state =
      gives_refuse IsValid NoTopic _ _ (λ owned.
      gives_refuse IsValid BadNumber _ _ (λ numbers.
      gives_refuse IsValid PartitionExists _ _ (λ new.
      gives_refuse IsValid BadPartition _ _ (λ formed.
      gives_refuse IsValid Limit _ _ (λ free.
      gives_done IsValid _ (with_partitions _ (partitions-insert image.topics image.partitions topic index state v.partitions (not_false (has_topic image.topics topic) owned) (not_false (is_index index) numbers) (not_false (is_well_formed state) formed) free)))))))

  changes_partition : (index : ℤ) (topic : ℕ) (change : PartitionChange) → Gives IsValid (apply.change_partition image index topic change)
  changes_partition index topic change =
      gives_refuse IsValid NoTopic _ _ (λ owned.
      gives_found IsValid NoPartition (map.get partition_order image.partitions (topic, index)) _ (λ old there.
      gives_refuse IsValid BadPartition _ _ (λ formed.
      gives_done IsValid _ (with_partitions _ (partitions-set image.topics image.partitions (topic, index) old (merged old change) v.partitions there (not_false (is_well_formed (merged old change)) formed))))))

  removes_topic : (id : ℕ) → Gives IsValid (apply.remove_topic image id)
  removes_topic id =
      gives_found IsValid NoTopic _ _ (λ name there.
      gives_done IsValid _ (record {
        brokers = v.brokers;
        topics = topics-filter (λ e. not (e.1 == id)) image.topics v.topics;
        partitions = partitions-filter image.topics image.partitions id v.partitions;
        configs = configs-filter (λ e. not (apply.is_setting_of name e.0)) image.configs v.configs;
        features = v.features;
      }))

  sets_config : (key : ConfigKey) (value : Option (List ℕ)) → Gives IsValid (apply.set_config image key value)
  sets_config key None = gives_done IsValid _ (with_configs _ (configs-remove image.configs key v.configs))
  sets_config key (Some value) =
      gives_refuse IsValid Limit _ _ (λ little.
      gives_done IsValid _ (with_configs _ (configs-insert image.configs key value v.configs little)))

  sets_feature : (name : List ℕ) (level : ℤ) → Gives IsValid (apply.set_feature_level image name level)
  sets_feature name level =
      gives_refuse IsValid BadNumber _ _ (λ numbers.
      gives_refuse IsValid Limit _ _ (λ limit. let l = neither (nat_lt LONGEST_FEATURE (length name)) (not (int_eq level (pos 0)) && map.is_full text_order MOST_FEATURES image.features name) limit in
      gives_if IsValid (int_eq level (pos 0)) _ _
      (λ zero. gives_done IsValid _ (with_features _ (features-remove image.features name v.features)))
      (λ some. let free : map.is_full text_order MOST_FEATURES image.features name ≡ false = subst (λ (b : Bool). (not b && map.is_full text_order MOST_FEATURES image.features name) ≡ false) some l.1 in
      gives_done IsValid _ (with_features _ (features-insert image.features name level v.features (positive level numbers some) (short_enough (length name) l.0) free)))))

  pub records : (r : Record) → Gives IsValid (apply.apply_record image r)
  unfolding apply.apply_record
  records (kinds.RegisterBroker broker state) = registers broker state
  records (kinds.UnregisterBroker broker epoch) = unregisters broker epoch
  records (kinds.Topic name id) = adds_topic name id
  records (kinds.Partition index topic state) = adds_partition index topic state
  records (kinds.Config kind name key value) = sets_config (record { kind = kind; name = name; key = key }) value
  records (kinds.PartitionChange index topic change) = changes_partition index topic change
  records (kinds.FenceBroker broker epoch) = changes_registration broker epoch (pos 1) (pos 0)
  records (kinds.UnfenceBroker broker epoch) = changes_registration broker epoch (negsuc 0) (pos 0)
  records (kinds.RemoveTopic topic) = removes_topic topic
  records (kinds.FeatureLevel name level) = sets_feature name level
  records (kinds.BrokerRegistrationChange broker epoch fenced stopping) = changes_registration broker epoch fenced stopping
  records kinds.NoOp = gives_done IsValid _ v
  records (kinds.BeginTransaction name) = λ after e. absurd cc
  records kinds.EndTransaction = λ after e. absurd cc
  records (kinds.AbortTransaction reason) = λ after e. absurd cc

  pub kept : (item : Item) → Gives IsValid (apply.apply image item)
  unfolding apply.apply
  kept items.Control = gives_done IsValid _ v
  kept (items.Record r) = records r
