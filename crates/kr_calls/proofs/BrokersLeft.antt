-- Requests that aren't about brokers leave the brokers of an image as they are.
use Rattle.std.proofs.Common.{◌≡◌, ◌∙◌, ℤ, ℕ, suc, Bool, true, false, cond, List, [], ◌∷◌, ◌++◌, refl, not}
use Rattle.std.specs.Prelude.{Option, Some, None, Result, Ok, ◌&&◌, ◌||◌, pos, bytes_eq, unwrap_or, length, ◌-◌, unsigned_abs, nat_le, nat_lt, negsuc, int_lt, ◌==◌}
use Rattle.std.specs.List.{list_any, list_all, filter_map, cons_option}
use Rattle.std.specs.Option.{option_map, option_map_or}
use Rattle.std.specs.Ordering.{int_eq}
use Rattle.std.proofs.lemmas.Bool.{and_parts, and_from}
use Rattle.std.proofs.lemmas.List.Folds.{list_all-append}
use Rattle.kr_defs.specs.declared.options.Options.{Options}
use Rattle.kr_defs.specs.declared.partition.Partition.{Partition}
use Rattle.kr_defs.specs.declared.partition.PartitionChange.{PartitionChange}
use Rattle.kr_defs.specs.declared.record.ConfigKey.{ConfigKey}
use Rattle.kr_defs.specs.declared.record.Record.{Record}
use Rattle.kr_defs.specs.declared.record.Record.TheVariants as kinds
use Rattle.kr_defs.specs.Apply as apply
use Rattle.kr_defs.specs.Build.{built}
use Rattle.kr_defs.specs.Image.{Image, topic_name, has_topic, is_index, config_text}
use Rattle.kr_defs.specs.Merge.{merged}
use Rattle.kr_defs.specs.Texts.{is_topic_name, names_agree}
use Rattle.kr_defs.specs.declared.limits.TheConstants.{MOST_TOPICS, MOST_PARTITIONS, MOST_CONFIG_TEXT, MOST_FEATURES, LONGEST_FEATURE}
use Rattle.kr_calls.specs.declared.errors.TheConstants.{ELECTION_NOT_NEEDED, ELIGIBLE_LEADERS_NOT_AVAILABLE, FENCED_LEADER_EPOCH, INELIGIBLE_REPLICA, INVALID_CONFIG, INVALID_PARTITIONS, INVALID_REPLICA_ASSIGNMENT, INVALID_REQUEST, INVALID_TOPIC_EXCEPTION, INVALID_UPDATE_VERSION, PREFERRED_LEADER_NOT_AVAILABLE, TOPIC_ALREADY_EXISTS, UNKNOWN_LEADER_EPOCH, UNKNOWN_TOPIC_ID, UNKNOWN_TOPIC_OR_PARTITION}
use Rattle.kr_calls.specs.Refuse.{refused_incremental_alter_configs}
use Rattle.kr_defs.specs.Map as entries
use Rattle.kr_defs.specs.Map.{config_order, partition_order, text_order}
use Rattle.kr_defs.specs.Partition.{target, is_well_formed}
use Rattle.kr_defs.specs.Settings.{facts_of, is_broker_name}
use Rattle.kr_defs.specs.Brokers.{active}
use Rattle.kr_defs.specs.Ids.{has}
use Rattle.kr_defs.specs.Topics.{count_of}
use Rattle.kr_defs.specs.declared.changing.Mode.TheVariants as modes
use Rattle.kr_defs.specs.declared.ill.Ill.TheVariants.{BadNumber, NoTopic, TopicExists, BadName, NoPartition, PartitionExists, BadPartition, Limit}
use Rattle.kr_defs.specs.Walk.{Walked, changes_of, change_records, walk}
use Rattle.kr_defs.proofs.Tests.{Gives, gives_refuse, gives_found, gives_done, gives_if, gives_then}
use Rattle.kr_calls.specs.declared.incremental_alter_configs.ConfigResource.{ConfigResource}
use Rattle.kr_calls.specs.declared.deciding.Draft.{Draft}
use Rattle.kr_calls.specs.declared.create_topics.CreatableTopicConfig.{CreatableTopicConfig}
use Rattle.kr_calls.specs.Deciding.{apply_records}
use Rattle.kr_calls.specs.AlterPartition as alter_partition
use Rattle.kr_calls.specs.AlterPartitionReassignments as alter_partition_reassignments
use Rattle.kr_calls.specs.CreatePartitions as create_partitions
use Rattle.kr_calls.specs.CreateTopics as create_topics
use Rattle.kr_calls.specs.DeleteTopics as delete_topics
use Rattle.kr_calls.specs.ElectLeaders as elect_leaders
use Rattle.kr_calls.specs.IncrementalAlterConfigs as incremental_alter_configs
use Rattle.kr_calls.specs.NewPartitions.{new_partitions}

-- a record that isn't about a broker
abbrev pub is_brokerless : Record → Bool
is_brokerless (kinds.RegisterBroker broker state) = false
is_brokerless (kinds.UnregisterBroker broker epoch) = false
is_brokerless (kinds.FenceBroker broker epoch) = false
is_brokerless (kinds.UnfenceBroker broker epoch) = false
is_brokerless (kinds.BrokerRegistrationChange broker epoch fenced stopping) = false
is_brokerless other = true

abbrev pub are_brokerless : List Record → Bool
are_brokerless records = list_all is_brokerless records

-- ---- what they leave

abbrev pub LeavesBrokers : Image → Image → Type 0
LeavesBrokers image after = after.brokers ≡ image.brokers

one_leaves : (image : Image) (r : Record) → is_brokerless r ≡ true → Gives (LeavesBrokers image) (apply.apply_record image r)
unfolding apply.apply_record
one_leaves image (kinds.RegisterBroker broker state) not_one = absurd cc
one_leaves image (kinds.UnregisterBroker broker epoch) not_one = absurd cc
one_leaves image (kinds.FenceBroker broker epoch) not_one = absurd cc
one_leaves image (kinds.UnfenceBroker broker epoch) not_one = absurd cc
one_leaves image (kinds.BrokerRegistrationChange broker epoch fenced stopping) not_one = absurd cc
one_leaves image (kinds.Topic name id) is =
    gives_refuse (LeavesBrokers image) BadName (not (is_topic_name name)) _ (λ _. gives_refuse (LeavesBrokers image) TopicExists (entries.contains text_order image.topics name || has_topic image.topics id || id == 0) _ (λ _. gives_refuse (LeavesBrokers image) Limit (nat_le MOST_TOPICS (length image.topics)) _ (λ _. gives_done (LeavesBrokers image) _ refl)))
one_leaves image (kinds.Partition index topic state) is =
    gives_refuse (LeavesBrokers image) NoTopic (not (has_topic image.topics topic)) _ (λ _. gives_refuse (LeavesBrokers image) BadNumber (not (is_index index)) _ (λ _. gives_refuse (LeavesBrokers image) PartitionExists (entries.contains partition_order image.partitions (topic, index)) _ (λ _.
    gives_refuse (LeavesBrokers image) BadPartition (not (is_well_formed state)) _ (λ _. gives_refuse (LeavesBrokers image) Limit (nat_le MOST_PARTITIONS (length image.partitions)) _ (λ _. gives_done (LeavesBrokers image) _ refl)))))
one_leaves image (kinds.Config kind name key None) is = gives_done (LeavesBrokers image) _ refl
one_leaves image (kinds.Config kind name key (Some value)) is = gives_refuse (LeavesBrokers image) Limit (let k : ConfigKey = record { kind = kind; name = name; key = key } in nat_lt MOST_CONFIG_TEXT (config_text (entries.insert config_order image.configs k value))) _ (λ _. gives_done (LeavesBrokers image) _ refl)
one_leaves image (kinds.PartitionChange index topic change) is =
    gives_refuse (LeavesBrokers image) NoTopic (not (has_topic image.topics topic)) _ (λ _. gives_found (LeavesBrokers image) NoPartition (entries.get partition_order image.partitions (topic, index)) _ (λ old _. gives_refuse (LeavesBrokers image) BadPartition (not (is_well_formed (merged old change))) _ (λ _. gives_done (LeavesBrokers image) _ refl)))
one_leaves image (kinds.RemoveTopic topic) is = gives_found (LeavesBrokers image) NoTopic (topic_name image.topics topic) _ (λ _ _. gives_done (LeavesBrokers image) _ refl)
one_leaves image (kinds.FeatureLevel name level) is =
    gives_refuse (LeavesBrokers image) BadNumber (int_lt level (pos 0)) _ (λ _. gives_refuse (LeavesBrokers image) Limit (nat_lt LONGEST_FEATURE (length name) || (not (int_eq level (pos 0)) && entries.is_full text_order MOST_FEATURES image.features name)) _ (λ _. gives_if (LeavesBrokers image) (int_eq level (pos 0)) _ _ (λ _. gives_done (LeavesBrokers image) _ refl) (λ _. gives_done (LeavesBrokers image) _ refl)))
one_leaves image kinds.NoOp is = gives_done (LeavesBrokers image) _ refl
one_leaves image (kinds.BeginTransaction name) is = λ after e. absurd cc
one_leaves image kinds.EndTransaction is = λ after e. absurd cc
one_leaves image (kinds.AbortTransaction reason) is = λ after e. absurd cc

pub all_leave : (image : Image) (records : List Record) → are_brokerless records ≡ true → Gives (LeavesBrokers image) (apply_records image records)
all_leave image [] are = gives_done (LeavesBrokers image) image refl
all_leave image (r ∷ records) are =
    let parts = and_parts (is_brokerless r) (are_brokerless records) are in
    gives_then (LeavesBrokers image) (LeavesBrokers image) (apply.apply_record image r) (λ after. apply_records after records) (one_leaves image r parts.0) (λ mid same after is. all_leave mid records parts.1 after is ∙ same)

-- ---- which records aren't about brokers

pub changes_are : (change : Walked → Option PartitionChange) (ws : List Walked) → are_brokerless (changes_of change ws) ≡ true
changes_are change [] = refl
changes_are change (w ∷ ws) =
    elim (change w) as (λ o. are_brokerless (cons_option (option_map (λ c. kinds.PartitionChange w.key.1 w.key.0 c) o) (changes_of change ws)) ≡ true) [
      | None ↦ changes_are change ws
      | Some c ↦ changes_are change ws
    ]

change_is : (id : ℕ) (index : ℤ) (change : Option PartitionChange) → are_brokerless (change_records id index change) ≡ true
change_is id index None = refl
change_is id index (Some change) = refl

partitions_are : (image : Image) (id first : ℕ) (lists : List (List ℤ)) → are_brokerless (new_partitions image id first lists) ≡ true
partitions_are image id first [] = refl
partitions_are image id first (replicas ∷ lists) = partitions_are image id (suc first) lists

settings_are : (configs : List (ConfigKey × List ℕ)) (topic : List ℕ) (settings : List CreatableTopicConfig) → are_brokerless (create_topics.settings_records configs topic settings) ≡ true
settings_are configs topic [] = refl
settings_are configs topic (setting ∷ settings) =
    let key : ConfigKey = record { kind = pos 2; name = topic; key = setting.name } in
    let value : List ℕ = unwrap_or setting.value [] in
    let next = create_topics.settings_records (entries.insert config_order configs key value) topic settings in
    elim (option_map_or (bytes_eq value) (entries.get config_order configs key) false) as (λ b. are_brokerless (cond b (create_topics.settings_records configs topic settings) (kinds.Config (pos 2) topic setting.name (Some value) ∷ next)) ≡ true) [
      | true ↦ settings_are configs topic settings
      | false ↦ settings_are (entries.insert config_order configs key value) topic settings
    ]

values_are : (image : Image) (entry : ConfigResource) (values : incremental_alter_configs.Values) → are_brokerless (filter_map (incremental_alter_configs.config_record image entry) values) ≡ true
values_are image entry [] = refl
values_are image entry (v ∷ values) =
    elim (incremental_alter_configs.is_same_value v.1 (entries.get config_order image.configs (incremental_alter_configs.key_of entry v.0))) as (λ b. are_brokerless (cons_option (cond b None (Some (kinds.Config entry.kind entry.name v.0 v.1))) (filter_map (incremental_alter_configs.config_record image entry) values)) ≡ true) [
      | true ↦ values_are image entry values
      | false ↦ values_are image entry values
    ]

both_are : (xs ys : List Record) → are_brokerless xs ≡ true → are_brokerless ys ≡ true → are_brokerless (xs ++ ys) ≡ true
both_are xs ys a b = list_all-append is_brokerless xs ys ∙ and_from (are_brokerless xs) (are_brokerless ys) a b

-- ---- the rules

abbrev pub IsBrokerless : {A : Type 0} → Draft A → Type 0
IsBrokerless draft = are_brokerless draft.records ≡ true

-- a rule gives no record about a broker
abbrev pub AreBrokerless : {E A : Type 0} → (Image → ℤ → E → Result (Draft A) ℤ) → Type 0
AreBrokerless rule = (image : Image) (place : ℤ) (entry : _) → Gives IsBrokerless (rule image place entry)

pub creates : (options : Options) (validate_only : Bool) → AreBrokerless (create_topics.rule options validate_only)
creates options validate_only image place entry =
    gives_refuse IsBrokerless INVALID_TOPIC_EXCEPTION (not (is_topic_name entry.name)) _ (λ _. gives_refuse IsBrokerless TOPIC_ALREADY_EXISTS (entries.contains text_order image.topics entry.name) _ (λ _. gives_refuse IsBrokerless INVALID_TOPIC_EXCEPTION (list_any (λ topic. names_agree topic.0 entry.name) image.topics) _ (λ _.
    gives_then (λ _. Unit {0}) IsBrokerless (create_topics.layout options image place entry) (create_topics.of_layout options validate_only image place entry) (λ _ _. tt) (λ layout _.
    gives_refuse IsBrokerless INVALID_CONFIG (list_any create_topics.is_bad_setting entry.configs) _ (λ _. gives_done IsBrokerless (create_topics.created image validate_only (create_topics.new_id options image place) entry layout)
    (both_are (create_topics.settings_records image.configs entry.name entry.configs) (new_partitions image (create_topics.new_id options image place) 0 layout.replicas)
    (settings_are image.configs entry.name entry.configs) (partitions_are image (create_topics.new_id options image place) 0 layout.replicas)))))))

deletes_named : (image : Image) (name : Option (List ℕ)) (id : ℕ) → Gives IsBrokerless (delete_topics.by_name_or_id image name id)
deletes_named image (Some name) id = gives_found IsBrokerless UNKNOWN_TOPIC_OR_PARTITION (entries.get text_order image.topics name) _ (λ _ _. gives_done IsBrokerless _ refl)
deletes_named image None id = gives_found IsBrokerless UNKNOWN_TOPIC_ID (topic_name image.topics id) _ (λ _ _. gives_done IsBrokerless _ refl)

pub deletes : AreBrokerless delete_topics.rule
deletes image place entry = gives_refuse IsBrokerless INVALID_REQUEST _ _ (λ _. deletes_named image entry.name entry.topic)

pub grows : AreBrokerless create_partitions.rule
grows image place entry =
    gives_found IsBrokerless UNKNOWN_TOPIC_OR_PARTITION (entries.get text_order image.topics entry.name) _ (λ id _. let first = count_of image id in
    gives_refuse IsBrokerless INVALID_PARTITIONS _ _ (λ _. gives_found IsBrokerless INVALID_REPLICA_ASSIGNMENT (entries.get partition_order image.partitions (id, pos 0)) _ (λ p _.
    gives_then (λ _. Unit {0}) IsBrokerless (create_partitions.new_replicas image place first (unsigned_abs entry.count - first) (length (target p)) entry.assignments) _ (λ _ _. tt) (λ lists _. gives_done IsBrokerless (create_partitions.grown image id first entry lists) (partitions_are image id first lists)))))

drafted_is : (broker : ℤ) (entry : alter_partition.Entry) (p : Partition) (o : Option PartitionChange) → IsBrokerless (alter_partition.drafted broker entry p o)
drafted_is broker entry p None = refl
drafted_is broker entry p (Some change) = refl

pub reports : (options : Options) (broker : ℤ) → AreBrokerless (alter_partition.rule options broker)
unfolding alter_partition.of_partition alter_partition.accepted
reports options broker image place entry =
    gives_found IsBrokerless UNKNOWN_TOPIC_ID (topic_name image.topics entry.0) _ (λ name _. gives_found IsBrokerless UNKNOWN_TOPIC_OR_PARTITION (entries.get partition_order image.partitions (entry.0, entry.1.index)) _ (λ p _.
    gives_refuse IsBrokerless FENCED_LEADER_EPOCH (int_lt entry.1.leader_epoch p.leader_epoch) _ (λ _. gives_refuse IsBrokerless UNKNOWN_LEADER_EPOCH (int_lt p.leader_epoch entry.1.leader_epoch) _ (λ _. gives_refuse IsBrokerless INVALID_UPDATE_VERSION (not (int_eq entry.1.partition_epoch p.partition_epoch)) _ (λ _. gives_refuse IsBrokerless INVALID_REQUEST (alter_partition.is_bad broker p entry.1) _ (λ _. gives_refuse IsBrokerless INELIGIBLE_REPLICA (not (list_all (alter_partition.is_ready image) entry.1.in_sync)) _ (λ _.
    gives_done IsBrokerless (alter_partition.drafted broker entry p (built p (alter_partition.wanted p entry.1) (facts_of options image name))) (drafted_is broker entry p (built p (alter_partition.wanted p entry.1) (facts_of options image name))))))))))

elects_one : (options : Options) (kind : ℤ) (image : Image) (entry : elect_leaders.Entry) (id : ℕ) (p : Partition) → Gives IsBrokerless (elect_leaders.of_partition options kind image entry id p)
elects_one options kind image entry id p =
    gives_if IsBrokerless (elect_leaders.is_preferred_kind kind) (elect_leaders.prefers options image entry id p) (elect_leaders.elects_any options image entry id p)
    (λ _. gives_refuse IsBrokerless ELECTION_NOT_NEEDED (int_eq p.leader (elect_leaders.first_replica p)) _ (λ _. gives_refuse IsBrokerless PREFERRED_LEADER_NOT_AVAILABLE (not (has p.in_sync (elect_leaders.first_replica p) && has (active image) (elect_leaders.first_replica p))) _ (λ _. gives_done IsBrokerless _ (change_is id entry.1 (built p (elect_leaders.in_mode p modes.Preferred) (facts_of options image entry.0))))))
    (λ _. gives_refuse IsBrokerless ELECTION_NOT_NEEDED (not (int_eq p.leader (negsuc 0))) _ (λ _. gives_refuse IsBrokerless ELIGIBLE_LEADERS_NOT_AVAILABLE (elect_leaders.finds_nobody options image entry p) _ (λ _. gives_done IsBrokerless _ (change_is id entry.1 (built p (elect_leaders.in_mode p modes.Unclean) (facts_of options image entry.0))))))

pub elects : (options : Options) (kind : ℤ) → AreBrokerless (elect_leaders.rule options kind)
elects options kind image place entry =
    gives_found IsBrokerless UNKNOWN_TOPIC_OR_PARTITION (entries.get text_order image.topics entry.0) _ (λ id _. gives_found IsBrokerless UNKNOWN_TOPIC_OR_PARTITION (entries.get partition_order image.partitions (id, entry.1)) _ (λ p _. elects_one options kind image entry id p))

pub reassigns : (options : Options) → AreBrokerless (alter_partition_reassignments.rule options)
reassigns options image place entry =
    gives_found IsBrokerless UNKNOWN_TOPIC_OR_PARTITION (entries.get text_order image.topics entry.0) _ (λ id _. gives_found IsBrokerless UNKNOWN_TOPIC_OR_PARTITION (entries.get partition_order image.partitions (id, entry.1.index)) _ (λ p _.
    gives_then (λ _. Unit {0}) IsBrokerless (alter_partition_reassignments.wanted image p entry.1.replicas) _ (λ _ _. tt) (λ want _. gives_refuse IsBrokerless INVALID_REPLICA_ASSIGNMENT (alter_partition_reassignments.loses_all image entry.0 p want) _ (λ _. gives_done IsBrokerless _ (change_is id entry.1.index (built p want (facts_of options image entry.0)))))))

pub configures : (options : Options) → AreBrokerless (incremental_alter_configs.rule options)
configures options image place entry =
    gives_refuse IsBrokerless INVALID_REQUEST (not (incremental_alter_configs.is_topic_kind entry || incremental_alter_configs.is_broker_kind entry)) _ (λ _. gives_refuse IsBrokerless UNKNOWN_TOPIC_OR_PARTITION (incremental_alter_configs.is_topic_kind entry && not (entries.contains text_order image.topics entry.name)) _ (λ _. gives_refuse IsBrokerless INVALID_REQUEST (incremental_alter_configs.is_broker_kind entry && not (is_broker_name entry.name)) _ (λ _.
    gives_then (λ _. Unit {0}) IsBrokerless (incremental_alter_configs.after_operations image entry [] entry.configs) (λ (values : incremental_alter_configs.Values). Ok (record { records = incremental_alter_configs.resource_records options image entry values; answer = refused_incremental_alter_configs (pos 0) entry })) (λ _ _. tt) (λ values _.
    let after : Image = record image { configs = incremental_alter_configs.with_values image.configs entry values } in
    let relieved = changes_of (incremental_alter_configs.relief options image after) (walk image) in
    gives_done IsBrokerless (record { records = incremental_alter_configs.resource_records options image entry values; answer = refused_incremental_alter_configs (pos 0) entry }) (both_are (filter_map (incremental_alter_configs.config_record image entry) values) relieved (values_are image entry values) (changes_are (incremental_alter_configs.relief options image after) (walk image)))))))
