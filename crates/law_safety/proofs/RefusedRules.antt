-- What each rule gives is refused by limits alone.
use Rattle.std.proofs.Common.{◌≡◌, ◌∙◌, ℤ, ℕ, suc, Bool, true, false, cond, not, ◌&&◌, ◌||◌, ◌==◌, ◌-◌, List, [], ◌∷◌, ◌++◌, length, refl, sym, ap, subst, inr, arith}
use Rattle.std.specs.Prelude.{Option, Some, None, Result, Ok, IsTrue, MatchResult, pos, negsuc, int_lt, int_le, nat_le, nat_lt, bytes_eq, unsigned_abs, unwrap_or, filter_map}
use Rattle.std.specs.List.{AllByRecursion, cons_option, list_all, list_any}
use Rattle.std.specs.Option.{option_map_or}
use Rattle.std.specs.Ordering.{int_cmp, int_eq}
use Rattle.std.proofs.lemmas.Bool.{and_from, and_parts}
use Rattle.std.proofs.lemmas.Bool.Decides.{nat_tests}
use Rattle.std.proofs.lemmas.List.Elements.{recursion_from_All}
use Rattle.std.proofs.lemmas.Option.{IfSome_then}
use Rattle.kr_defs.specs.declared.broker.Broker.{Broker}
use Rattle.kr_defs.specs.declared.changing.Facts.{Facts}
use Rattle.kr_defs.specs.declared.changing.Mode.{Mode}
use Rattle.kr_defs.specs.declared.changing.Mode.TheVariants as modes
use Rattle.kr_defs.specs.declared.changing.Want.{Want}
use Rattle.kr_defs.specs.declared.ill.Ill.{Ill}
use Rattle.kr_defs.specs.declared.ill.Ill.TheVariants.{BadName, BadNumber, BadPartition, Limit, NoTopic, PartitionExists, StaleEpoch, TopicExists}
use Rattle.kr_defs.specs.declared.limits.TheConstants.{LAST_INDEX, MOST_BROKERS, MOST_CONFIG_TEXT, MOST_PARTITIONS, MOST_REPLICAS, MOST_TARGETS, MOST_TOPICS}
use Rattle.kr_defs.specs.declared.options.Options.{Options}
use Rattle.kr_defs.specs.declared.partition.Partition.{Partition}
use Rattle.kr_defs.specs.declared.partition.PartitionChange.{PartitionChange}
use Rattle.kr_defs.specs.declared.record.ConfigKey.{ConfigKey}
use Rattle.kr_defs.specs.declared.record.Record.{Record}
use Rattle.kr_defs.specs.declared.record.Record.TheVariants as kinds
use Rattle.kr_defs.specs.Apply.{apply_record, is_fencing, is_flag, topic_kind}
use Rattle.kr_defs.specs.Brokers.{active}
use Rattle.kr_defs.specs.Build.{built, is_sensible}
use Rattle.kr_defs.specs.BuiltLaws.{is_sensible_at_length}
use Rattle.kr_defs.specs.Ids.{are_apart, has, is_distinct, is_within, within}
use Rattle.kr_defs.specs.Image.{Image, IsValid, config_text, has_numbers, has_topic, is_index, is_small_registration, topic_name}
use Rattle.kr_defs.specs.Map as entries
use Rattle.kr_defs.specs.Map.{config_order, partition_order, text_order}
use Rattle.kr_defs.specs.Merge.{merged}
use Rattle.kr_defs.specs.NewPartition.{new_partition}
use Rattle.kr_defs.specs.Partition.{are_replicas, is_moving, is_natural, is_part, is_reassignment, is_recovery, is_well_formed, are_targets, original, target}
use Rattle.kr_defs.specs.Settings.{facts_of, is_broker_name, is_list_key, is_setting_key}
use Rattle.kr_defs.specs.Texts.{is_topic_name, names_agree}
use Rattle.kr_defs.specs.Topics.{count_of, is_named_once}
use Rattle.kr_defs.specs.Walk.{change_records, changes_of, walk}
use Rattle.kr_defs.proofs.Changes.{formed_parts, kept, none_runs, replicas_from, replicas_parts}
use Rattle.kr_defs.proofs.IdLists.{all_at, all_from, distinct_kept, all_kept, few_kept, id_itself, some_left}
use Rattle.kr_defs.proofs.NewPartitions.{defaults_sensible, long_lists, new_well_formed}
use Rattle.kr_defs.proofs.ReassignmentLists.{sensible_at_length}
use Rattle.kr_defs.proofs.Tests.{Gives, gives_done, gives_then, neither, not_false}
use Rattle.kr_defs.specs.Heartbeats.{Heartbeats}
use Rattle.kr_calls.specs.declared.alter_partition.PartitionReport.{PartitionReport}
use Rattle.kr_calls.specs.declared.broker_heartbeat.BrokerHeartbeat.{BrokerHeartbeat}
use Rattle.kr_calls.specs.declared.broker_registration.BrokerRegistration.{BrokerRegistration}
use Rattle.kr_calls.specs.declared.create_topics.CreatableTopic.{CreatableTopic}
use Rattle.kr_calls.specs.declared.create_topics.CreatableTopicConfig.{CreatableTopicConfig}
use Rattle.kr_calls.specs.declared.deciding.Draft.{Draft}
use Rattle.kr_calls.specs.declared.incremental_alter_configs.ConfigOperation.{ConfigOperation}
use Rattle.kr_calls.specs.declared.incremental_alter_configs.ConfigResource.{ConfigResource}
use Rattle.kr_calls.specs.declared.errors.TheConstants as errors
use Rattle.kr_calls.specs.AlterPartition as alter_partition
use Rattle.kr_calls.specs.AlterPartitionReassignments as alter_partition_reassignments
use Rattle.kr_calls.specs.BrokerHeartbeat as broker_heartbeat
use Rattle.kr_calls.specs.BrokerRegistration as broker_registration
use Rattle.kr_calls.specs.CreatePartitions as create_partitions
use Rattle.kr_calls.specs.CreateTopics as create_topics
use Rattle.kr_calls.specs.DeleteTopics as delete_topics
use Rattle.kr_calls.specs.Deciding.{apply_records}
use Rattle.kr_calls.specs.ElectLeaders as elect_leaders
use Rattle.kr_calls.specs.IncrementalAlterConfigs as incremental_alter_configs
use Rattle.kr_calls.specs.NewPartitions.{new_partitions}
use Rattle.kr_calls.specs.Refuse.{refused_incremental_alter_configs}
use Rattle.kr_calls.specs.TakingOut.{fencing, taken_out}
use Rattle.kr_calls.specs.UnregisterBroker as unregister_broker
use Rattle.kr_calls.proofs.TakingOutSteps.{taken_out_leaves, unregistering_stands}
use Rattle.kr_calls.proofs.WalkedChanges.{changes_stand, is_owned, walk_leaves, walk_stands}
use Rattle.law_safety.specs.RefusalLaws.{LimitsAloneRefuse, is_past_limit}
use Rattle.law_safety.proofs.NamedTopics.{named_back}
use Rattle.law_safety.proofs.NewReplicas.{IsNew, at_key, created_new, formed_at, grown_new, more_targets, natural_keys}
use Rattle.law_safety.proofs.NewTopics.{HasNoneFrom, inserted_stands, new_id_new, none_after, none_behind, none_owned}
use Rattle.law_safety.proofs.Refusals.{Breaks, BreaksBy, IsOwn, both_break, breaks_nowhere, by_found, by_if, by_refuse, by_then, change_breaks}
use Rattle.law_safety.proofs.SafeRecords.{WithPartitionsOf}
use Rattle.law_safety.proofs.SafeWalks.{electing_sound, relief_sound, setting_leaves, values_leave}

-- what has to hold of a draft
abbrev IsLimited : {A : Type 0} → ℤ → Image → Draft A → Type 0
IsLimited place image draft = Breaks place image draft.records

abbrev Limited : {A : Type 0} → ℤ → Image → Result (Draft A) ℤ → Type 0
Limited place image r = MatchResult r (IsLimited place image) IsOwn

natural : (n : ℕ) → is_natural (pos n) ≡ true
natural n = let e : nat_lt n 0 ≡ false = grind (arith, nat_tests) in ap not e

module _ (place : ℕ) (image : Image) where
  abbrev at : ℤ
  at = pos place

  -- why the record may be refused
  abbrev By : Record → Ill → Type 0
  By r cause = IsTrue (is_past_limit at image r cause)

  -- ---- new partitions

  partitions_break : (now : Image) (id first : ℕ) (lists : List (List ℤ)) → has_topic now.topics id ≡ true → HasNoneFrom now.partitions id first → AllByRecursion (IsNew image) lists → Breaks at now (new_partitions image id first lists)
  unfolding apply_record
  partitions_break now id first [] owned none new = tt
  partitions_break now id first (replicas ∷ lists) owned none new =
      let state = new_partition replicas (within replicas (active image)) in
      let r = kinds.Partition (pos first) id state in
      let P : Image → Type 0 = λ mid. Breaks at mid (new_partitions image id (suc first) lists) in
      let Q : Ill → Type 0 = λ cause. IsTrue (is_past_limit at now r cause) in
      let formed : is_well_formed state ≡ true = (new_well_formed replicas new.0.formed).active (active image) in
      let absent = none first (omega arith) in
      by_refuse P Q NoTopic (not (has_topic now.topics id)) _ (λ no. absurd cc) (λ _.
      by_refuse P Q BadNumber (not (is_index (pos first))) _ (λ bad. above first bad) (λ _.
      by_refuse P Q PartitionExists (entries.contains partition_order now.partitions (id, pos first)) _ (λ there. absurd cc) (λ _.
      by_refuse P Q BadPartition (not (is_well_formed state)) _ (λ bad. absurd cc) (λ _.
      by_refuse P Q Limit (nat_le MOST_PARTITIONS (length now.partitions)) _ (λ _. refl) (λ _.
      partitions_break (record now { partitions = entries.insert partition_order now.partitions (id, pos first) state }) id (suc first) lists owned (none_after now.partitions id first state none) new.1)))))
    where
      above : (n : ℕ) → not (is_index (pos n)) ≡ true → int_lt LAST_INDEX (pos n) ≡ true
      above n bad = by_test (is_natural (pos n)) (int_lt LAST_INDEX (pos n)) (natural n) bad
        where
          by_test : (a b : Bool) → a ≡ true → not (a && not b) ≡ true → b ≡ true
          by_test true true is bad = refl
          by_test true false is bad = absurd cc
          by_test false b is bad = absurd cc

  -- ---- settings

  setting_breaks : (now : Image) (kind : ℤ) (name key : List ℕ) (value : Option (List ℕ)) (rest : Image → Type 0) → ((after : Image) → rest after) → BreaksBy at now (kinds.Config kind name key value) rest (apply_record now (kinds.Config kind name key value))
  unfolding apply_record
  setting_breaks now kind name key None rest behind = behind _
  setting_breaks now kind name key (Some value) rest behind =
      let k : ConfigKey = record { kind = kind; name = name; key = key } in
      by_refuse rest (λ cause. IsTrue (is_past_limit at now (kinds.Config kind name key (Some value)) cause)) Limit (nat_lt MOST_CONFIG_TEXT (config_text (entries.insert config_order now.configs k value))) _ (λ _. refl) (λ _. behind _)

  settings_break : (now : Image) (configs : List (ConfigKey × List ℕ)) (topic : List ℕ) (settings : List CreatableTopicConfig) → Breaks at now (create_topics.settings_records configs topic settings)
  settings_break now configs topic [] = tt
  settings_break now configs topic (s ∷ settings) =
      let key : ConfigKey = record { kind = topic_kind; name = topic; key = s.name } in
      let value : List ℕ = unwrap_or s.value [] in
      let others : List Record = create_topics.settings_records (entries.insert config_order configs key value) topic settings in
      elim (option_map_or (bytes_eq value) (entries.get config_order configs key) false) as (λ b. Breaks at now (cond b (create_topics.settings_records configs topic settings) (kinds.Config topic_kind topic s.name (Some value) ∷ others))) [
        | true ↦ settings_break now configs topic settings
        | false ↦ setting_breaks now topic_kind topic s.name (Some value) (λ after. Breaks at after others) (λ after. settings_break after (entries.insert config_order configs key value) topic settings)
      ]

  settings_leave : (now : Image) (configs : List (ConfigKey × List ℕ)) (topic : List ℕ) (settings : List CreatableTopicConfig) → Gives (WithPartitionsOf now) (apply_records now (create_topics.settings_records configs topic settings))
  settings_leave now configs topic [] = gives_done (WithPartitionsOf now) now (record { topics = refl; partitions = refl })
  settings_leave now configs topic (s ∷ settings) =
      let key : ConfigKey = record { kind = topic_kind; name = topic; key = s.name } in
      let value : List ℕ = unwrap_or s.value [] in
      let others : List Record = create_topics.settings_records (entries.insert config_order configs key value) topic settings in
      elim (option_map_or (bytes_eq value) (entries.get config_order configs key) false) as (λ b. Gives (WithPartitionsOf now) (apply_records now (cond b (create_topics.settings_records configs topic settings) (kinds.Config topic_kind topic s.name (Some value) ∷ others)))) [
        | true ↦ settings_leave now configs topic settings
        | false ↦ gives_then (WithPartitionsOf now) (WithPartitionsOf now) (apply_record now (kinds.Config topic_kind topic s.name (Some value))) (λ after. apply_records after others) (setting_leaves now topic_kind topic s.name (Some value)) (λ mid same after is.
            let more = settings_leave mid (entries.insert config_order configs key value) topic settings after is in
            record { topics = more.topics ∙ same.topics; partitions = more.partitions ∙ same.partitions })
      ]

  values_break : (now : Image) (entry : ConfigResource) (values : incremental_alter_configs.Values) → Breaks at now (filter_map (incremental_alter_configs.config_record image entry) values)
  values_break now entry [] = tt
  values_break now entry (v ∷ values) =
      elim (incremental_alter_configs.is_same_value v.1 (entries.get config_order image.configs (incremental_alter_configs.key_of entry v.0))) as (λ b. Breaks at now (cons_option (cond b None (Some (kinds.Config entry.kind entry.name v.0 v.1))) (filter_map (incremental_alter_configs.config_record image entry) values))) [
        | true ↦ values_break now entry values
        | false ↦ setting_breaks now entry.kind entry.name v.0 v.1 (λ after. Breaks at after (filter_map (incremental_alter_configs.config_record image entry) values)) (λ after. values_break after entry values)
      ]

  operation_own : (entry : ConfigResource) (values : incremental_alter_configs.Values) (o : ConfigOperation) → MatchResult (incremental_alter_configs.after_operation image entry values o) (λ _. Unit {0}) IsOwn
  operation_own entry values o =
      let P : incremental_alter_configs.Values → Type 0 = λ _. Unit {0} in
      by_refuse P IsOwn errors.INVALID_REQUEST (incremental_alter_configs.is_bad_operation o) _ (λ _. refl) (λ _. by_refuse P IsOwn errors.INVALID_CONFIG (not (is_setting_key o.name)) _ (λ _. refl) (λ _. by_refuse P IsOwn errors.INVALID_CONFIG (incremental_alter_configs.is_of_parts o && not (is_list_key o.name)) _ (λ _. refl) (λ _.
      by_refuse P IsOwn errors.INVALID_CONFIG (not (incremental_alter_configs.may_result o.name (incremental_alter_configs.operated o (incremental_alter_configs.value_now image entry values o.name)))) _ (λ _. refl) (λ _. tt))))

  operations_own : (entry : ConfigResource) (values : incremental_alter_configs.Values) (operations : List ConfigOperation) → MatchResult (incremental_alter_configs.after_operations image entry values operations) (λ _. Unit {0}) IsOwn
  operations_own entry values [] = tt
  operations_own entry values (o ∷ operations) =
      by_then (λ _. Unit {0}) IsOwn (λ _. Unit {0}) (incremental_alter_configs.after_operation image entry values o) (λ after. incremental_alter_configs.after_operations image entry after operations) (operation_own entry values o) (λ after _. operations_own entry after operations)

  module _ (valid : IsValid image) where
    -- ---- topics

    topic_breaks : (name : List ℕ) (id : ℕ) (rest : List Record) → is_topic_name name ≡ true → entries.contains text_order image.topics name ≡ false → has_topic image.topics id ≡ false → (id == 0) ≡ false → Breaks at (record image { topics = entries.insert text_order image.topics name id }) rest → Breaks at image (kinds.Topic name id ∷ rest)
    unfolding apply_record
    topic_breaks name id rest named new free some behind =
        let P : Image → Type 0 = λ mid. Breaks at mid rest in
        let Q = By (kinds.Topic name id) in
        by_refuse P Q BadName (not (is_topic_name name)) _ (λ bad. absurd cc) (λ _.
        by_refuse P Q TopicExists (entries.contains text_order image.topics name || has_topic image.topics id || id == 0) _ (λ there. let none : (entries.contains text_order image.topics name || has_topic image.topics id || id == 0) ≡ false = rw (new, free, some) refl in absurd cc) (λ _.
        by_refuse P Q Limit (nat_le MOST_TOPICS (length image.topics)) _ (λ _. refl) (λ _. behind)))

    created_breaks : (options : Options) (validate_only : Bool) (entry : CreatableTopic) (layout : create_topics.Layout) → is_topic_name entry.name ≡ true → entries.contains text_order image.topics entry.name ≡ false → AllByRecursion (IsNew image) layout.replicas → IsLimited at image (create_topics.created image validate_only (create_topics.new_id options image at) entry layout)
    created_breaks options validate_only entry layout named new lists =
        let id = create_topics.new_id options image at in
        let ids = new_id_new options image at in
        let settings = create_topics.settings_records image.configs entry.name entry.configs in
        let after : Image = record image { topics = entries.insert text_order image.topics entry.name id } in
        topic_breaks entry.name id (settings ++ new_partitions image id 0 layout.replicas) named new ids.free ids.some
        (both_break at after settings (new_partitions image id 0 layout.replicas) (settings_break after image.configs entry.name entry.configs) (λ mid is.
        let same = settings_leave after image.configs entry.name entry.configs mid is in
        partitions_break mid id 0 layout.replicas (subst (λ ts. has_topic ts id ≡ true) (sym same.topics) (inserted_stands image.topics entry.name id))
        (subst (λ ps. HasNoneFrom ps id 0) (sym same.partitions) (none_owned image.topics image.partitions id (recursion_from_All (λ e. has_topic image.topics e.0.0 ≡ true) image.partitions valid.partitions.owned) ids.free)) lists))

    creates : (options : Options) (validate_only : Bool) (entry : CreatableTopic) → Limited at image (create_topics.rule options validate_only image at entry)
    creates options validate_only entry =
        let P = IsLimited at image in
        by_refuse P IsOwn errors.INVALID_TOPIC_EXCEPTION (not (is_topic_name entry.name)) _ (λ _. refl) (λ named. by_refuse P IsOwn errors.TOPIC_ALREADY_EXISTS (entries.contains text_order image.topics entry.name) _ (λ _. refl) (λ new. by_refuse P IsOwn errors.INVALID_TOPIC_EXCEPTION (list_any (λ topic. names_agree topic.0 entry.name) image.topics) _ (λ _. refl) (λ _.
        by_then P IsOwn (λ (layout : create_topics.Layout). AllByRecursion (IsNew image) layout.replicas) (create_topics.layout options image at entry) (create_topics.of_layout options validate_only image at entry) (created_new image valid options at entry) (λ layout lists.
        by_refuse P IsOwn errors.INVALID_CONFIG (list_any create_topics.is_bad_setting entry.configs) _ (λ _. refl) (λ _. created_breaks options validate_only entry layout (not_false (is_topic_name entry.name) named) new lists)))))

    removal_breaks : (name : List ℕ) (id : ℕ) → topic_name image.topics id ≡ Some name → IsLimited at image (delete_topics.deleted name id)
    unfolding apply_record
    removal_breaks name id named = rw named tt

    deletes_named : (name : Option (List ℕ)) (id : ℕ) → Limited at image (delete_topics.by_name_or_id image name id)
    deletes_named (Some name) id = by_found (IsLimited at image) IsOwn errors.UNKNOWN_TOPIC_OR_PARTITION (entries.get text_order image.topics name) _ (λ _. refl) (λ there is. removal_breaks name there (named_back image.topics valid.topics name there is))
    deletes_named None id = by_found (IsLimited at image) IsOwn errors.UNKNOWN_TOPIC_ID (topic_name image.topics id) _ (λ _. refl) (λ name is. removal_breaks name id is)

    deletes : (entry : _) → Limited at image (delete_topics.rule image at entry)
    deletes entry = by_refuse (IsLimited at image) IsOwn errors.INVALID_REQUEST (not (is_named_once entry.name entry.topic)) _ (λ _. refl) (λ _. deletes_named entry.name entry.topic)

    has_named : (name : List ℕ) (id : ℕ) → topic_name image.topics id ≡ Some name → has_topic image.topics id ≡ true
    has_named name id named = is_owned image.topics id name named

    grows : (entry : _) → Limited at image (create_partitions.rule image at entry)
    grows entry =
        let P = IsLimited at image in
        by_found P IsOwn errors.UNKNOWN_TOPIC_OR_PARTITION (entries.get text_order image.topics entry.name) _ (λ _. refl) (λ id is. let first = count_of image id in
        by_refuse P IsOwn errors.INVALID_PARTITIONS (int_le entry.count (pos first)) _ (λ _. refl) (λ _. by_found P IsOwn errors.INVALID_REPLICA_ASSIGNMENT (entries.get partition_order image.partitions (id, pos 0)) _ (λ _. refl) (λ p there.
        by_then P IsOwn (AllByRecursion (IsNew image)) (create_partitions.new_replicas image at first (unsigned_abs entry.count - first) (length (target p)) entry.assignments) _ (grown_new image valid at first (unsigned_abs entry.count - first) p entry.assignments (formed_at image valid (id, pos 0) p there)) (λ lists new.
        partitions_break image id first lists (has_named entry.name id (named_back image.topics valid.topics entry.name id is)) (none_behind image id) new))))

    -- ---- partitions

    -- what is asked is sensible
    sensible_breaks : (name : List ℕ) (key : ℕ × ℤ) (p : Partition) (want : Want) (facts : Facts) → topic_name image.topics key.0 ≡ Some name → entries.get partition_order image.partitions key ≡ Some p → is_sensible want ≡ true → Breaks at image (change_records key.0 key.1 (built p want facts))
    sensible_breaks name key p want facts named there sensible =
        change_breaks at image name key p (built p want facts) named there
        (IfSome_then (built p want facts) {P = λ change. IsTrue (is_well_formed (merged p change))} (kept p want facts (formed_at image valid key p there) sensible) (λ change well. inr well))

    drafted_breaks : (broker : ℤ) (entry : alter_partition.Entry) (p : Partition) (o : Option PartitionChange) → Breaks at image (change_records entry.0 entry.1.index o) → IsLimited at image (alter_partition.drafted broker entry p o)
    drafted_breaks broker entry p None breaks = breaks
    drafted_breaks broker entry p (Some change) breaks = breaks

    reported_sensible : (broker : ℤ) (p : Partition) (report : PartitionReport) → is_well_formed p ≡ true → alter_partition.is_bad broker p report ≡ false → is_sensible (alter_partition.wanted p report) ≡ true
    reported_sensible broker p report formed good =
        let own = and_parts (are_replicas p.replicas && is_reassignment p.replicas p.adding p.removing) (is_recovery p.recovery) (defaults_sensible p formed) in
        let recovery = (neither (not (int_eq p.leader broker) || alter_partition.are_bad_members p (alter_partition.members report)) (alter_partition.is_bad_recovery p report) good).1 in
        and_from (are_replicas p.replicas && is_reassignment p.replicas p.adding p.removing) (is_recovery report.recovery) own.0 (not_false (is_recovery report.recovery) (neither (not (is_recovery report.recovery)) _ recovery).0)

    reports : (options : Options) (broker : ℤ) (entry : alter_partition.Entry) → Limited at image (alter_partition.rule options broker image at entry)
    unfolding alter_partition.of_partition alter_partition.accepted
    reports options broker entry =
        let P = IsLimited at image in
        by_found P IsOwn errors.UNKNOWN_TOPIC_ID (topic_name image.topics entry.0) _ (λ _. refl) (λ name named. by_found P IsOwn errors.UNKNOWN_TOPIC_OR_PARTITION (entries.get partition_order image.partitions (entry.0, entry.1.index)) _ (λ _. refl) (λ p there.
        by_refuse P IsOwn errors.FENCED_LEADER_EPOCH (int_lt entry.1.leader_epoch p.leader_epoch) _ (λ _. refl) (λ _. by_refuse P IsOwn errors.UNKNOWN_LEADER_EPOCH (int_lt p.leader_epoch entry.1.leader_epoch) _ (λ _. refl) (λ _. by_refuse P IsOwn errors.INVALID_UPDATE_VERSION (not (int_eq entry.1.partition_epoch p.partition_epoch)) _ (λ _. refl) (λ _. by_refuse P IsOwn errors.INVALID_REQUEST (alter_partition.is_bad broker p entry.1) _ (λ _. refl) (λ good. by_refuse P IsOwn errors.INELIGIBLE_REPLICA (not (list_all (alter_partition.is_ready image) entry.1.in_sync)) _ (λ _. refl) (λ _.
        drafted_breaks broker entry p (built p (alter_partition.wanted p entry.1) (facts_of options image name))
        (sensible_breaks name (entry.0, entry.1.index) p (alter_partition.wanted p entry.1) (facts_of options image name) named there (reported_sensible broker p entry.1 (formed_at image valid (entry.0, entry.1.index) p there) good)))))))))

    elects : (options : Options) (kind : ℤ) (entry : elect_leaders.Entry) → Limited at image (elect_leaders.rule options kind image at entry)
    elects options kind entry =
        let P = IsLimited at image in
        by_found P IsOwn errors.UNKNOWN_TOPIC_OR_PARTITION (entries.get text_order image.topics entry.0) _ (λ _. refl) (λ id is. by_found P IsOwn errors.UNKNOWN_TOPIC_OR_PARTITION (entries.get partition_order image.partitions (id, entry.1)) _ (λ _. refl) (λ p there.
        let named = named_back image.topics valid.topics entry.0 id is in
        let change = λ (mode : Mode). sensible_breaks entry.0 (id, entry.1) p (elect_leaders.in_mode p mode) (facts_of options image entry.0) named there (defaults_sensible p (formed_at image valid (id, entry.1) p there)) in
        by_if P IsOwn (elect_leaders.is_preferred_kind kind) (elect_leaders.prefers options image entry id p) (elect_leaders.elects_any options image entry id p)
        (λ _. by_refuse P IsOwn errors.ELECTION_NOT_NEEDED (int_eq p.leader (elect_leaders.first_replica p)) _ (λ _. refl) (λ _. by_refuse P IsOwn errors.PREFERRED_LEADER_NOT_AVAILABLE (not (has p.in_sync (elect_leaders.first_replica p) && has (active image) (elect_leaders.first_replica p))) _ (λ _. refl) (λ _. change modes.Preferred)))
        (λ _. by_refuse P IsOwn errors.ELECTION_NOT_NEEDED (not (int_eq p.leader (negsuc 0))) _ (λ _. refl) (λ _. by_refuse P IsOwn errors.ELIGIBLE_LEADERS_NOT_AVAILABLE (elect_leaders.finds_nobody options image entry p) _ (λ _. refl) (λ _. change modes.Unclean)))))

    -- ---- reassignments

    original_stands : (p : Partition) → is_well_formed p ≡ true → are_replicas (original p) ≡ true
    original_stands p formed =
        let f = formed_parts p formed in
        let first = and_parts (is_part p.adding p.replicas && is_part p.removing p.replicas && are_apart p.adding p.removing && not (is_within p.replicas p.adding)) (not (is_within p.replicas p.removing)) f.reassignment in
        let second = and_parts (is_part p.adding p.replicas && is_part p.removing p.replicas && are_apart p.adding p.removing) (not (is_within p.replicas p.adding)) first.0 in
        let test = λ (id : ℤ). not (has p.adding id) in
        replicas_from (original p) (record {
          some = some_left p.replicas p.adding second.1;
          few = few_kept test p.replicas MOST_REPLICAS f.replicas.few;
          distinct = distinct_kept test p.replicas f.replicas.distinct;
          natural = all_kept test is_natural p.replicas f.replicas.natural;
        })

    abbrev IsSensibleAtLength : Want → Type 0
    IsSensibleAtLength want = is_sensible_at_length want ≡ true

    backward_sensible : (p : Partition) → is_well_formed p ≡ true → IsSensibleAtLength (alter_partition_reassignments.leading_back p)
    backward_sensible p formed =
        let ids = original p in
        let r = replicas_parts ids (original_stands p formed) in
        and_from (nat_lt 0 (length ids) && is_distinct ids && list_all is_natural ids && is_reassignment ids [] []) (is_recovery p.recovery)
        (and_from (nat_lt 0 (length ids) && is_distinct ids && list_all is_natural ids) (is_reassignment ids [] [])
        (and_from (nat_lt 0 (length ids) && is_distinct ids) (list_all is_natural ids) (and_from (nat_lt 0 (length ids)) (is_distinct ids) r.some r.distinct) r.natural)
        (none_runs ids r.some))
        (formed_parts p formed).recovers

    target_stands : (ids : List ℤ) → alter_partition_reassignments.is_target image ids ≡ true → are_replicas ids ≡ true
    target_stands ids are =
        let a = and_parts (are_targets ids) (list_all (entries.contains int_cmp image.brokers) ids) are in
        let b = and_parts (nat_lt 0 (length ids) && nat_le (length ids) MOST_TARGETS) (is_distinct ids) a.0 in
        let c = and_parts (nat_lt 0 (length ids)) (nat_le (length ids) MOST_TARGETS) b.0 in
        replicas_from ids (record {
          some = c.0;
          few = more_targets (length ids) c.1;
          distinct = b.1;
          natural = all_from is_natural ids (λ id there. at_key is_natural image.brokers id (natural_keys image valid) (all_at (entries.contains int_cmp image.brokers) ids id a.1 there));
        })

    wants_sensible : (p : Partition) (o : Option (List ℤ)) → is_well_formed p ≡ true → MatchResult (alter_partition_reassignments.wanted image p o) IsSensibleAtLength IsOwn
    wants_sensible p None formed = by_refuse IsSensibleAtLength IsOwn errors.NO_REASSIGNMENT_IN_PROGRESS (not (is_moving p)) _ (λ _. refl) (λ _. backward_sensible p formed)
    wants_sensible p (Some ids) formed =
        by_refuse IsSensibleAtLength IsOwn errors.INVALID_REPLICA_ASSIGNMENT (not (alter_partition_reassignments.is_target image ids)) _ (λ _. refl) (λ fits.
        and_from _ (is_recovery p.recovery) (sensible_at_length ids (original p) (target_stands ids (not_false (alter_partition_reassignments.is_target image ids) fits)) (original_stands p formed)) (formed_parts p formed).recovers)

    reassigns : (options : Options) (entry : alter_partition_reassignments.Entry) → Limited at image (alter_partition_reassignments.rule options image at entry)
    reassigns options entry =
        let P = IsLimited at image in
        by_found P IsOwn errors.UNKNOWN_TOPIC_OR_PARTITION (entries.get text_order image.topics entry.0) _ (λ _. refl) (λ id is. by_found P IsOwn errors.UNKNOWN_TOPIC_OR_PARTITION (entries.get partition_order image.partitions (id, entry.1.index)) _ (λ _. refl) (λ p there.
        let formed = formed_at image valid (id, entry.1.index) p there in
        by_then P IsOwn IsSensibleAtLength (alter_partition_reassignments.wanted image p entry.1.replicas) _ (wants_sensible p entry.1.replicas formed) (λ want sensible. by_refuse P IsOwn errors.INVALID_REPLICA_ASSIGNMENT (alter_partition_reassignments.loses_all image entry.0 p want) _ (λ _. refl) (λ _.
        change_breaks at image entry.0 (id, entry.1.index) p (built p want (facts_of options image entry.0)) (named_back image.topics valid.topics entry.0 id is) there (long_lists p want (facts_of options image entry.0) formed sensible)))))

    -- ---- settings, and whom they relieve

    relieved_breaks : (options : Options) (next mid : Image) → WithPartitionsOf image mid → Breaks at mid (changes_of (incremental_alter_configs.relief options image next) (walk image))
    relieved_breaks options next mid same =
        let change = incremental_alter_configs.relief options image next in
        let left = changes_stand change mid (walk image) (rw (same.topics, same.partitions) (walk_stands change image (relief_sound None image options next) valid)) in
        breaks_nowhere at mid _ (changes_of change (walk image)) left.1

    configures : (options : Options) (entry : ConfigResource) → Limited at image (incremental_alter_configs.rule options image at entry)
    configures options entry =
        let P = IsLimited at image in
        by_refuse P IsOwn errors.INVALID_REQUEST (not (incremental_alter_configs.is_topic_kind entry || incremental_alter_configs.is_broker_kind entry)) _ (λ _. refl) (λ _. by_refuse P IsOwn errors.UNKNOWN_TOPIC_OR_PARTITION (incremental_alter_configs.is_topic_kind entry && not (entries.contains text_order image.topics entry.name)) _ (λ _. refl) (λ _. by_refuse P IsOwn errors.INVALID_REQUEST (incremental_alter_configs.is_broker_kind entry && not (is_broker_name entry.name)) _ (λ _. refl) (λ _.
        by_then P IsOwn (λ _. Unit {0}) (incremental_alter_configs.after_operations image entry [] entry.configs) (λ (values : incremental_alter_configs.Values). Ok (record { records = incremental_alter_configs.resource_records options image entry values; answer = refused_incremental_alter_configs (pos 0) entry })) (operations_own entry [] entry.configs) (λ values _.
        let next : Image = record image { configs = incremental_alter_configs.with_values image.configs entry values } in
        both_break at image (filter_map (incremental_alter_configs.config_record image entry) values) (changes_of (incremental_alter_configs.relief options image next) (walk image)) (values_break image entry values)
        (λ mid is. relieved_breaks options next mid (values_leave image entry values image mid is))))))

    -- ---- brokers

    unregisters : (options : Options) (q : _) → Limited at image (unregister_broker.rule options image at q)
    unregisters options q =
        by_found (IsLimited at image) IsOwn errors.BROKER_ID_NOT_REGISTERED (entries.get int_cmp image.brokers q.broker) _ (λ _. refl) (λ old there.
        let leaves = unregistering_stands options image at q (record { records = kinds.UnregisterBroker q.broker old.epoch ∷ taken_out options.minimum image q.broker true; answer = record { error = pos 0 } }) valid (rw there refl) in
        breaks_nowhere at image _ (kinds.UnregisterBroker q.broker old.epoch ∷ taken_out options.minimum image q.broker true) leaves.1)

    earlier_breaks : (minimum : ℤ) (q : BrokerRegistration) (brokers : List (ℤ × Broker)) (old : Option Broker) → Breaks at (record image { brokers = brokers }) (broker_registration.earlier_taken_out minimum image q old)
    earlier_breaks minimum q brokers None = tt
    earlier_breaks minimum q brokers (Some old) =
        let left = taken_out_leaves minimum image brokers q.broker (not (int_eq q.previous_epoch old.epoch)) valid in
        breaks_nowhere at (record image { brokers = brokers }) _ (taken_out minimum image q.broker (not (int_eq q.previous_epoch old.epoch))) left.1

    registered_breaks : (options : Options) (q : BrokerRegistration) → int_lt q.broker (pos 0) ≡ false → IsLimited at image (broker_registration.registered options image at q)
    unfolding apply_record
    registered_breaks options q low =
        let state = broker_registration.registration q at in
        let rest = broker_registration.earlier_taken_out options.minimum image q (entries.get int_cmp image.brokers q.broker) in
        let P : Image → Type 0 = λ mid. Breaks at mid rest in
        let Q = By (kinds.RegisterBroker q.broker state) in
        let numbers : has_numbers q.broker state ≡ true = and_from (is_natural q.broker) (is_natural at) (ap not low) (natural place) in
        by_refuse P Q BadNumber (not (has_numbers q.broker state)) _ (λ bad. absurd cc) (λ _.
        by_refuse P Q StaleEpoch (option_map_or (λ (old : Broker). int_lt at old.epoch) (entries.get int_cmp image.brokers q.broker) false) _ (λ stale. stale) (λ _.
        by_refuse P Q Limit (entries.is_full int_cmp MOST_BROKERS image.brokers q.broker || not (is_small_registration state)) _ (λ _. refl) (λ _.
        earlier_breaks options.minimum q (entries.insert int_cmp image.brokers q.broker state) (entries.get int_cmp image.brokers q.broker))))

    registers : (options : Options) (time : ℤ) (heard : Heartbeats) (q : BrokerRegistration) → Limited at image (broker_registration.rule options time heard image at q)
    registers options time heard q =
        let P = IsLimited at image in
        by_refuse P IsOwn errors.INCONSISTENT_CLUSTER_ID (not (bytes_eq q.cluster options.cluster)) _ (λ _. refl) (λ _. by_refuse P IsOwn errors.INVALID_REQUEST (int_lt q.broker (pos 0) || q.migrating || length q.listeners == 0) _ (λ _. refl) (λ good. by_refuse P IsOwn errors.DUPLICATE_BROKER_REGISTRATION (broker_registration.is_taken options time heard image q) _ (λ _. refl) (λ _.
        registered_breaks options q (neither (int_lt q.broker (pos 0)) q.migrating (neither (int_lt q.broker (pos 0) || q.migrating) (length q.listeners == 0) good).0).0)))

    -- a change of the registration, and changes of partitions behind it
    change_then : (broker epoch fenced stopping : ℤ) (state : Broker) (rest : List Record) → entries.get int_cmp image.brokers broker ≡ Some state → int_eq epoch state.epoch ≡ true → (is_fencing fenced && is_flag stopping) ≡ true
        → ((brokers : List (ℤ × Broker)) → Breaks at (record image { brokers = brokers }) rest) → Breaks at image (kinds.BrokerRegistrationChange broker epoch fenced stopping ∷ rest)
    unfolding apply_record
    change_then broker epoch fenced stopping state rest there same flags behind = rw (there, same, flags) (behind _)

    module _ (minimum : ℤ) (heard : Heartbeats) (q : BrokerHeartbeat) (state : Broker) (there : entries.get int_cmp image.brokers q.broker ≡ Some state) (same : int_eq q.epoch state.epoch ≡ true) where
      abbrev IsLimitedStep : broker_heartbeat.Step → Type 0
      IsLimitedStep step = Breaks at image step.records

      either : (test : Bool) (x y : broker_heartbeat.Step) → IsLimitedStep x → IsLimitedStep y → IsLimitedStep (cond test x y)
      either true x y first then = first
      either false x y first then = then

      out_breaks : (brokers : List (ℤ × Broker)) → Breaks at (record image { brokers = brokers }) (taken_out minimum image q.broker false)
      out_breaks brokers = breaks_nowhere at (record image { brokers = brokers }) _ (taken_out minimum image q.broker false) (taken_out_leaves minimum image brokers q.broker false valid).1

      fencing_breaks : Breaks at image (fencing minimum image q.broker q.epoch)
      fencing_breaks = change_then q.broker q.epoch (pos 1) (pos 0) state (taken_out minimum image q.broker false) there same refl out_breaks

      stopping_breaks : Breaks at image (broker_heartbeat.stopping_records minimum image q.broker q.epoch)
      stopping_breaks = change_then q.broker q.epoch (pos 0) (pos 1) state (taken_out minimum image q.broker false) there same refl out_breaks

      unfencing_breaks : Breaks at image (broker_heartbeat.unfencing minimum image q.broker state)
      unfencing_breaks =
          let change = broker_heartbeat.electing minimum image q.broker state in
          change_then q.broker state.epoch (negsuc 0) (pos 0) state (changes_of change (walk image)) there (id_itself state.epoch) refl (λ brokers.
          breaks_nowhere at (record image { brokers = brokers }) _ (changes_of change (walk image)) (walk_leaves change image brokers (electing_sound None image minimum q.broker state) valid).1)

      step_breaks : IsLimitedStep (broker_heartbeat.step minimum heard image q state)
      unfolding broker_heartbeat.step
      step_breaks =
          either state.fenced _ _
          (either (q.want_shutdown || state.stopping) _ _ tt (either (q.want_fence || broker_heartbeat.is_behind q) _ _ tt unfencing_breaks))
          (either state.stopping _ _
          (either (broker_heartbeat.is_passed_on heard image q.broker) _ _ fencing_breaks tt)
          (either q.want_fence _ _ fencing_breaks
          (either (q.want_shutdown && not (broker_heartbeat.leads image q.broker)) _ _ fencing_breaks
          (either q.want_shutdown _ _ stopping_breaks tt))))

    beats : (options : Options) (heard : Heartbeats) (q : BrokerHeartbeat) → Limited at image (broker_heartbeat.rule options heard image at q)
    beats options heard q =
        let P = IsLimited at image in
        by_found P IsOwn errors.STALE_BROKER_EPOCH (entries.get int_cmp image.brokers q.broker) _ (λ _. refl) (λ state there. by_refuse P IsOwn errors.STALE_BROKER_EPOCH (not (int_eq q.epoch state.epoch)) _ (λ _. refl) (λ same.
        step_breaks options.minimum heard q state there (not_false (int_eq q.epoch state.epoch) same)))

pub limits_alone_refuse : LimitsAloneRefuse
limits_alone_refuse = record {
  registrations = λ options time heard image place entry valid. registers place image valid options time heard entry;
  heartbeats = λ options heard image place entry valid. beats place image valid options heard entry;
  unregistrations = λ options image place entry valid. unregisters place image valid options entry;
  new_topics = λ options validate_only image place entry valid. creates place image valid options validate_only entry;
  removed_topics = λ image place entry valid. deletes place image valid entry;
  new_partitions = λ image place entry valid. grows place image valid entry;
  reports = λ options broker image place entry valid. reports place image valid options broker entry;
  elections = λ options kind image place entry valid. elects place image valid options kind entry;
  reassignments = λ options image place entry valid. reassigns place image valid options entry;
  settings = λ options image place entry valid. configures place image valid options entry;
}
