-- What each rule gives is safe on a valid image.
use Rattle.std.proofs.Common.{◌≡◌, ℤ, ℕ, Bool, true, false, cond, List, [], ◌∷◌, ◌++◌, refl, ap, subst, not, inl, inr}
use Rattle.std.specs.Prelude.{Option, Some, None, Ok, ◌&&◌, ◌||◌, ◌==◌, ◌-◌, pos, negsuc, int_lt, int_le, bytes_eq, unwrap_or, length, unsigned_abs, filter_map, zip}
use Rattle.std.specs.List.{AllByRecursion, list_all, list_any}
use Rattle.std.specs.Option.{option_map_or}
use Rattle.std.specs.Ordering.{int_cmp, int_eq}
use Rattle.std.proofs.lemmas.Bool.{and_from, or_cases}
use Rattle.kr_defs.specs.declared.broker.Broker.{Broker}
use Rattle.kr_defs.specs.declared.changing.Mode.TheVariants as modes
use Rattle.kr_defs.specs.declared.changing.Want.{Want}
use Rattle.kr_defs.specs.declared.options.Options.{Options}
use Rattle.kr_defs.specs.declared.partition.Partition.{Partition}
use Rattle.kr_defs.specs.declared.partition.PartitionChange.{PartitionChange}
use Rattle.kr_defs.specs.declared.record.ConfigKey.{ConfigKey}
use Rattle.kr_defs.specs.declared.record.Record.TheVariants as kinds
use Rattle.kr_defs.specs.Brokers.{active}
use Rattle.kr_defs.specs.Build.{built}
use Rattle.kr_defs.specs.Ids.{has}
use Rattle.kr_defs.specs.Heartbeats.{Heartbeats}
use Rattle.kr_defs.specs.Image.{Image, IsValid, topic_name}
use Rattle.kr_defs.specs.Map as entries
use Rattle.kr_defs.specs.Map.{config_order, partition_order, text_order}
use Rattle.kr_defs.specs.Merge.{merged}
use Rattle.kr_defs.specs.Partition.{target}
use Rattle.kr_defs.specs.Settings.{facts_of, is_broker_name}
use Rattle.kr_defs.specs.Texts.{is_topic_name, names_agree}
use Rattle.kr_defs.specs.Topics.{count_of}
use Rattle.kr_defs.specs.Walk.{changes_of, change_records, walk}
use Rattle.kr_defs.proofs.IdLists.{id_itself}
use Rattle.kr_defs.proofs.Tests.{Gives, gives_refuse, gives_found, gives_done, gives_if, gives_then}
use Rattle.kr_calls.specs.declared.broker_heartbeat.BrokerHeartbeat.{BrokerHeartbeat}
use Rattle.kr_calls.specs.declared.broker_registration.BrokerRegistration.{BrokerRegistration}
use Rattle.kr_calls.specs.declared.unregister_broker.UnregisterBroker.{UnregisterBroker}
use Rattle.kr_calls.specs.declared.calls.Reply.{Reply}
use Rattle.kr_calls.specs.declared.calls.Reply.TheVariants as replies
use Rattle.kr_calls.specs.declared.calls.Request.TheVariants as requests
use Rattle.kr_calls.specs.declared.deciding.Draft.{Draft}
use Rattle.kr_calls.specs.declared.alter_partition.AlterPartition.{AlterPartition}
use Rattle.kr_calls.specs.declared.alter_partition.AlterPartitionReply.{AlterPartitionReply}
use Rattle.kr_calls.specs.declared.alter_partition.AlterPartitionResult.{AlterPartitionResult}
use Rattle.kr_calls.specs.declared.alter_partition.AlterPartitionTopic.{AlterPartitionTopic}
use Rattle.kr_calls.specs.declared.alter_partition.AlterPartitionTopicResult.{AlterPartitionTopicResult}
use Rattle.kr_calls.specs.declared.alter_partition_reassignments.AlterPartitionReassignments.{AlterPartitionReassignments}
use Rattle.kr_calls.specs.declared.alter_partition_reassignments.AlterPartitionReassignmentsReply.{AlterPartitionReassignmentsReply}
use Rattle.kr_calls.specs.declared.elect_leaders.ElectLeaders.{ElectLeaders}
use Rattle.kr_calls.specs.declared.alter_partition.PartitionReport.{PartitionReport}
use Rattle.kr_calls.specs.declared.alter_partition_reassignments.ReassignablePartition.{ReassignablePartition}
use Rattle.kr_calls.specs.declared.alter_partition_reassignments.ReassignablePartitionResponse.{ReassignablePartitionResponse}
use Rattle.kr_calls.specs.declared.alter_partition_reassignments.ReassignableTopic.{ReassignableTopic}
use Rattle.kr_calls.specs.declared.alter_partition_reassignments.ReassignableTopicResponse.{ReassignableTopicResponse}
use Rattle.kr_calls.specs.declared.create_topics.CreatableTopicConfig.{CreatableTopicConfig}
use Rattle.kr_calls.specs.declared.errors.TheConstants.{BROKER_ID_NOT_REGISTERED, DUPLICATE_BROKER_REGISTRATION, ELECTION_NOT_NEEDED, ELIGIBLE_LEADERS_NOT_AVAILABLE, FENCED_LEADER_EPOCH, INCONSISTENT_CLUSTER_ID, INELIGIBLE_REPLICA, INVALID_CONFIG, INVALID_PARTITIONS, INVALID_REPLICA_ASSIGNMENT, INVALID_REQUEST, INVALID_TOPIC_EXCEPTION, INVALID_UPDATE_VERSION, NEW_LEADER_ELECTED, NO_REASSIGNMENT_IN_PROGRESS, PREFERRED_LEADER_NOT_AVAILABLE, STALE_BROKER_EPOCH, TOPIC_ALREADY_EXISTS, UNKNOWN_LEADER_EPOCH, UNKNOWN_TOPIC_ID, UNKNOWN_TOPIC_OR_PARTITION}
use Rattle.kr_calls.specs.AlterPartition as alter_partition
use Rattle.kr_calls.specs.AlterPartitionReassignments as alter_partition_reassignments
use Rattle.kr_calls.specs.BrokerHeartbeat as broker_heartbeat
use Rattle.kr_calls.specs.BrokerRegistration as broker_registration
use Rattle.kr_calls.specs.CreatePartitions as create_partitions
use Rattle.kr_calls.specs.CreateTopics as create_topics
use Rattle.kr_calls.specs.DeleteTopics as delete_topics
use Rattle.kr_calls.specs.ElectLeaders as elect_leaders
use Rattle.kr_calls.specs.IncrementalAlterConfigs as incremental_alter_configs
use Rattle.kr_calls.specs.NewPartitions.{new_partitions}
use Rattle.kr_calls.specs.Refuse.{refused_incremental_alter_configs}
use Rattle.kr_calls.specs.SafeChange.{Exchange, is_reassigned, is_report_with, is_report_taken}
use Rattle.kr_calls.specs.TakingOut.{taken_out}
use Rattle.kr_calls.specs.UnregisterBroker as unregister_broker
use Rattle.law_safety.specs.SafeChangeLaws.{AreSafe}
use Rattle.law_safety.proofs.CarefulChanges.{change_safe}
use Rattle.law_safety.proofs.NamedTopics.{named_back}
use Rattle.law_safety.proofs.NewReplicas.{IsNew, created_new, formed_at, grown_new}
use Rattle.law_safety.proofs.Refusals.{IsOwn, gives_from}
use Rattle.law_safety.proofs.SafeRecords.{both_safe, if_ok, is_calm, all_calm_safe, partitions_safe}
use Rattle.law_safety.proofs.SafeWalks.{registered_safe, unregistered_safe, changed_safe, taken_out_safe, fencing_safe, unfencing_safe, values_calm, values_leave, relieved_safe}

abbrev pub IsSafeDraft : {A : Type 0} → Option Exchange → Image → Draft A → Type 0
IsSafeDraft exchange image draft = AreSafe exchange image draft.records

-- ---- topics

settings_calm : (configs : List (ConfigKey × List ℕ)) (topic : List ℕ) (settings : List CreatableTopicConfig) → list_all is_calm (create_topics.settings_records configs topic settings) ≡ true
settings_calm configs topic [] = refl
settings_calm configs topic (setting ∷ settings) =
    let key : ConfigKey = record { kind = pos 2; name = topic; key = setting.name } in
    let value : List ℕ = unwrap_or setting.value [] in
    let next = create_topics.settings_records (entries.insert config_order configs key value) topic settings in
    elim (option_map_or (bytes_eq value) (entries.get config_order configs key) false) as (λ b. list_all is_calm (cond b (create_topics.settings_records configs topic settings) (kinds.Config (pos 2) topic setting.name (Some value) ∷ next)) ≡ true) [
      | true ↦ settings_calm configs topic settings
      | false ↦ settings_calm (entries.insert config_order configs key value) topic settings
    ]

module _ (exchange : Option Exchange) (image : Image) where
  abbrev P : {A : Type 0} → Draft A → Type 0
  P = IsSafeDraft exchange image

  created_safe : (validate_only : Bool) (id : ℕ) (entry : Rattle.kr_calls.specs.declared.create_topics.CreatableTopic.CreatableTopic) (layout : create_topics.Layout) → AllByRecursion (IsNew image) layout.replicas → P (create_topics.created image validate_only id entry layout)
  created_safe validate_only id entry layout new =
      let settings = create_topics.settings_records image.configs entry.name entry.configs in
      let partitions = new_partitions image id 0 layout.replicas in (
        tt,
        if_ok (λ after. AreSafe exchange after (settings ++ partitions)) _ (λ after is.
            both_safe exchange after settings partitions (all_calm_safe exchange after settings (settings_calm image.configs entry.name entry.configs)) (λ mid is. partitions_safe exchange mid image id 0 layout.replicas new)),
      )

  pub creates : IsValid image → (options : Options) (validate_only : Bool) (place : ℤ) (entry : _) → Gives P (create_topics.rule options validate_only image place entry)
  creates valid options validate_only place entry =
      gives_refuse P INVALID_TOPIC_EXCEPTION (not (is_topic_name entry.name)) _ (λ _. gives_refuse P TOPIC_ALREADY_EXISTS (entries.contains text_order image.topics entry.name) _ (λ _. gives_refuse P INVALID_TOPIC_EXCEPTION (list_any (λ topic. names_agree topic.0 entry.name) image.topics) _ (λ _.
      gives_then (λ (layout : create_topics.Layout). AllByRecursion (IsNew image) layout.replicas) P (create_topics.layout options image place entry) (create_topics.of_layout options validate_only image place entry) (gives_from (λ (layout : create_topics.Layout). AllByRecursion (IsNew image) layout.replicas) IsOwn (create_topics.layout options image place entry) (created_new image valid options place entry)) (λ layout new.
      gives_refuse P INVALID_CONFIG (list_any create_topics.is_bad_setting entry.configs) _ (λ _. gives_done P (create_topics.created image validate_only (create_topics.new_id options image place) entry layout)
      (created_safe validate_only (create_topics.new_id options image place) entry layout new))))))

  removal_safe : (name : List ℕ) (id : ℕ) → P (delete_topics.deleted name id)
  removal_safe name id = (tt, if_ok (λ after. AreSafe exchange after []) _ (λ after is. tt))

  deletes_named : (name : Option (List ℕ)) (id : ℕ) → Gives P (delete_topics.by_name_or_id image name id)
  deletes_named (Some name) id = gives_found P UNKNOWN_TOPIC_OR_PARTITION (entries.get text_order image.topics name) _ (λ there _. gives_done P _ (removal_safe name there))
  deletes_named None id = gives_found P UNKNOWN_TOPIC_ID (topic_name image.topics id) _ (λ there _. gives_done P _ (removal_safe there id))

  pub deletes : (place : ℤ) (entry : _) → Gives P (delete_topics.rule image place entry)
  deletes place entry = gives_refuse P INVALID_REQUEST (not (Rattle.kr_defs.specs.Topics.is_named_once entry.name entry.topic)) _ (λ _. deletes_named entry.name entry.topic)

  pub grows : IsValid image → (place : ℤ) (entry : _) → Gives P (create_partitions.rule image place entry)
  grows valid place entry =
      gives_found P UNKNOWN_TOPIC_OR_PARTITION (entries.get text_order image.topics entry.name) _ (λ id _. let first = count_of image id in
      gives_refuse P INVALID_PARTITIONS (int_le entry.count (pos first)) _ (λ _. gives_found P INVALID_REPLICA_ASSIGNMENT (entries.get partition_order image.partitions (id, pos 0)) _ (λ p there.
      gives_then (AllByRecursion (IsNew image)) P (create_partitions.new_replicas image place first (unsigned_abs entry.count - first) (length (target p)) entry.assignments) _ (gives_from (AllByRecursion (IsNew image)) IsOwn _ (grown_new image valid place first (unsigned_abs entry.count - first) p entry.assignments (formed_at image valid (id, pos 0) p there))) (λ lists new. gives_done P (create_partitions.grown image id first entry lists) (partitions_safe exchange image image id first lists new)))))

  -- ---- settings

  pub configures : IsValid image → (options : Options) (place : ℤ) (entry : _) → Gives P (incremental_alter_configs.rule options image place entry)
  configures valid options place entry =
      gives_refuse P INVALID_REQUEST (not (incremental_alter_configs.is_topic_kind entry || incremental_alter_configs.is_broker_kind entry)) _ (λ _. gives_refuse P UNKNOWN_TOPIC_OR_PARTITION (incremental_alter_configs.is_topic_kind entry && not (entries.contains text_order image.topics entry.name)) _ (λ _. gives_refuse P INVALID_REQUEST (incremental_alter_configs.is_broker_kind entry && not (is_broker_name entry.name)) _ (λ _.
      gives_then (λ _. Unit {0}) P (incremental_alter_configs.after_operations image entry [] entry.configs) (λ (values : incremental_alter_configs.Values). Ok (record { records = incremental_alter_configs.resource_records options image entry values; answer = refused_incremental_alter_configs (pos 0) entry })) (λ _ _. tt) (λ values _.
      let next : Image = record image { configs = incremental_alter_configs.with_values image.configs entry values } in
      let settings = filter_map (incremental_alter_configs.config_record image entry) values in
      let relieved = changes_of (incremental_alter_configs.relief options image next) (walk image) in
      gives_done P (record { records = incremental_alter_configs.resource_records options image entry values; answer = refused_incremental_alter_configs (pos 0) entry })
      (both_safe exchange image settings relieved (all_calm_safe exchange image settings (values_calm image entry values)) (λ mid is. relieved_safe exchange image options next valid mid (values_leave image entry values image mid is)))))))

  -- ---- brokers

  pub unregisters : IsValid image → (options : Options) (place : ℤ) (q : UnregisterBroker) → Gives P (unregister_broker.rule options image place q)
  unregisters valid options place q =
      gives_found P BROKER_ID_NOT_REGISTERED (entries.get int_cmp image.brokers q.broker) _ (λ old _. gives_done P _ (unregistered_safe exchange image (taken_out options.minimum image q.broker true) q.broker old.epoch (taken_out_safe exchange image options.minimum q.broker true valid)))

  earlier_safe : IsValid image → (minimum : ℤ) (q : BrokerRegistration) (old : Option Broker) (after : Image) → Rattle.law_safety.proofs.SafeWalks.WithBrokersOf image after → AreSafe exchange after (broker_registration.earlier_taken_out minimum image q old)
  earlier_safe valid minimum q None after same = tt
  earlier_safe valid minimum q (Some old) after same = taken_out_safe exchange image minimum q.broker (not (int_eq q.previous_epoch old.epoch)) valid after same

  pub registers : IsValid image → (options : Options) (time : ℤ) (heartbeats : Heartbeats) (place : ℤ) (q : BrokerRegistration) → Gives P (broker_registration.rule options time heartbeats image place q)
  registers valid options time heartbeats place q =
      gives_refuse P INCONSISTENT_CLUSTER_ID (not (bytes_eq q.cluster options.cluster)) _ (λ _. gives_refuse P INVALID_REQUEST (int_lt q.broker (pos 0) || q.migrating || length q.listeners == 0) _ (λ _. gives_refuse P DUPLICATE_BROKER_REGISTRATION (broker_registration.is_taken options time heartbeats image q) _ (λ _. gives_done P (broker_registration.registered options image place q)
      (registered_safe exchange image (broker_registration.earlier_taken_out options.minimum image q (entries.get int_cmp image.brokers q.broker)) q.broker (broker_registration.registration q place) (earlier_safe valid options.minimum q (entries.get int_cmp image.brokers q.broker))))))

  -- what becomes of a broker
  abbrev IsSafeStep : broker_heartbeat.Step → Type 0
  IsSafeStep step = AreSafe exchange image step.records

  either : (test : Bool) (x y : broker_heartbeat.Step) → IsSafeStep x → IsSafeStep y → IsSafeStep (cond test x y)
  either true x y first then = first
  either false x y first then = then

  module _ (valid : IsValid image) (minimum : ℤ) (heartbeats : Heartbeats) (q : BrokerHeartbeat) (state : Broker) where
    fenced_safe : IsSafeStep (broker_heartbeat.of_fenced minimum image q state)
    fenced_safe = either (q.want_shutdown || state.stopping) _ _ tt (either (q.want_fence || broker_heartbeat.is_behind q) _ _ tt (unfencing_safe exchange image minimum q.broker state valid))

    stopping_safe : IsSafeStep (broker_heartbeat.of_stopping minimum heartbeats image q)
    stopping_safe = either (broker_heartbeat.is_passed_on heartbeats image q.broker) _ _ (fencing_safe exchange image minimum q.broker q.epoch valid) tt

    active_safe : IsSafeStep (broker_heartbeat.of_active minimum image q)
    active_safe =
        either q.want_fence _ _ (fencing_safe exchange image minimum q.broker q.epoch valid)
        (either (q.want_shutdown && not (broker_heartbeat.leads image q.broker)) _ _ (fencing_safe exchange image minimum q.broker q.epoch valid)
        (either q.want_shutdown _ _ (changed_safe exchange image (taken_out minimum image q.broker false) q.broker q.epoch (pos 0) (pos 1) (taken_out_safe exchange image minimum q.broker false valid)) tt))

    step_safe : IsSafeStep (broker_heartbeat.step minimum heartbeats image q state)
    unfolding broker_heartbeat.step
    step_safe = either state.fenced _ _ fenced_safe (either state.stopping _ _ stopping_safe active_safe)

  pub beats : IsValid image → (options : Options) (heartbeats : Heartbeats) (place : ℤ) (q : BrokerHeartbeat) → Gives P (broker_heartbeat.rule options heartbeats image place q)
  beats valid options heartbeats place q =
      gives_found P STALE_BROKER_EPOCH (entries.get int_cmp image.brokers q.broker) _ (λ state _. gives_refuse P STALE_BROKER_EPOCH (not (int_eq q.epoch state.epoch)) _ (λ _. gives_done P (broker_heartbeat.told q (broker_heartbeat.step options.minimum heartbeats image q state)) (step_safe valid options.minimum heartbeats q state)))

-- ---- partitions that are named, each with its answer

-- a report and its answer stand in one place
abbrev pub IsReportOf : List (AlterPartitionTopic × AlterPartitionTopicResult) → alter_partition.Entry → AlterPartitionResult → Type 0
IsReportOf topics entry answer =
    (test : PartitionReport × AlterPartitionResult → Bool) → test (entry.1, answer) ≡ true →
    list_any (λ t. t.0.topic == entry.0 && list_any test (zip t.0.partitions t.1.partitions)) topics ≡ true

abbrev pub IsMoveOf : List (ReassignableTopic × ReassignableTopicResponse) → alter_partition_reassignments.Entry → ReassignablePartitionResponse → Type 0
IsMoveOf topics entry answer =
    (test : ReassignablePartition × ReassignablePartitionResponse → Bool) → test (entry.1, answer) ≡ true →
    list_any (λ t. bytes_eq t.0.name entry.0 && list_any test (zip t.0.partitions t.1.partitions)) topics ≡ true

drafted_change : (broker : ℤ) (entry : alter_partition.Entry) (p : Partition) (o : Option PartitionChange) → change_records entry.0 entry.1.index o ≡ (alter_partition.drafted broker entry p o).records
drafted_change broker entry p None = refl
drafted_change broker entry p (Some change) = refl

taken_result : (broker : ℤ) (entry : alter_partition.Entry) (p : Partition) → is_report_taken (alter_partition.partition_result broker entry p) ≡ true
taken_result broker entry p = elim (int_eq p.leader broker) as (λ b. is_report_taken (cond b (record { index = entry.1.index; error = pos 0; leader = p.leader; leader_epoch = p.leader_epoch; in_sync = p.in_sync; recovery = p.recovery; partition_epoch = p.partition_epoch }) (alter_partition.refused NEW_LEADER_ELECTED entry)) ≡ true) [
  | true ↦ refl
  | false ↦ refl
]

taken_draft : (broker : ℤ) (entry : alter_partition.Entry) (p : Partition) (o : Option PartitionChange) → is_report_taken (alter_partition.drafted broker entry p o).answer ≡ true
taken_draft broker entry p None = taken_result broker entry p
taken_draft broker entry p (Some change) = taken_result broker entry (merged p change)

module _ (image : Image) where
  pub reports : (options : Options) (q : AlterPartition) (r : AlterPartitionReply) → alter_partition.is_stale image q ≡ false → (place : ℤ) (entry : alter_partition.Entry) → Gives (λ draft. IsReportOf (zip q.topics r.topics) entry draft.answer → IsSafeDraft (Some (requests.AlterPartition q, replies.AlterPartition r)) image draft) (alter_partition.rule options q.broker image place entry)
  unfolding alter_partition.of_partition alter_partition.accepted
  reports options q r fresh place entry =
      let exchange : Option Exchange = Some (requests.AlterPartition q, replies.AlterPartition r) in
      let P : Draft AlterPartitionResult → Type 0 = λ draft. IsReportOf (zip q.topics r.topics) entry draft.answer → IsSafeDraft exchange image draft in
      gives_found P UNKNOWN_TOPIC_ID (topic_name image.topics entry.0) _ (λ name named. gives_found P UNKNOWN_TOPIC_OR_PARTITION (entries.get partition_order image.partitions (entry.0, entry.1.index)) _ (λ p there.
      gives_refuse P FENCED_LEADER_EPOCH (int_lt entry.1.leader_epoch p.leader_epoch) _ (λ a. gives_refuse P UNKNOWN_LEADER_EPOCH (int_lt p.leader_epoch entry.1.leader_epoch) _ (λ b. gives_refuse P INVALID_UPDATE_VERSION (not (int_eq entry.1.partition_epoch p.partition_epoch)) _ (λ c. gives_refuse P INVALID_REQUEST (alter_partition.is_bad q.broker p entry.1) _ (λ d. gives_refuse P INELIGIBLE_REPLICA (not (list_all (alter_partition.is_ready image) entry.1.in_sync)) _ (λ e.
      let change = built p (alter_partition.wanted p entry.1) (facts_of options image name) in
      gives_done P (alter_partition.drafted q.broker entry p change) (λ is. subst (AreSafe exchange image) (drafted_change q.broker entry p change)
      (change_safe exchange image name (entry.0, entry.1.index) p (alter_partition.wanted p entry.1) (facts_of options image name) named there (record {
        unclean = refl;
        mode = λ asked. absurd cc;
        in_sync = λ id has_it. inr (and_from (not (alter_partition.is_stale image q)) _ (ap not fresh) (is (is_report_with q.broker image entry.1.index p id) (rw (id_itself entry.1.index, taken_draft q.broker entry p change, a, b, c, d, e, has_it) refl)));
        lists = inl (record { replicas = refl; adding = refl; removing = refl });
      }))))))))))

  module _ (valid : IsValid image) (options : Options) where
    elects_one : (q : ElectLeaders) (reply : Reply) → elect_leaders.is_kind q.kind ≡ true → (entry : elect_leaders.Entry) (id : ℕ) (p : Partition) → topic_name image.topics id ≡ Some entry.0 → entries.get partition_order image.partitions (id, entry.1) ≡ Some p → Gives (IsSafeDraft (Some (requests.ElectLeaders q, reply)) image) (elect_leaders.of_partition options q.kind image entry id p)
    elects_one q reply kind entry id p named there =
        let exchange : Option Exchange = Some (requests.ElectLeaders q, reply) in
        let P = IsSafeDraft exchange image in
        let safe = λ (want : Want). change_safe exchange image entry.0 (id, entry.1) p want (facts_of options image entry.0) named there in
        gives_if P (elect_leaders.is_preferred_kind q.kind) (elect_leaders.prefers options image entry id p) (elect_leaders.elects_any options image entry id p)
        (λ _. gives_refuse P ELECTION_NOT_NEEDED (int_eq p.leader (elect_leaders.first_replica p)) _ (λ _. gives_refuse P PREFERRED_LEADER_NOT_AVAILABLE (not (has p.in_sync (elect_leaders.first_replica p) && has (active image) (elect_leaders.first_replica p))) _ (λ _. gives_done P _ (safe (elect_leaders.in_mode p modes.Preferred) (record {
          unclean = refl;
          mode = λ asked. absurd cc;
          in_sync = λ id there. inl there;
          lists = inl (record { replicas = refl; adding = refl; removing = refl });
        })))))
        (λ other. gives_refuse P ELECTION_NOT_NEEDED (not (int_eq p.leader (negsuc 0))) _ (λ _. gives_refuse P ELIGIBLE_LEADERS_NOT_AVAILABLE (elect_leaders.finds_nobody options image entry p) _ (λ _. gives_done P _ (safe (elect_leaders.in_mode p modes.Unclean) (record {
          unclean = refl;
          mode = λ asked. elim (or_cases (elect_leaders.is_preferred_kind q.kind) (int_eq q.kind (pos 1)) kind) [ inl k ↦ absurd cc | inr k ↦ k ];
          in_sync = λ id there. inl there;
          lists = inl (record { replicas = refl; adding = refl; removing = refl });
        })))))

    pub elects : (q : ElectLeaders) (reply : Reply) → elect_leaders.is_kind q.kind ≡ true → (place : ℤ) (entry : elect_leaders.Entry) → Gives (IsSafeDraft (Some (requests.ElectLeaders q, reply)) image) (elect_leaders.rule options q.kind image place entry)
    elects q reply kind place entry =
        let P = IsSafeDraft (Some (requests.ElectLeaders q, reply)) image in
        gives_found P UNKNOWN_TOPIC_OR_PARTITION (entries.get text_order image.topics entry.0) _ (λ id named. gives_found P UNKNOWN_TOPIC_OR_PARTITION (entries.get partition_order image.partitions (id, entry.1)) _ (λ p there.
        elects_one q reply kind entry id p (named_back image.topics valid.topics entry.0 id named) there))

    -- who is in sync stays so, and no election is unclean
    abbrev IsKept : Partition → Want → Type 0
    IsKept p want = (want.in_sync ≡ p.in_sync) × (want.mode ≡ modes.Plain)

    wants_kept : (p : Partition) (o : Option (List ℤ)) → Gives (IsKept p) (alter_partition_reassignments.wanted image p o)
    wants_kept p None = gives_refuse (IsKept p) NO_REASSIGNMENT_IN_PROGRESS (not (Rattle.kr_defs.specs.Partition.is_moving p)) _ (λ _. gives_done (IsKept p) _ (refl, refl))
    wants_kept p (Some target) = gives_refuse (IsKept p) INVALID_REPLICA_ASSIGNMENT (not (alter_partition_reassignments.is_target image target)) _ (λ _. gives_done (IsKept p) _ (refl, refl))

    pub reassigns : (q : AlterPartitionReassignments) (r : AlterPartitionReassignmentsReply) (place : ℤ) (entry : alter_partition_reassignments.Entry) → Gives (λ draft. IsMoveOf (zip q.topics r.responses) entry draft.answer → IsSafeDraft (Some (requests.AlterPartitionReassignments q, replies.AlterPartitionReassignments r)) image draft) (alter_partition_reassignments.rule options image place entry)
    reassigns q r place entry =
        let exchange : Option Exchange = Some (requests.AlterPartitionReassignments q, replies.AlterPartitionReassignments r) in
        let P : Draft ReassignablePartitionResponse → Type 0 = λ draft. IsMoveOf (zip q.topics r.responses) entry draft.answer → IsSafeDraft exchange image draft in
        gives_found P UNKNOWN_TOPIC_OR_PARTITION (entries.get text_order image.topics entry.0) _ (λ id named. gives_found P UNKNOWN_TOPIC_OR_PARTITION (entries.get partition_order image.partitions (id, entry.1.index)) _ (λ p there.
        gives_then (IsKept p) P (alter_partition_reassignments.wanted image p entry.1.replicas) _ (wants_kept p entry.1.replicas) (λ want kept. gives_refuse P INVALID_REPLICA_ASSIGNMENT (alter_partition_reassignments.loses_all image entry.0 p want) _ (λ _. gives_done P _ (λ is.
        change_safe exchange image entry.0 (id, entry.1.index) p want (facts_of options image entry.0) (named_back image.topics valid.topics entry.0 id named) there (record {
          unclean = refl;
          mode = rw kept.1 (λ asked. absurd cc);
          in_sync = λ id there. inl (rw kept.0 at there);
          lists = inr (is (is_reassigned entry.1.index) (and_from (int_eq entry.1.index entry.1.index) true (id_itself entry.1.index) refl));
        }))))))
