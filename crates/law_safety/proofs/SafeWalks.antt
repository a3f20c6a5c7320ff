-- The changes of a walk are safe, behind a record about a broker or settings of one resource.
use Rattle.std.proofs.Common.{◌≡◌, ◌∙◌, ℤ, ℕ, Bool, true, false, cond, List, [], ◌∷◌, refl, sym, ap, subst, not, inl}
use Rattle.std.specs.Prelude.{Option, Some, None, ◌&&◌, ◌||◌, pos, negsuc, nat_lt, int_lt}
use Rattle.std.specs.List.{list_all, cons_option, filter_map}
use Rattle.std.specs.Option.{option_map_or}
use Rattle.std.specs.Ordering.{int_cmp, int_eq}
use Rattle.kr_defs.specs.declared.broker.Broker.{Broker}
use Rattle.kr_defs.specs.declared.changing.Want.{Want}
use Rattle.kr_defs.specs.declared.ill.Ill.TheVariants.{BadNumber, StaleEpoch, NoBroker, Limit}
use Rattle.kr_defs.specs.declared.limits.TheConstants.{MOST_BROKERS, MOST_CONFIG_TEXT}
use Rattle.kr_defs.specs.declared.options.Options.{Options}
use Rattle.kr_defs.specs.declared.partition.PartitionChange.{PartitionChange}
use Rattle.kr_defs.specs.declared.record.ConfigKey.{ConfigKey}
use Rattle.kr_defs.specs.declared.record.Record.{Record}
use Rattle.kr_defs.specs.declared.record.Record.TheVariants as kinds
use Rattle.kr_defs.specs.Apply as apply
use Rattle.kr_defs.specs.Apply.{apply_record}
use Rattle.kr_defs.specs.Brokers.{active, active_of}
use Rattle.kr_defs.specs.Build.{built}
use Rattle.kr_defs.specs.DefaultWant.{default_want}
use Rattle.kr_defs.specs.Ids.{has, without}
use Rattle.kr_defs.specs.Image.{Image, IsValid, config_text, has_numbers, is_small_registration}
use Rattle.kr_defs.specs.Map as entries
use Rattle.kr_defs.specs.Map.{config_order}
use Rattle.kr_defs.specs.Merge.{merged}
use Rattle.kr_defs.specs.NewPartition.{emptying}
use Rattle.kr_defs.specs.Partition.{is_well_formed}
use Rattle.kr_defs.specs.Settings.{facts_with, is_unclean}
use Rattle.kr_defs.specs.Walk.{Walked, changes_of, walk}
use Rattle.kr_defs.proofs.IdLists.{has_before}
use Rattle.kr_defs.proofs.NewPartitions.{defaults_sensible, emptying_keeps}
use Rattle.kr_defs.proofs.Tests.{Gives, gives_refuse, gives_found, gives_done, gives_then}
use Rattle.kr_calls.specs.declared.incremental_alter_configs.ConfigResource.{ConfigResource}
use Rattle.kr_calls.specs.BrokerHeartbeat as broker_heartbeat
use Rattle.kr_calls.specs.Deciding.{apply_records}
use Rattle.kr_calls.specs.IncrementalAlterConfigs as incremental_alter_configs
use Rattle.kr_calls.specs.SafeChange.{Exchange, is_safe}
use Rattle.kr_calls.specs.TakingOut.{taking_out, taken_out, without_broker, is_held, fencing}
use Rattle.kr_calls.proofs.TakingOutSteps.{built_sound, taking_sound}
use Rattle.kr_calls.proofs.WalkedChanges.{IsSound}
use Rattle.law_safety.specs.SafeChangeLaws.{AreSafe}
use Rattle.law_safety.proofs.CarefulChanges.{built_safe, emptying_safe}
use Rattle.law_safety.proofs.SafeRecords.{if_ok, is_calm, IsSafeWalk, WithPartitionsOf, walk_safe}

-- ---- what some records leave

-- all but the brokers
abbrev pub WithBrokersOf : Image → Image → Type 0
WithBrokersOf image after = after ≡ record image { brokers = after.brokers }

registration_leaves : (image : Image) (id : ℤ) (state : Broker) → Gives (WithBrokersOf image) (apply.register_broker image id state)
registration_leaves image id state = gives_refuse (WithBrokersOf image) BadNumber (not (has_numbers id state)) _ (λ _. gives_refuse (WithBrokersOf image) StaleEpoch (option_map_or (λ (old : Broker). int_lt state.epoch old.epoch) (entries.get int_cmp image.brokers id) false) _ (λ _. gives_refuse (WithBrokersOf image) Limit (entries.is_full int_cmp MOST_BROKERS image.brokers id || not (is_small_registration state)) _ (λ _. gives_done (WithBrokersOf image) _ refl)))

removal_leaves : (image : Image) (id epoch : ℤ) → Gives (WithBrokersOf image) (apply.unregister_broker image id epoch)
removal_leaves image id epoch = gives_found (WithBrokersOf image) NoBroker (entries.get int_cmp image.brokers id) _ (λ old _. gives_refuse (WithBrokersOf image) StaleEpoch (not (int_eq epoch old.epoch)) _ (λ _. gives_done (WithBrokersOf image) _ refl))

change_leaves : (image : Image) (id epoch fenced stopping : ℤ) → Gives (WithBrokersOf image) (apply.change_broker_registration image id epoch fenced stopping)
change_leaves image id epoch fenced stopping = gives_found (WithBrokersOf image) NoBroker (entries.get int_cmp image.brokers id) _ (λ old _. gives_refuse (WithBrokersOf image) StaleEpoch (not (int_eq epoch old.epoch)) _ (λ _. gives_refuse (WithBrokersOf image) BadNumber (not (apply.is_fencing fenced && apply.is_flag stopping)) _ (λ _. gives_done (WithBrokersOf image) _ refl)))

module _ (exchange : Option Exchange) (image : Image) where
  -- behind a record that leaves all but the brokers
  behind_broker : (change : Walked → Option PartitionChange) → IsSound change → IsValid image → IsSafeWalk exchange image.configs change → (after : Image) → WithBrokersOf image after → AreSafe exchange after (changes_of change (walk image))
  behind_broker change sound valid safe after same =
      walk_safe exchange change image after sound valid (record { topics = ap (λ i. i.topics) same; partitions = ap (λ i. i.partitions) same })
      (subst (λ (configs : List (ConfigKey × List ℕ)). IsSafeWalk exchange configs change) (sym (ap (λ i. i.configs) same)) safe)

  pub registered_safe : (rest : List Record) (broker : ℤ) (state : Broker) → ((after : Image) → WithBrokersOf image after → AreSafe exchange after rest) → AreSafe exchange image (kinds.RegisterBroker broker state ∷ rest)
  unfolding apply_record
  registered_safe rest broker state safe = (tt, if_ok (λ after. AreSafe exchange after rest) _ (λ after is. safe after (registration_leaves image broker state after is)))

  pub unregistered_safe : (rest : List Record) (broker epoch : ℤ) → ((after : Image) → WithBrokersOf image after → AreSafe exchange after rest) → AreSafe exchange image (kinds.UnregisterBroker broker epoch ∷ rest)
  unfolding apply_record
  unregistered_safe rest broker epoch safe = (tt, if_ok (λ after. AreSafe exchange after rest) _ (λ after is. safe after (removal_leaves image broker epoch after is)))

  pub changed_safe : (rest : List Record) (broker epoch fenced stopping : ℤ) → ((after : Image) → WithBrokersOf image after → AreSafe exchange after rest) → AreSafe exchange image (kinds.BrokerRegistrationChange broker epoch fenced stopping ∷ rest)
  unfolding apply_record
  changed_safe rest broker epoch fenced stopping safe = (tt, if_ok (λ after. AreSafe exchange after rest) _ (λ after is. safe after (change_leaves image broker epoch fenced stopping after is)))

  -- ---- what the walks change

  given : (test : Bool) (o : Option PartitionChange) (c : PartitionChange) → cond test o None ≡ Some c → o ≡ Some c
  given true o c is = is
  given false o c is = absurd cc

  same_switch : (at : Image) (name : List ℕ) → at.configs ≡ image.configs → is_unclean image name ≡ is_unclean at name
  same_switch at name same = ap (λ (configs : List (ConfigKey × List ℕ)). is_unclean (record image { configs = configs }) name) (sym same)

  -- from the partition's own lists, with members of those in sync
  own_safe : (at : Image) (w : Walked) (want : Want) (minimum : ℤ) (ids : List ℤ) (c : PartitionChange) → at.configs ≡ image.configs → want ≡ record (default_want w.partition) { in_sync = want.in_sync; restarted = want.restarted } → ((id : ℤ) → has want.in_sync id ≡ true → has w.partition.in_sync id ≡ true) → built w.partition want (facts_with minimum image ids w.topic) ≡ Some c → is_safe at exchange w.topic w.key w.partition c ≡ true
  own_safe at w want minimum ids c same own were is =
      built_safe exchange at w.topic w.key w.partition want (facts_with minimum image ids w.topic) (record {
        unclean = same_switch at w.topic same;
        mode = rw own (λ asked. absurd cc);
        in_sync = λ id there. inl (were id there);
        lists = inl (record { replicas = ap (λ x. x.replicas) own; adding = ap (λ x. x.adding) own; removing = ap (λ x. x.removing) own });
      }) c is

  taking_safe : (minimum broker : ℤ) (restarted : Bool) → IsSafeWalk exchange image.configs (taking_out minimum image broker restarted)
  taking_safe minimum broker restarted at w c same is =
      own_safe at w (without_broker w.partition broker restarted) minimum (without (active image) (broker ∷ [])) c same refl (λ id. has_before (λ x. not (has (broker ∷ []) x)) w.partition.in_sync id)
      (given (is_held w.partition broker restarted) (built w.partition (without_broker w.partition broker restarted) (facts_with minimum image (without (active image) (broker ∷ [])) w.topic)) c is)

  pub taken_out_safe : (minimum broker : ℤ) (restarted : Bool) → IsValid image → (after : Image) → WithBrokersOf image after → AreSafe exchange after (taken_out minimum image broker restarted)
  taken_out_safe minimum broker restarted valid = behind_broker (taking_out minimum image broker restarted) (taking_sound minimum image broker restarted) valid (taking_safe minimum broker restarted)

  pub fencing_safe : (minimum broker epoch : ℤ) → IsValid image → AreSafe exchange image (fencing minimum image broker epoch)
  fencing_safe minimum broker epoch valid = changed_safe (taken_out minimum image broker false) broker epoch (pos 1) (pos 0) (taken_out_safe minimum broker false valid)

  -- where a broker is unfenced
  module _ (minimum broker : ℤ) (state : Broker) where
    abbrev ids : List ℤ
    ids = active_of (broker_heartbeat.unfenced_brokers image broker state)

    pub electing_sound : IsSound (broker_heartbeat.electing minimum image broker state)
    electing_sound w formed c is = built_sound w.partition (default_want w.partition) (facts_with minimum image ids w.topic) (broker_heartbeat.waits_for broker w.partition) c formed (defaults_sensible w.partition formed) is

    electing_safe : IsSafeWalk exchange image.configs (broker_heartbeat.electing minimum image broker state)
    electing_safe at w c same is =
        own_safe at w (default_want w.partition) minimum ids c same refl (λ id there. there)
        (given (broker_heartbeat.waits_for broker w.partition) (built w.partition (default_want w.partition) (facts_with minimum image ids w.topic)) c is)

    pub unfencing_safe : IsValid image → AreSafe exchange image (broker_heartbeat.unfencing minimum image broker state)
    unfencing_safe valid = changed_safe (changes_of (broker_heartbeat.electing minimum image broker state) (walk image)) broker state.epoch (negsuc 0) (pos 0) (behind_broker (broker_heartbeat.electing minimum image broker state) electing_sound valid electing_safe)

  -- ---- settings of one resource, and the lists that they empty

  module _ (options : Options) (next : Image) where
    emptied : (w : Walked) (c : PartitionChange) → incremental_alter_configs.relief options image next w ≡ Some c → emptying w.partition ≡ c
    emptied w c is = elim (incremental_alter_configs.is_relieved options image next w) as (λ b. cond b (Some (emptying w.partition)) None ≡ Some c → emptying w.partition ≡ c) [
      | true ↦ λ is. Rattle.kr_defs.proofs.Tests.some_is (emptying w.partition) c is
      | false ↦ λ is. absurd cc
    ] is

    pub relief_sound : IsSound (incremental_alter_configs.relief options image next)
    relief_sound w formed c is = subst (λ (change : PartitionChange). is_well_formed (merged w.partition change) ≡ true) (emptied w c is) ((emptying_keeps w.partition).well_formed formed)

    relief_safe : (configs : List (ConfigKey × List ℕ)) → IsSafeWalk exchange configs (incremental_alter_configs.relief options image next)
    relief_safe configs at w c same is = subst (λ (change : PartitionChange). is_safe at exchange w.topic w.key w.partition change ≡ true) (emptied w c is) (emptying_safe exchange at w.topic w.key w.partition)

    pub relieved_safe : IsValid image → (after : Image) → WithPartitionsOf image after → AreSafe exchange after (changes_of (incremental_alter_configs.relief options image next) (walk image))
    relieved_safe valid after same = walk_safe exchange (incremental_alter_configs.relief options image next) image after relief_sound valid same (relief_safe after.configs)

-- ---- settings of one resource leave the partitions

pub setting_leaves : (at : Image) (kind : ℤ) (name key : List ℕ) (value : Option (List ℕ)) → Gives (WithPartitionsOf at) (apply_record at (kinds.Config kind name key value))
unfolding apply_record
setting_leaves at kind name key None = gives_done (WithPartitionsOf at) _ (record { topics = refl; partitions = refl })
setting_leaves at kind name key (Some value) = gives_refuse (WithPartitionsOf at) Limit (let k : ConfigKey = record { kind = kind; name = name; key = key } in nat_lt MOST_CONFIG_TEXT (config_text (entries.insert config_order at.configs k value))) _ (λ _. gives_done (WithPartitionsOf at) _ (record { topics = refl; partitions = refl }))

module _ (image : Image) (entry : ConfigResource) where
  pub values_calm : (values : incremental_alter_configs.Values) → list_all is_calm (filter_map (incremental_alter_configs.config_record image entry) values) ≡ true
  values_calm [] = refl
  values_calm (v ∷ values) =
      elim (incremental_alter_configs.is_same_value v.1 (entries.get config_order image.configs (incremental_alter_configs.key_of entry v.0))) as (λ b. list_all is_calm (cons_option (cond b None (Some (kinds.Config entry.kind entry.name v.0 v.1))) (filter_map (incremental_alter_configs.config_record image entry) values)) ≡ true) [
        | true ↦ values_calm values
        | false ↦ values_calm values
      ]

  pub values_leave : (values : incremental_alter_configs.Values) (at : Image) → Gives (WithPartitionsOf at) (apply_records at (filter_map (incremental_alter_configs.config_record image entry) values))
  values_leave [] at = gives_done (WithPartitionsOf at) at (record { topics = refl; partitions = refl })
  values_leave (v ∷ values) at =
      elim (incremental_alter_configs.is_same_value v.1 (entries.get config_order image.configs (incremental_alter_configs.key_of entry v.0))) as (λ b. Gives (WithPartitionsOf at) (apply_records at (cons_option (cond b None (Some (kinds.Config entry.kind entry.name v.0 v.1))) (filter_map (incremental_alter_configs.config_record image entry) values)))) [
        | true ↦ values_leave values at
        | false ↦ gives_then (WithPartitionsOf at) (WithPartitionsOf at) (apply_record at (kinds.Config entry.kind entry.name v.0 v.1)) (λ after. apply_records after (filter_map (incremental_alter_configs.config_record image entry) values)) (setting_leaves at entry.kind entry.name v.0 v.1) (λ mid same after is.
            let more = values_leave values mid after is in
            record { topics = more.topics ∙ same.topics; partitions = more.partitions ∙ same.partitions })
      ]
