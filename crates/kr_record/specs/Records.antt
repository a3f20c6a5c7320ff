-- The kinds of records: Kafka's metadata record schemas, each version that is served.
use Rattle.std.specs.Prelude.{negsuc, refl, ℕ, ℤ, List, Option, ◌==◌, if◌then◌else◌}
use Rattle.kr_defs.specs.declared.broker.Endpoint.{Endpoint}
use Rattle.kr_defs.specs.declared.broker.Range.{Range}
use Rattle.kr_defs.specs.declared.partition.PartitionChange.{PartitionChange}
use Rattle.kr_defs.specs.declared.record.Record.{Record}
use Rattle.kr_defs.specs.declared.record.Record.TheVariants as kinds
use Rattle.kr_record.specs.Layout.{Schema, Int8, Int16, Int32, Int64, Uint16, Boolean, Uuid, Text, TextOrNull, End, Array, ◌▸◌, Structure, NoField, Field, Int8NotZero, Int8OrNone, Int32OrNone, Int32sOrNull, Int32sOrEmpty, TextOrNone, UuidsDropped, RecordLayout, Of, Flag, ◌▹◌, Directories, Tagged, Kind, kind}

-- ---- brokers (KIP-631, KIP-841)

abbrev pub endpoint_layout : Schema Endpoint
endpoint_layout = Structure (Text ▸ Text ▸ Uint16 ▸ Int16 ▸ End)
    (λ (name, (host, (port, (protocol, end)))). record { name = name; host = host; port = port; protocol = protocol })
    (λ e. (e.name, (e.host, (e.port, (e.protocol, tt))))) (λ v. refl) (λ e. refl)

abbrev pub range_layout : Schema Range
range_layout = Structure (Text ▸ Int16 ▸ Int16 ▸ End)
    (λ (name, (min, (max, end))). record { name = name; min = min; max = max })
    (λ r. (r.name, (r.min, (r.max, tt)))) (λ v. refl) (λ r. refl)

-- the broker, its incarnation and epoch, its endpoints and features, its rack, and whether it is fenced; since version 1 whether it is stopping
abbrev pub register_broker : Kind
register_broker = kind 0 1
    (Of Int32 ▹ Of Uuid ▹ Of Int64 ▹ Of (Array endpoint_layout) ▹ Of (Array range_layout) ▹ Of TextOrNull ▹ Of Boolean ▹ Flag 1 ▹ Of End)
    (λ (broker, (incarnation, (epoch, (endpoints, (features, (rack, (fenced, (stopping, end)))))))).
    kinds.RegisterBroker broker (record { epoch = epoch; incarnation = incarnation; endpoints = endpoints; features = features; rack = rack; fenced = fenced; stopping = stopping }))

-- the broker and its epoch
abbrev pub broker_epoch : RecordLayout (ℤ × (ℤ × Unit {0}))
broker_epoch = Of Int32 ▹ Of Int64 ▹ Of End

abbrev pub unregister_broker : Kind
unregister_broker = kind 1 0 broker_epoch (λ (broker, (epoch, end)). kinds.UnregisterBroker broker epoch)

abbrev pub fence_broker : Kind
fence_broker = kind 7 0 broker_epoch (λ (broker, (epoch, end)). kinds.FenceBroker broker epoch)

abbrev pub unfence_broker : Kind
unfence_broker = kind 8 0 broker_epoch (λ (broker, (epoch, end)). kinds.UnfenceBroker broker epoch)

-- the broker, its epoch, whether it is fenced, and since version 1 whether it is stopping: 1 for yes, -1 for no, 0 for no change
abbrev pub broker_registration_change : Kind
broker_registration_change = kind 17 1 (Of Int32 ▹ Of Int64 ▹ Tagged (Field 0 0 Int8NotZero (Field 1 1 Int8NotZero NoField)))
    (λ (broker, (epoch, (fenced, (stopping, none)))). kinds.BrokerRegistrationChange broker epoch fenced stopping)

-- ---- topics (KIP-516, KIP-631, KIP-704, KIP-858, KIP-966)

-- the topic's name and id
abbrev pub topic : Kind
topic = kind 2 0 (Of Text ▹ Of Uuid ▹ Of End) (λ (name, (id, end)). kinds.Topic name id)

-- the topic's id
abbrev pub remove_topic : Kind
remove_topic = kind 9 0 (Of Uuid ▹ Of End) (λ (id, end). kinds.RemoveTopic id)

-- its index, its topic, the replicas, those in sync, removed and added, the leader and two epochs; since version 1 the directories;
-- the recovery state, and since version 2 the eligible and the last known leaders
abbrev pub partition : Kind
partition = kind 3 2
    (Of Int32 ▹ Of Uuid ▹ Directories 1 (Of (Array Int32) ▹ Of (Array Int32) ▹ Of (Array Int32) ▹ Of Int32 ▹ Of Int32 ▹ Of Int32)
    ▹ Tagged (Field 0 0 Int8NotZero (Field 1 2 Int32sOrEmpty (Field 2 2 Int32sOrEmpty NoField))))
    (λ (index, (topic, ((replicas, (in_sync, (removing, (adding, (leader, (leader_epoch, partition_epoch)))))), (recovery, (eligible, (last_known, none)))))).
    kinds.Partition index topic (record { replicas = replicas; in_sync = in_sync; removing = removing; adding = adding; leader = leader; leader_epoch = leader_epoch; partition_epoch = partition_epoch; recovery = recovery; eligible = eligible; last_known = last_known }))

abbrev pub ChangedIds : Type 0
ChangedIds = Option (List ℤ)

abbrev pub change_of : ChangedIds × (Option ℤ × (ChangedIds × (ChangedIds × (ChangedIds × (Option ℤ × (ChangedIds × (ChangedIds × (Unit {0} × Unit {0})))))))) → PartitionChange
change_of (in_sync, (leader, (replicas, (removing, (adding, (recovery, (eligible, (last_known, (directories, none))))))))) = record { in_sync = in_sync; leader = leader; replicas = replicas; removing = removing; adding = adding; recovery = recovery; eligible = eligible; last_known = last_known }

-- the index, the topic, and what changes: those in sync, the leader, the replicas, those removed and added, the recovery state; since version 2
-- the eligible and the last known leaders; since version 1 the directories. Null is "no change", and an empty list is "becomes empty"; the leader
-- -2 and the recovery state -1 spell "no change".
abbrev pub partition_change : Kind
partition_change = kind 5 2
    (Of Int32 ▹ Of Uuid ▹ Tagged (
    Field 0 0 Int32sOrNull (Field 1 0 (Int32OrNone (negsuc 1)) (Field 2 0 Int32sOrNull (Field 3 0 Int32sOrNull (Field 4 0 Int32sOrNull
    (Field 5 0 (Int8OrNone (negsuc 0)) (Field 6 2 Int32sOrNull (Field 7 2 Int32sOrNull (Field 8 1 UuidsDropped NoField))))))))))
    (λ (index, (topic, parts)). kinds.PartitionChange index topic (change_of parts))

-- ---- others (KIP-584, KIP-631, KIP-835)

-- the resource's kind and name, the key and the value
abbrev pub config : Kind
config = kind 4 0 (Of Int8 ▹ Of Text ▹ Of Text ▹ Of TextOrNull ▹ Of End) (λ (kind, (name, (key, (value, end)))). kinds.Config kind name key value)

-- the feature's name and level
abbrev pub feature_level : Kind
feature_level = kind 12 0 (Of Text ▹ Of Int16 ▹ Of End) (λ (name, (level, end)). kinds.FeatureLevel name level)

abbrev pub no_op : Kind
no_op = kind 20 0 (Of End) (λ end. kinds.NoOp)

-- ---- transactions (KIP-868)

-- a text that is left out where there is none
abbrev pub remark : RecordLayout (Option (List ℕ) × Unit {0})
remark = Tagged (Field 0 0 TextOrNone NoField)

-- what it is called
abbrev pub begin_transaction : Kind
begin_transaction = kind 23 0 remark (λ (name, none). kinds.BeginTransaction name)

abbrev pub end_transaction : Kind
end_transaction = kind 24 0 (Of End) (λ end. kinds.EndTransaction)

-- why it is given up
abbrev pub abort_transaction : Kind
abort_transaction = kind 25 0 remark (λ (reason, none). kinds.AbortTransaction reason)

-- ---- the choice of kinds

-- what is said of the kind with the key, if there is one
abbrev pub by_key : {A : Type 0} → ℕ → (Kind → A) → A → A
by_key key of none =
    if key == 0 then of register_broker else if key == 1 then of unregister_broker else if key == 2 then of topic else
    if key == 3 then of partition else if key == 4 then of config else if key == 5 then of partition_change else
    if key == 7 then of fence_broker else if key == 8 then of unfence_broker else if key == 9 then of remove_topic else
    if key == 12 then of feature_level else if key == 17 then of broker_registration_change else if key == 20 then of no_op else
    if key == 23 then of begin_transaction else if key == 24 then of end_transaction else if key == 25 then of abort_transaction else none

-- a kind, and what stands in a record of it
pub record OfKind : Type 1 where
  pub kind : Kind
  pub parts : kind.Parts

abbrev pub of_kind : (k : Kind) → k.Parts → OfKind
of_kind k x = record { kind = k; parts = x }

unfoldable pub chosen : Record → OfKind
chosen (kinds.RegisterBroker broker b) =
    of_kind register_broker (broker, (b.incarnation, (b.epoch, (b.endpoints, (b.features, (b.rack, (b.fenced, (b.stopping, tt))))))))
chosen (kinds.UnregisterBroker broker epoch) = of_kind unregister_broker (broker, (epoch, tt))
chosen (kinds.Topic name id) = of_kind topic (name, (id, tt))
chosen (kinds.Partition index id p) =
    of_kind partition (index, (id, ((p.replicas, (p.in_sync, (p.removing, (p.adding, (p.leader, (p.leader_epoch, p.partition_epoch)))))), (p.recovery, (p.eligible, (p.last_known, tt))))))
chosen (kinds.Config kind name key value) = of_kind config (kind, (name, (key, (value, tt))))
chosen (kinds.PartitionChange index id c) =
    of_kind partition_change (index, (id, (c.in_sync, (c.leader, (c.replicas, (c.removing, (c.adding, (c.recovery, (c.eligible, (c.last_known, (tt, tt)))))))))))
chosen (kinds.FenceBroker broker epoch) = of_kind fence_broker (broker, (epoch, tt))
chosen (kinds.UnfenceBroker broker epoch) = of_kind unfence_broker (broker, (epoch, tt))
chosen (kinds.RemoveTopic id) = of_kind remove_topic (id, tt)
chosen (kinds.FeatureLevel name level) = of_kind feature_level (name, (level, tt))
chosen (kinds.BrokerRegistrationChange broker epoch fenced stopping) = of_kind broker_registration_change (broker, (epoch, (fenced, (stopping, tt))))
chosen kinds.NoOp = of_kind no_op tt
chosen (kinds.BeginTransaction name) = of_kind begin_transaction (name, tt)
chosen kinds.EndTransaction = of_kind end_transaction tt
chosen (kinds.AbortTransaction reason) = of_kind abort_transaction (reason, tt)
