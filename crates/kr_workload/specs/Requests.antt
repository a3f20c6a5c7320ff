-- What the six brokers and the administrator ask, by the controller's image.
use Rattle.std.specs.Prelude.{ℕ, ℤ, pos, negsuc, int_lt, ◌+◌, ◌==◌, nat_le, List, [], ◌∷◌, ◌++◌, map, filter, codes, Bool, true, false, Option, Some, None, if◌then◌else◌}
use Rattle.std.specs.Fmt.{decimal}
use Rattle.std.specs.Option.{option_map_or}
use Rattle.std.specs.Ordering.{int_cmp, int_eq}
use Rattle.kr_calls.specs.declared.alter_partition.BrokerState.{BrokerState}
use Rattle.kr_calls.specs.declared.alter_partition.PartitionReport.{PartitionReport}
use Rattle.kr_calls.specs.declared.calls.Request.{Request}
use Rattle.kr_calls.specs.declared.calls.Request.TheVariants as requests
use Rattle.kr_defs.specs.declared.broker.Broker.{Broker}
use Rattle.kr_defs.specs.declared.broker.Endpoint.{Endpoint}
use Rattle.kr_defs.specs.declared.partition.Partition.{Partition}
use Rattle.kr_defs.specs.Brokers as brokers
use Rattle.kr_defs.specs.Image.{Image}
use Rattle.kr_defs.specs.Map.{get, partition_order, text_order}

-- ---- brokers

-- two brokers in each of three racks
abbrev pub rack_of : ℕ → List ℕ
rack_of broker = if nat_le broker 2 then codes "a" else if nat_le broker 4 then codes "b" else codes "c"

abbrev pub listener : ℕ → Endpoint
listener broker = record { name = codes "PLAINTEXT"; host = codes "localhost"; port = 9000 + broker; protocol = pos 0 }

abbrev pub first_registration : ℕ → Request
first_registration broker = requests.BrokerRegistration (record {
  broker = pos broker;
  cluster = codes "make";
  incarnation = broker;
  listeners = listener broker ∷ [];
  features = [];
  rack = Some (rack_of broker);
  migrating = false;
  previous_epoch = negsuc 0;
})

-- the epoch of a broker's registration, -1 where there is none
abbrev pub epoch_of : Image → ℤ → ℤ
epoch_of image broker = option_map_or (λ (state : Broker). state.epoch) (get int_cmp image.brokers broker) (negsuc 0)

abbrev pub heartbeat : Image → ℤ → ℕ → Bool → Request
heartbeat image offset broker want_fence = requests.BrokerHeartbeat (record {
  broker = pos broker;
  epoch = epoch_of image (pos broker);
  offset = offset;
  want_fence = want_fence;
  want_shutdown = false;
})

-- ---- topics

-- `t` and the topic's number
abbrev pub name_of_topic : ℕ → List ℕ
name_of_topic topic = codes "t" ++ decimal topic

abbrev pub creation : ℕ → Request
creation topic = requests.CreateTopics (record {
  topics = record { name = name_of_topic topic; partitions = pos 10; factor = pos 3; assignments = []; configs = [] } ∷ [];
  validate_only = false;
})

-- ---- partitions

-- 1 follows 6
abbrev pub next_broker : ℕ → ℕ
next_broker broker = if broker == 6 then 1 else broker + 1

-- three brokers, from this one on
abbrev pub targets : ℕ → List ℤ
targets broker = pos broker ∷ pos (next_broker broker) ∷ pos (next_broker (next_broker broker)) ∷ []

abbrev pub reassignment : ℕ → ℤ → ℕ → Request
reassignment topic partition broker = requests.AlterPartitionReassignments (record {
  topics = record { name = name_of_topic topic; partitions = record { index = partition; replicas = Some (targets broker) } ∷ [] } ∷ [];
})

-- of the preferred leader
abbrev pub election : ℕ → ℤ → Request
election topic partition = requests.ElectLeaders (record {
  kind = pos 0;
  topics = Some (record { topic = name_of_topic topic; partitions = partition ∷ [] } ∷ []);
})

-- ---- reports

abbrev pub state_of_broker : Image → ℤ → BrokerState
state_of_broker image broker = record { broker = broker; epoch = epoch_of image broker }

abbrev pub is_active_broker : Image → ℤ → Bool
is_active_broker image broker = option_map_or brokers.is_active (get int_cmp image.brokers broker) false

abbrev pub active_states : Image → List ℤ → List BrokerState
active_states image ids = map (state_of_broker image) (filter (is_active_broker image) ids)

-- the leader alone while it recovers, else all active replicas
abbrev pub in_sync : Image → Partition → List BrokerState
in_sync image p = if int_eq p.recovery (pos 1) then state_of_broker image p.leader ∷ [] else active_states image p.replicas

-- a recovery has ended
abbrev pub reported_partition : Image → ℤ → Partition → PartitionReport
reported_partition image index p = record {
  index = index;
  leader_epoch = p.leader_epoch;
  in_sync = in_sync image p;
  recovery = if int_eq p.recovery (pos 1) then pos 0 else p.recovery;
  partition_epoch = p.partition_epoch;
}

abbrev pub leader_report : Image → ℕ → ℤ → Partition → Request
leader_report image id index p = requests.AlterPartition (record {
  broker = p.leader;
  epoch = epoch_of image p.leader;
  topics = record { topic = id; partitions = reported_partition image index p ∷ [] } ∷ [];
})

-- a leader's number isn't negative
abbrev pub has_leader : Partition → Bool
has_leader p = if int_lt p.leader (pos 0) then false else true

abbrev pub report_where_led : Image → ℕ → ℤ → Partition → Option Request
report_where_led image id index p = if has_leader p then Some (leader_report image id index p) else None

abbrev pub report_of_topic : Image → ℤ → ℕ → Option Request
report_of_topic image index id = option_map_or (report_where_led image id index) (get partition_order image.partitions (id, index)) None

-- none where nobody leads the partition
abbrev pub report : Image → ℕ → ℤ → Option Request
report image topic index = option_map_or (report_of_topic image index) (get text_order image.topics (name_of_topic topic)) None

-- ---- settings

-- the key `note` of the default of all brokers is set to the number
abbrev pub note : ℕ → Request
note round = requests.IncrementalAlterConfigs (record {
  resources = record {
    kind = pos 4;
    name = [];
    configs = record { name = codes "note"; operation = pos 0; value = Some (decimal round) } ∷ [];
  } ∷ [];
  validate_only = false;
})
