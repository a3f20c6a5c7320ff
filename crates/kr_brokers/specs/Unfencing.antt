-- The elections that a broker may win once it is unfenced (KIP-631).
use Rattle.std.specs.Prelude.{ℤ, Bool, not, ◌&&◌, ◌||◌, Option, None, if◌then◌else◌}
use Rattle.std.specs.Ordering.{int_eq}
use Rattle.kr_defs.specs.declared.broker.Broker.{Broker}
use Rattle.kr_defs.specs.declared.partition.PartitionChange.{PartitionChange}
use Rattle.kr_defs.specs.Brokers.{is_active}
use Rattle.kr_defs.specs.Build.{built}
use Rattle.kr_defs.specs.DefaultWant.{default_want}
use Rattle.kr_defs.specs.Image.{Image}
use Rattle.kr_defs.specs.Settings.{facts_with}
use Rattle.kr_defs.specs.Walk.{Walked}
use Rattle.kr_calls.specs.BrokerHeartbeat.{waits_for}
use Rattle.kr_replication.specs.BrokerIds.{ids_where}

-- active, or would be if it is this one and were unfenced
abbrev pub active_with : ℤ → ℤ × Broker → Bool
active_with broker e = is_active e.1 || int_eq e.0 broker && not e.1.stopping

-- the election of a partition that waits for the broker
abbrev pub electing_with : ℤ → ℤ → Image → Walked → Option PartitionChange
electing_with minimum broker image w =
    if waits_for broker w.partition
    then built w.partition (default_want w.partition) (facts_with minimum image (ids_where (active_with broker) image.brokers) w.topic)
    else None
