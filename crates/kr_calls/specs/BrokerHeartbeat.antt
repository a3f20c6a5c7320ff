-- Kafka's BrokerHeartbeat, version 0 (KIP-631; KIP-841's controlled shutdown). The table is this project's own.
use Rattle.std.specs.Prelude.{ℤ, pos, negsuc, int_lt, int_le, Bool, true, false, not, ◌&&◌, ◌||◌, List, [], ◌∷◌, Option, None, Result, Ok, if◌then◌else◌}
use Rattle.std.specs.List.{list_any}
use Rattle.std.specs.Option.{option_map_or}
use Rattle.std.specs.Ordering.{int_cmp, int_eq}
use Rattle.kr_defs.specs.declared.broker.Broker.{Broker}
use Rattle.kr_defs.specs.declared.options.Options.{Options}
use Rattle.kr_defs.specs.declared.partition.Partition.{Partition}
use Rattle.kr_defs.specs.declared.partition.PartitionChange.{PartitionChange}
use Rattle.kr_defs.specs.declared.record.Record.{Record}
use Rattle.kr_defs.specs.Map as entries
use Rattle.kr_defs.specs.declared.record.Record.TheVariants as kinds
use Rattle.kr_defs.specs.Apply.{changed}
use Rattle.kr_defs.specs.Brokers.{active, active_of}
use Rattle.kr_defs.specs.Build.{built}
use Rattle.kr_defs.specs.DefaultWant.{default_want}
use Rattle.kr_defs.specs.Guard.{found, refuse◌when◌else◌}
use Rattle.kr_defs.specs.Heartbeats.{Heartbeats, lowest_offset, stopped_at}
use Rattle.kr_defs.specs.Ids.{has}
use Rattle.kr_defs.specs.Image.{Image}
use Rattle.kr_defs.specs.Settings.{facts_with}
use Rattle.kr_defs.specs.Walk.{Walked, changes_of, walk}
use Rattle.kr_calls.specs.declared.errors.TheConstants.{STALE_BROKER_EPOCH}
use Rattle.kr_calls.specs.declared.broker_heartbeat.BrokerHeartbeat.{BrokerHeartbeat}
use Rattle.kr_calls.specs.declared.broker_heartbeat.BrokerHeartbeatReply.{BrokerHeartbeatReply}
use Rattle.kr_calls.specs.declared.calls.Reply.{Reply}
use Rattle.kr_calls.specs.declared.deciding.Draft.{Draft}
use Rattle.kr_calls.specs.declared.calls.Reply.TheVariants as replies
use Rattle.kr_calls.specs.Deciding.{Work, nothing_decided, one}
use Rattle.kr_calls.specs.TakingOut.{fencing, taken_out}

-- a refused heartbeat tells the broker that it is fenced
abbrev pub refused : ℤ → BrokerHeartbeat → BrokerHeartbeatReply
refused error request = record { error = error; caught_up = false; fenced = true; should_shut_down = false }

-- what becomes of the broker: the records; it is fenced then; it should shut down
pub record Step : Type 0 where
  pub records : List Record
  pub fenced : Bool
  pub shuts_down : Bool

-- the broker's offset is below the place of its registration
abbrev pub is_behind : BrokerHeartbeat → Bool
is_behind request = int_lt request.offset request.epoch

-- ---- a fenced broker

-- a partition without leader that the broker is a replica of
abbrev pub waits_for : ℤ → Partition → Bool
waits_for broker p = int_eq p.leader (negsuc 0) && has p.replicas broker

-- the brokers with this one unfenced
abbrev pub unfenced_brokers : Image → ℤ → Broker → List (ℤ × Broker)
unfenced_brokers image broker state = entries.insert int_cmp image.brokers broker (changed state (negsuc 0) (pos 0))

-- the election that an unfenced broker may win
abbrev pub electing : ℤ → Image → ℤ → Broker → Walked → Option PartitionChange
electing minimum image broker state w =
    if waits_for broker w.partition
    then built w.partition (default_want w.partition) (facts_with minimum image (active_of (unfenced_brokers image broker state)) w.topic)
    else None

-- to unfence a broker
abbrev pub unfencing : ℤ → Image → ℤ → Broker → List Record
unfencing minimum image broker state =
    kinds.BrokerRegistrationChange broker state.epoch (negsuc 0) (pos 0)
    ∷ changes_of (electing minimum image broker state) (walk image)

abbrev pub of_fenced : ℤ → Image → BrokerHeartbeat → Broker → Step
of_fenced minimum image request state =
    if request.want_shutdown || state.stopping then record { records = []; fenced = true; shuts_down = true } else
    if request.want_fence || is_behind request then record { records = []; fenced = true; shuts_down = false } else
    record { records = unfencing minimum image request.broker state; fenced = false; shuts_down = false }

-- ---- a stopping broker

-- every active broker has told of an offset that is at least the tip when the broker began to stop
abbrev pub is_passed_on : Heartbeats → Image → ℤ → Bool
is_passed_on heartbeats image broker =
    option_map_or (λ tip. option_map_or (λ offset. int_le tip offset) (lowest_offset heartbeats (active image)) true) (stopped_at heartbeats broker) false

abbrev pub of_stopping : ℤ → Heartbeats → Image → BrokerHeartbeat → Step
of_stopping minimum heartbeats image request =
    if is_passed_on heartbeats image request.broker
    then record { records = fencing minimum image request.broker request.epoch; fenced = true; shuts_down = true }
    else record { records = []; fenced = false; shuts_down = false }

-- ---- an active broker

abbrev pub leads : Image → ℤ → Bool
leads image broker = list_any (λ e. int_eq e.1.leader broker) image.partitions

-- to tell a broker to stop: the flag, and then it is taken out
abbrev pub stopping_records : ℤ → Image → ℤ → ℤ → List Record
stopping_records minimum image broker epoch =
    kinds.BrokerRegistrationChange broker epoch (pos 0) (pos 1) ∷ taken_out minimum image broker false

abbrev pub of_active : ℤ → Image → BrokerHeartbeat → Step
of_active minimum image request =
    if request.want_fence
    then record { records = fencing minimum image request.broker request.epoch; fenced = true; shuts_down = request.want_shutdown } else
    if request.want_shutdown && not (leads image request.broker)
    then record { records = fencing minimum image request.broker request.epoch; fenced = true; shuts_down = true } else
    if request.want_shutdown
    then record { records = stopping_records minimum image request.broker request.epoch; fenced = false; shuts_down = false } else
    record { records = []; fenced = false; shuts_down = false }

-- ---- all states

unfoldable pub step : ℤ → Heartbeats → Image → BrokerHeartbeat → Broker → Step
step minimum heartbeats image request state =
    if state.fenced then of_fenced minimum image request state else
    if state.stopping then of_stopping minimum heartbeats image request else
    of_active minimum image request

abbrev pub told : BrokerHeartbeat → Step → Draft BrokerHeartbeatReply
told request step = record {
  records = step.records;
  answer = record { error = pos 0; caught_up = not (is_behind request); fenced = step.fenced; should_shut_down = step.shuts_down };
}

abbrev pub rule : Options → Heartbeats → Image → ℤ → BrokerHeartbeat → Result (Draft BrokerHeartbeatReply) ℤ
rule options heartbeats image place request = found STALE_BROKER_EPOCH (entries.get int_cmp image.brokers request.broker) (λ state.
    refuse STALE_BROKER_EPOCH when not (int_eq request.epoch state.epoch) else
    Ok (told request (step options.minimum heartbeats image request state)))

unfoldable pub decided : Options → Heartbeats → Image → ℤ → BrokerHeartbeat → Work × Reply
decided options heartbeats image place request =
    let d = one refused (rule options heartbeats) (nothing_decided place image) request in (d.0, replies.BrokerHeartbeat d.1)
