-- Reading a request message from its front: what is read, or the first fault in reading order.
use Rattle.std.specs.Prelude.{◌≡◌, ◌≤◌, drop, MatchResult, ℕ, ℤ, pos, negsuc, ◌&&◌, Bool, List, [], ◌∷◌, length, Option, Some, None, Result, Ok, Err, int_lt, unsigned_abs, find, if◌then◌else◌}
use Rattle.std.specs.Int.{w16, w32}
use Rattle.std.specs.Ordering.{int_eq}
use Rattle.kr_wire.specs.declared.WireFault.{WireFault}
use Rattle.kr_wire.specs.declared.WireFault.TheVariants.{BadNull}
use Rattle.kr_wire.specs.Reading.{◌>>=◌, Read, refuse◌when◌else◌, none_known, signed_at, tags_at, utf8_at}
use Rattle.kr_layout.specs.declared.fault.BodyFault.{BodyFault}
use Rattle.kr_layout.specs.declared.fault.BodyFault.TheVariants as bodies
use Rattle.kr_layout.specs.Answers.{wired, whole}
use Rattle.kr_calls.specs.declared.calls.Ask.{Ask}
use Rattle.kr_calls.specs.declared.calls.Ask.TheVariants as asks
use Rattle.kr_calls.specs.declared.calls.AskFault.TheVariants as faults
use Rattle.kr_calls.specs.declared.calls.Request.{Request}
use Rattle.kr_calls.specs.declared.calls.Request.TheVariants as requests
use Rattle.kr_req.specs.declared.api.ApiKey.{ApiKey}
use Rattle.kr_req.specs.declared.api.ApiKey.TheVariants as apis
use Rattle.kr_req.specs.Messages.{number_of, version_of}
use Rattle.kr_bodies.specs.BrokerHeartbeat.{broker_heartbeat}
use Rattle.kr_bodies.specs.BrokerRegistration.{broker_registration}
use Rattle.kr_bodies.specs.UnregisterBroker.{unregister_broker}
use Rattle.kr_bodies.specs.IncrementalAlterConfigs.{incremental_alter_configs}
use Rattle.kr_bodies.specs.AlterPartition.{alter_partition}
use Rattle.kr_bodies.specs.AlterPartitionReassignments.{alter_partition_reassignments}
use Rattle.kr_bodies.specs.ElectLeaders.{elect_leaders}
use Rattle.kr_bodies.specs.ListPartitionReassignments.{list_partition_reassignments}
use Rattle.kr_bodies.specs.CreatePartitions.{create_partitions}
use Rattle.kr_bodies.specs.CreateTopics.{create_topics}
use Rattle.kr_bodies.specs.DeleteTopics.{delete_topics}
use Rattle.kr_bodies.specs.Metadata.{metadata}

-- ---- keys

abbrev pub served : List ApiKey
served =
    apis.BrokerRegistration ∷ apis.BrokerHeartbeat ∷ apis.UnregisterBroker ∷ apis.CreateTopics ∷ apis.DeleteTopics ∷ apis.CreatePartitions
    ∷ apis.AlterPartition ∷ apis.ElectLeaders ∷ apis.AlterPartitionReassignments ∷ apis.ListPartitionReassignments
    ∷ apis.IncrementalAlterConfigs ∷ apis.Metadata ∷ []

abbrev pub is_api : ℤ → ℤ → ApiKey → Bool
is_api key version api = int_eq (number_of api) key && int_eq (version_of api) version

-- the request of this key and version
unfoldable pub served_by : ℤ → ℤ → Option ApiKey
served_by key version = find (is_api key version) served

-- ---- headers

-- a call that reads at a place answers the next place, or the fault
abbrev pub Passes : Result ℕ WireFault → List ℕ → Read (Unit {0}) → Type 0
Passes result bytes read = MatchResult result (λ next. (read ≡ Ok (tt, drop next bytes)) × (next ≤ length bytes)) (λ e. read ≡ Err e)

-- key, version and correlation id
unfoldable pub head_at : List ℕ → Read (ℤ × ℤ × ℤ)
head_at bytes = do
  key ← signed_at w16 bytes
  version ← signed_at w16 key.1
  correlation ← signed_at w32 version.1
  Ok ((key.0, version.0, correlation.0), correlation.1)

-- the text behind its length
abbrev pub sized_text_at : ℤ → List ℕ → Read (Unit {0})
sized_text_at size bytes = refuse BadNull when int_lt size (pos 0) else (utf8_at (unsigned_abs size) bytes >>= λ text. Ok (tt, text.1))

-- null (the length -1) or a text
unfoldable pub client_id_at : List ℕ → Read (Unit {0})
client_id_at bytes = do
  size ← signed_at w16 bytes
  if int_eq size.0 (negsuc 0) then Ok (tt, size.1) else sized_text_at size.0 size.1

-- the client id and the tagged fields
unfoldable pub client_at : List ℕ → Read (Unit {0})
client_at bytes = do
  client ← client_id_at bytes
  fields ← tags_at none_known tt client.1
  Ok (tt, fields.1)

-- ---- bodies

-- the request that all of the bytes give
unfoldable pub body_of : ApiKey → List ℕ → Result Request BodyFault
body_of apis.BrokerRegistration bytes = whole broker_registration bytes >>= λ q. Ok (requests.BrokerRegistration q)
body_of apis.BrokerHeartbeat bytes = whole broker_heartbeat bytes >>= λ q. Ok (requests.BrokerHeartbeat q)
body_of apis.UnregisterBroker bytes = whole unregister_broker bytes >>= λ q. Ok (requests.UnregisterBroker q)
body_of apis.CreateTopics bytes = whole create_topics bytes >>= λ q. Ok (requests.CreateTopics q)
body_of apis.DeleteTopics bytes = whole delete_topics bytes >>= λ q. Ok (requests.DeleteTopics q)
body_of apis.CreatePartitions bytes = whole create_partitions bytes >>= λ q. Ok (requests.CreatePartitions q)
body_of apis.AlterPartition bytes = whole alter_partition bytes >>= λ q. Ok (requests.AlterPartition q)
body_of apis.ElectLeaders bytes = whole elect_leaders bytes >>= λ q. Ok (requests.ElectLeaders q)
body_of apis.AlterPartitionReassignments bytes = whole alter_partition_reassignments bytes >>= λ q. Ok (requests.AlterPartitionReassignments q)
body_of apis.ListPartitionReassignments bytes = whole list_partition_reassignments bytes >>= λ q. Ok (requests.ListPartitionReassignments q)
body_of apis.IncrementalAlterConfigs bytes = whole incremental_alter_configs bytes >>= λ q. Ok (requests.IncrementalAlterConfigs q)
body_of apis.Metadata bytes = whole metadata bytes >>= λ q. Ok (requests.Metadata q)

-- the request that all of the bytes behind the start give
unfoldable pub request_of : ApiKey → List ℕ → Result Request BodyFault
request_of api bytes = wired (client_at bytes) >>= λ client. body_of api client.1

-- ---- what a message asks

abbrev pub called_ask : ℤ → Result Request BodyFault → Ask
called_ask correlation (Ok request) = asks.Call (record { correlation = correlation; request = request })
called_ask correlation (Err bodies.Trailing) = asks.Bare correlation faults.Trailing
called_ask correlation (Err other) = asks.Bare correlation faults.Wire

abbrev pub known_ask : ℤ × ℤ × ℤ → List ℕ → Option ApiKey → Ask
known_ask (key, version, correlation) rest None = asks.Bare correlation (faults.Unsupported key version)
known_ask (key, version, correlation) rest (Some api) = called_ask correlation (request_of api rest)

abbrev pub begun_ask : ℤ × ℤ × ℤ → List ℕ → Ask
begun_ask (key, version, correlation) rest = known_ask (key, version, correlation) rest (served_by key version)

abbrev pub started_ask : Read (ℤ × ℤ × ℤ) → Ask
started_ask (Err fault) = asks.Bare (pos 0) faults.Wire
started_ask (Ok (start, rest)) = begun_ask start rest

unfoldable pub ask_of : List ℕ → Ask
ask_of message = started_ask (head_at message)
