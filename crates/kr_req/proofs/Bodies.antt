-- The laws of bodies, by their keys, and what the request of all of some bytes has to do with reading from their front.
use Rattle.std.proofs.Common.{◌≡◌, ℕ, Bool, true, false, cond, ltb, List, ◌++◌, length, Result, Ok, Err, refl, subst}
use Rattle.kr_wire.specs.Reading.{◌>>=◌, Read, refuse◌when◌else◌}
use Rattle.kr_wire.specs.Schema.{Schema, value_at}
use Rattle.kr_wire.proofs.ReadingLaws.{IsBytes, Yields, Law, joined, sound_then, sound_last, sound_as, complete_then, complete_last}
use Rattle.kr_wire.proofs.Schemas.{law}
use Rattle.kr_layout.specs.declared.fault.BodyFault.{BodyFault}
use Rattle.kr_layout.specs.declared.fault.BodyFault.TheVariants as bodies
use Rattle.kr_layout.specs.Answers.{wired, whole}
use Rattle.kr_calls.specs.declared.calls.Request.{Request}
use Rattle.kr_calls.specs.declared.calls.Request.TheVariants as requests
use Rattle.kr_req.specs.declared.api.ApiKey.{ApiKey}
use Rattle.kr_req.specs.declared.api.ApiKey.TheVariants as apis
use Rattle.kr_req.specs.Messages.{api_of, IsBody, IsRest}
use Rattle.kr_req.specs.Reading.{body_of, client_at, request_of}
use Rattle.kr_req.proofs.Headers.{client_law}
use Rattle.kr_bodies.specs.BrokerHeartbeat.{broker_heartbeat}
use Rattle.kr_bodies.specs.BrokerRegistration.{broker_registration}
use Rattle.kr_bodies.specs.UnregisterBroker.{unregister_broker}
use Rattle.kr_bodies.specs.IncrementalAlterConfigs.{incremental_alter_configs}
use Rattle.kr_bodies.specs.AlterPartition.{alter_partition}
use Rattle.kr_bodies.specs.AlterPartitionReassignments.{alter_partition_reassignments}
use Rattle.kr_bodies.specs.ElectLeaders.{elect_leaders}
use Rattle.kr_bodies.specs.ListPartitionReassignments.{list_partition_reassignments}
use Rattle.kr_bodies.specs.CreatePartitions.{create_partitions}
use Rattle.kr_bodies.specs.CreateTopics.{create_topics}
use Rattle.kr_bodies.specs.DeleteTopics.{delete_topics}
use Rattle.kr_bodies.specs.Metadata.{metadata}

-- ---- a body at the front of some bytes

-- the value of a layout, as a request
abbrev as_request : {X : Type 0} → Schema X → (X → Request) → List ℕ → Read Request
as_request s of bytes = value_at s bytes >>= λ x. Ok (of x.0, x.1)

abbrev body_at : ApiKey → List ℕ → Read Request
body_at apis.BrokerRegistration = as_request broker_registration requests.BrokerRegistration
body_at apis.BrokerHeartbeat = as_request broker_heartbeat requests.BrokerHeartbeat
body_at apis.UnregisterBroker = as_request unregister_broker requests.UnregisterBroker
body_at apis.CreateTopics = as_request create_topics requests.CreateTopics
body_at apis.DeleteTopics = as_request delete_topics requests.DeleteTopics
body_at apis.CreatePartitions = as_request create_partitions requests.CreatePartitions
body_at apis.AlterPartition = as_request alter_partition requests.AlterPartition
body_at apis.ElectLeaders = as_request elect_leaders requests.ElectLeaders
body_at apis.AlterPartitionReassignments = as_request alter_partition_reassignments requests.AlterPartitionReassignments
body_at apis.ListPartitionReassignments = as_request list_partition_reassignments requests.ListPartitionReassignments
body_at apis.IncrementalAlterConfigs = as_request incremental_alter_configs requests.IncrementalAlterConfigs
body_at apis.Metadata = as_request metadata requests.Metadata

-- a body of this key
record IsBodyOf (api : ApiKey) (request : Request) (bytes : List ℕ) : Type 0 where
  same : api_of request ≡ api
  spelled : IsBody request bytes

body_sound : (api : ApiKey) (bytes : List ℕ) → IsBytes bytes → Yields (IsBodyOf api) bytes (body_at api bytes)
body_sound apis.BrokerRegistration bytes fits = sound_last (law broker_registration refl) (IsBodyOf apis.BrokerRegistration) requests.BrokerRegistration bytes fits (λ x front is. record { same = refl; spelled = is })
body_sound apis.BrokerHeartbeat bytes fits = sound_last (law broker_heartbeat refl) (IsBodyOf apis.BrokerHeartbeat) requests.BrokerHeartbeat bytes fits (λ x front is. record { same = refl; spelled = is })
body_sound apis.UnregisterBroker bytes fits = sound_last (law unregister_broker refl) (IsBodyOf apis.UnregisterBroker) requests.UnregisterBroker bytes fits (λ x front is. record { same = refl; spelled = is })
body_sound apis.CreateTopics bytes fits = sound_last (law create_topics refl) (IsBodyOf apis.CreateTopics) requests.CreateTopics bytes fits (λ x front is. record { same = refl; spelled = is })
body_sound apis.DeleteTopics bytes fits = sound_last (law delete_topics refl) (IsBodyOf apis.DeleteTopics) requests.DeleteTopics bytes fits (λ x front is. record { same = refl; spelled = is })
body_sound apis.CreatePartitions bytes fits = sound_last (law create_partitions refl) (IsBodyOf apis.CreatePartitions) requests.CreatePartitions bytes fits (λ x front is. record { same = refl; spelled = is })
body_sound apis.AlterPartition bytes fits = sound_last (law alter_partition refl) (IsBodyOf apis.AlterPartition) requests.AlterPartition bytes fits (λ x front is. record { same = refl; spelled = is })
body_sound apis.ElectLeaders bytes fits = sound_last (law elect_leaders refl) (IsBodyOf apis.ElectLeaders) requests.ElectLeaders bytes fits (λ x front is. record { same = refl; spelled = is })
body_sound apis.AlterPartitionReassignments bytes fits = sound_last (law alter_partition_reassignments refl) (IsBodyOf apis.AlterPartitionReassignments) requests.AlterPartitionReassignments bytes fits (λ x front is. record { same = refl; spelled = is })
body_sound apis.ListPartitionReassignments bytes fits = sound_last (law list_partition_reassignments refl) (IsBodyOf apis.ListPartitionReassignments) requests.ListPartitionReassignments bytes fits (λ x front is. record { same = refl; spelled = is })
body_sound apis.IncrementalAlterConfigs bytes fits = sound_last (law incremental_alter_configs refl) (IsBodyOf apis.IncrementalAlterConfigs) requests.IncrementalAlterConfigs bytes fits (λ x front is. record { same = refl; spelled = is })
body_sound apis.Metadata bytes fits = sound_last (law metadata refl) (IsBodyOf apis.Metadata) requests.Metadata bytes fits (λ x front is. record { same = refl; spelled = is })

body_complete : (request : Request) (front rest : List ℕ) → IsBody request front → body_at (api_of request) (front ++ rest) ≡ Ok (request, rest)
body_complete (requests.BrokerRegistration q) front rest is = complete_last (law broker_registration refl) q requests.BrokerRegistration rest front is
body_complete (requests.BrokerHeartbeat q) front rest is = complete_last (law broker_heartbeat refl) q requests.BrokerHeartbeat rest front is
body_complete (requests.UnregisterBroker q) front rest is = complete_last (law unregister_broker refl) q requests.UnregisterBroker rest front is
body_complete (requests.CreateTopics q) front rest is = complete_last (law create_topics refl) q requests.CreateTopics rest front is
body_complete (requests.DeleteTopics q) front rest is = complete_last (law delete_topics refl) q requests.DeleteTopics rest front is
body_complete (requests.CreatePartitions q) front rest is = complete_last (law create_partitions refl) q requests.CreatePartitions rest front is
body_complete (requests.AlterPartition q) front rest is = complete_last (law alter_partition refl) q requests.AlterPartition rest front is
body_complete (requests.ElectLeaders q) front rest is = complete_last (law elect_leaders refl) q requests.ElectLeaders rest front is
body_complete (requests.AlterPartitionReassignments q) front rest is = complete_last (law alter_partition_reassignments refl) q requests.AlterPartitionReassignments rest front is
body_complete (requests.ListPartitionReassignments q) front rest is = complete_last (law list_partition_reassignments refl) q requests.ListPartitionReassignments rest front is
body_complete (requests.IncrementalAlterConfigs q) front rest is = complete_last (law incremental_alter_configs refl) q requests.IncrementalAlterConfigs rest front is
body_complete (requests.Metadata q) front rest is = complete_last (law metadata refl) q requests.Metadata rest front is

body_law : (api : ApiKey) → Law (IsBodyOf api) (body_at api)
body_law api = record {
  sound = body_sound api;
  complete = λ request front rest is.
      subst (λ (a : ApiKey). body_at a (front ++ rest) ≡ Ok (request, rest)) is.same (body_complete request front rest is.spelled);
}

-- ---- the rest of the header and a body

abbrev pub rest_at : ApiKey → List ℕ → Read Request
rest_at api bytes = client_at bytes >>= λ client. body_at api client.1

pub rest_sound : (api : ApiKey) (bytes : List ℕ) → IsBytes bytes → Yields (λ request front. (api_of request ≡ api) × IsRest request front) bytes (rest_at api bytes)
rest_sound api bytes fits = sound_then client_law (λ (request : Request) front. (api_of request ≡ api) × IsRest request front) _ bytes fits (λ u a rest first more.
    sound_as (IsBodyOf api) _ rest _ (body_sound api rest more) (λ request b second. (second.same, joined a b first second.spelled)))

pub rest_complete : (request : Request) (front rest : List ℕ) → IsRest request front → rest_at (api_of request) (front ++ rest) ≡ Ok (request, rest)
rest_complete request front rest is =
    complete_then client_law tt (IsBody request) _ request rest (λ tail second. body_complete request tail rest second) front is

-- ---- all of the bytes

-- what is read from the front, where nothing is left behind it
abbrev pub ended : Read Request → Result Request BodyFault
ended (Ok x) = refuse bodies.Trailing when ltb 0 (length x.1) else Ok x.0
ended (Err fault) = Err (bodies.Wire fault)

mapped : {X : Type 0} (of : X → Request) (read : Read X) (test : Bool) (x : X × List ℕ)
    → (cond test (Err bodies.Trailing) (Ok x.0) >>= λ q. Ok (of q)) ≡ cond test (Err bodies.Trailing) (Ok (of x.0))
mapped of read true x = refl
mapped of read false x = refl

as_whole : {X : Type 0} (of : X → Request) (read : Read X)
    → ((wired read >>= λ x. refuse bodies.Trailing when ltb 0 (length x.1) else Ok x.0) >>= λ q. Ok (of q)) ≡ ended (read >>= λ x. Ok (of x.0, x.1))
as_whole of (Ok x) = mapped of (Ok x) (ltb 0 (length x.1)) x
as_whole of (Err fault) = refl

body_is : (api : ApiKey) (bytes : List ℕ) → body_of api bytes ≡ ended (body_at api bytes)
unfolding body_of whole
body_is apis.BrokerRegistration bytes = as_whole requests.BrokerRegistration (value_at broker_registration bytes)
body_is apis.BrokerHeartbeat bytes = as_whole requests.BrokerHeartbeat (value_at broker_heartbeat bytes)
body_is apis.UnregisterBroker bytes = as_whole requests.UnregisterBroker (value_at unregister_broker bytes)
body_is apis.CreateTopics bytes = as_whole requests.CreateTopics (value_at create_topics bytes)
body_is apis.DeleteTopics bytes = as_whole requests.DeleteTopics (value_at delete_topics bytes)
body_is apis.CreatePartitions bytes = as_whole requests.CreatePartitions (value_at create_partitions bytes)
body_is apis.AlterPartition bytes = as_whole requests.AlterPartition (value_at alter_partition bytes)
body_is apis.ElectLeaders bytes = as_whole requests.ElectLeaders (value_at elect_leaders bytes)
body_is apis.AlterPartitionReassignments bytes = as_whole requests.AlterPartitionReassignments (value_at alter_partition_reassignments bytes)
body_is apis.ListPartitionReassignments bytes = as_whole requests.ListPartitionReassignments (value_at list_partition_reassignments bytes)
body_is apis.IncrementalAlterConfigs bytes = as_whole requests.IncrementalAlterConfigs (value_at incremental_alter_configs bytes)
body_is apis.Metadata bytes = as_whole requests.Metadata (value_at metadata bytes)

behind : (api : ApiKey) (client : Read (Unit {0})) → (wired client >>= λ x. body_of api x.1) ≡ ended (client >>= λ x. body_at api x.1)
behind api (Ok x) = body_is api x.1
behind api (Err fault) = refl

pub request_is : (api : ApiKey) (bytes : List ℕ) → request_of api bytes ≡ ended (rest_at api bytes)
unfolding request_of
request_is api bytes = behind api (client_at bytes)
