-- What the reads show, and what is left of contacts, by computation.
use Rattle.std.specs.Prelude.{◌≡◌, ℕ, ℤ, pos, negsuc, Bool, true, false, List, [], ◌∷◌, length, Option, Some, None, codes}
use Rattle.std.proofs.Common.{refl}
use Rattle.kr_defs.specs.declared.partition.Partition.{Partition}
use Rattle.kr_defs.specs.Heartbeats.{heard}
use Rattle.kr_defs.specs.Image.{Image}
use Rattle.kr_calls.specs.declared.errors.TheConstants.{INVALID_REQUEST, LEADER_NOT_AVAILABLE, STALE_BROKER_EPOCH, UNKNOWN_TOPIC_ID, UNKNOWN_TOPIC_OR_PARTITION}
use Rattle.kr_calls.specs.declared.broker_heartbeat.BrokerHeartbeat.{BrokerHeartbeat}
use Rattle.kr_calls.specs.declared.broker_heartbeat.BrokerHeartbeatReply.{BrokerHeartbeatReply}
use Rattle.kr_calls.specs.declared.calls.Reply.{Reply}
use Rattle.kr_calls.specs.declared.list_partition_reassignments.ListedTopic.{ListedTopic}
use Rattle.kr_calls.specs.declared.metadata.MetadataRequestTopic.{MetadataRequestTopic}
use Rattle.kr_calls.specs.declared.metadata.MetadataTopic.{MetadataTopic}
use Rattle.kr_calls.specs.declared.list_partition_reassignments.OngoingTopicReassignment.{OngoingTopicReassignment}
use Rattle.kr_calls.specs.ListPartitionReassignments as list_partition_reassignments
use Rattle.kr_calls.specs.Metadata as metadata_rules
use Rattle.kr_calls.specs.declared.calls.Reply.TheVariants as replies
use Rattle.kr_calls.specs.declared.calls.Request.TheVariants as requests
use Rattle.kr_calls.proofs.Cluster.{basis, broker, cluster, contact, image, leaderless, whole}
use Rattle.kr_calls.specs.NextBasis.{heartbeats_after}

-- ---- reassignments that go on

abbrev moving : Partition
moving = record whole { adding = pos 3 ∷ [] }

abbrev list : Image → Option (List ListedTopic) → Reply
list there topics = list_partition_reassignments.queried there (record { topics = topics })

abbrev lists : List OngoingTopicReassignment → Reply
lists topics = replies.ListPartitionReassignments (record { error = pos 0; topics = topics })

abbrev ongoing : OngoingTopicReassignment
ongoing = record { name = codes "t.a"; partitions = record { index = pos 0; replicas = whole.replicas; adding = pos 3 ∷ []; removing = [] } ∷ [] }

none_goes_on : list image None ≡ lists []
unfolding list_partition_reassignments.queried
none_goes_on = refl

all_that_go_on : list (cluster moving) None ≡ lists (ongoing ∷ [])
unfolding list_partition_reassignments.queried
all_that_go_on = refl

none_asked_for : list (cluster moving) (Some []) ≡ lists []
unfolding list_partition_reassignments.queried
none_asked_for = refl

asked_for_twice : list (cluster moving) (Some (record { name = codes "t.a"; partitions = pos 0 ∷ [] } ∷ record { name = codes "x"; partitions = [] } ∷ record { name = codes "t.a"; partitions = pos 0 ∷ [] } ∷ [])) ≡ lists (ongoing ∷ [])
unfolding list_partition_reassignments.queried
asked_for_twice = refl

-- ---- metadata

abbrev shown : MetadataTopic
shown = record {
  error = pos 0;
  name = Some (codes "t.a");
  topic = 77;
  internal = false;
  partitions = record { error = pos 0; index = pos 0; leader = pos 1; leader_epoch = pos 5; replicas = whole.replicas; in_sync = whole.in_sync; offline = [] } ∷ [];
  operations = negsuc 2147483647;
}

abbrev unknown : ℤ → Option (List ℕ) → ℕ → MetadataTopic
unknown error name id = record { error = error; name = name; topic = id; internal = false; partitions = []; operations = negsuc 2147483647 }

abbrev entry : Option (List ℕ) → ℕ → MetadataRequestTopic
entry name id = record { topic = id; name = name }

all_topics : metadata_rules.topics_of image None ≡ shown ∷ []
all_topics = refl

-- a topic is shown once; an unknown name may be asked for again
some_topics : metadata_rules.topics_of image (Some (entry (Some (codes "x")) 0 ∷ entry None 78 ∷ entry None 0 ∷ entry (Some (codes "t.a")) 0 ∷ entry None 77 ∷ entry (Some (codes "x")) 0 ∷ []))
    ≡ unknown UNKNOWN_TOPIC_OR_PARTITION (Some (codes "x")) 0 ∷ unknown UNKNOWN_TOPIC_ID None 78 ∷ unknown INVALID_REQUEST None 0 ∷ shown ∷ unknown INVALID_REQUEST None 77 ∷ unknown UNKNOWN_TOPIC_OR_PARTITION (Some (codes "x")) 0 ∷ []
some_topics = refl

-- nobody leads, and broker 4 is fenced
offline : metadata_rules.partition_metadata image ((77, pos 0), record leaderless { replicas = pos 3 ∷ pos 4 ∷ pos 9 ∷ [] })
    ≡ record { error = LEADER_NOT_AVAILABLE; index = pos 0; leader = negsuc 0; leader_epoch = pos 5; replicas = pos 3 ∷ pos 4 ∷ pos 9 ∷ []; in_sync = []; offline = pos 4 ∷ pos 9 ∷ [] }
offline = refl

-- three brokers aren't fenced
online : length (metadata_rules.brokers_of image) ≡ 3
online = refl

-- ---- contacts

abbrev beats : BrokerHeartbeat
beats = record { broker = pos 1; epoch = pos 10; offset = pos 29; want_fence = false; want_shutdown = true }

abbrev answered : Bool → BrokerHeartbeatReply
answered fenced = record { error = pos 0; caught_up = true; fenced = fenced; should_shut_down = false }

-- the broker is heard of last, and stops from the tip before its request on
stops : heartbeats_after (heard basis) image (record image { brokers = (pos 1, record (broker (pos 10) false) { stopping = true }) ∷ [] }) (pos 2000) (pos 30) (requests.BrokerHeartbeat beats) (replies.BrokerHeartbeat (answered false))
    ≡ record {
      contacts = contact (pos 2) (pos 21) ∷ contact (pos 3) (pos 22) ∷ record { broker = pos 1; time = pos 2000; offset = pos 29 } ∷ [];
      stopping = record { broker = pos 1; tip = pos 30 } ∷ [];
    }
unfolding heartbeats_after
stops = refl

is_fenced : heartbeats_after (heard basis) image image (pos 2000) (pos 30) (requests.BrokerHeartbeat beats) (replies.BrokerHeartbeat (answered true))
    ≡ record { contacts = contact (pos 2) (pos 21) ∷ contact (pos 3) (pos 22) ∷ []; stopping = [] }
unfolding heartbeats_after
is_fenced = refl

-- a refused request isn't heard of
refused : heartbeats_after (heard basis) image image (pos 2000) (pos 30) (requests.BrokerHeartbeat beats) (replies.BrokerHeartbeat (record (answered true) { error = STALE_BROKER_EPOCH })) ≡ heard basis
unfolding heartbeats_after
refused = refl

unregisters : heartbeats_after (heard basis) image image (pos 2000) (pos 30) (requests.UnregisterBroker (record { broker = pos 3 })) (replies.UnregisterBroker (record { error = pos 0 }))
    ≡ record { contacts = contact (pos 1) (pos 20) ∷ contact (pos 2) (pos 21) ∷ []; stopping = [] }
unfolding heartbeats_after
unregisters = refl
