-- Kafka's ElectLeaders, version 2 (KIP-460). The order of refusals is this project's own.
use Rattle.std.specs.Prelude.{ℕ, ℤ, pos, negsuc, Bool, not, ◌&&◌, ◌||◌, nat_lt, List, [], length, filter, map, slice_get, Option, Some, None, unwrap_or, Result, Ok, if◌then◌else◌}
use Rattle.std.specs.Ordering.{int_eq}
use Rattle.kr_defs.specs.declared.changing.Mode.{Mode}
use Rattle.kr_defs.specs.declared.changing.Want.{Want}
use Rattle.kr_defs.specs.declared.options.Options.{Options}
use Rattle.kr_defs.specs.declared.partition.Partition.{Partition}
use Rattle.kr_defs.specs.declared.partition.PartitionChange.{PartitionChange}
use Rattle.kr_defs.specs.Map as entries
use Rattle.kr_defs.specs.declared.changing.Mode.TheVariants as modes
use Rattle.kr_defs.specs.Brokers.{active}
use Rattle.kr_defs.specs.Build.{aimed, built}
use Rattle.kr_defs.specs.DefaultWant.{default_want}
use Rattle.kr_defs.specs.Guard.{found, refuse◌when◌else◌}
use Rattle.kr_defs.specs.Ids.{has}
use Rattle.kr_defs.specs.Image.{Image}
use Rattle.kr_defs.specs.Map.{partition_order, text_order}
use Rattle.kr_defs.specs.Settings.{facts_of}
use Rattle.kr_defs.specs.Walk.{change_records, of_topic}
use Rattle.kr_calls.specs.declared.errors.TheConstants.{ELECTION_NOT_NEEDED, ELIGIBLE_LEADERS_NOT_AVAILABLE, INVALID_REQUEST, PREFERRED_LEADER_NOT_AVAILABLE, UNKNOWN_TOPIC_OR_PARTITION}
use Rattle.kr_calls.specs.declared.calls.Reply.{Reply}
use Rattle.kr_calls.specs.declared.deciding.Draft.{Draft}
use Rattle.kr_calls.specs.declared.elect_leaders.ElectLeaders.{ElectLeaders}
use Rattle.kr_calls.specs.declared.elect_leaders.ElectLeadersTopic.{ElectLeadersTopic}
use Rattle.kr_calls.specs.declared.elect_leaders.PartitionElectionResult.{PartitionElectionResult}
use Rattle.kr_calls.specs.declared.elect_leaders.ReplicaElectionResult.{ReplicaElectionResult}
use Rattle.kr_calls.specs.declared.calls.Reply.TheVariants as replies
use Rattle.kr_calls.specs.Deciding.{Work, after_groups, nothing_decided, group_answers}

-- a partition by its topic's name and its index
abbrev pub Entry : Type 0
Entry = List ℕ × ℤ

abbrev pub answer : ℤ → Entry → PartitionElectionResult
answer error entry = record { index = entry.1; error = error }

abbrev pub drafted : Entry → ℕ → Option PartitionChange → Draft PartitionElectionResult
drafted entry id change = record { records = change_records id entry.1 change; answer = answer (pos 0) entry }

abbrev pub in_mode : Partition → Mode → Want
in_mode p mode = record (default_want p) { mode = mode }

-- ---- type 0: the first replica is to lead

abbrev pub first_replica : Partition → ℤ
first_replica p = unwrap_or (slice_get p.replicas 0) (negsuc 0)

abbrev pub prefers : Options → Image → Entry → ℕ → Partition → Result (Draft PartitionElectionResult) ℤ
prefers options image entry id p =
    refuse ELECTION_NOT_NEEDED when int_eq p.leader (first_replica p) else
    refuse PREFERRED_LEADER_NOT_AVAILABLE when not (has p.in_sync (first_replica p) && has (active image) (first_replica p)) else
    Ok (drafted entry id (built p (in_mode p modes.Preferred) (facts_of options image entry.0)))

-- ---- type 1: where nobody leads, any active replica is to lead

-- the election finds nobody
abbrev pub finds_nobody : Options → Image → Entry → Partition → Bool
finds_nobody options image entry p =
    int_eq (aimed p (in_mode p modes.Unclean) (facts_of options image entry.0)).leader (negsuc 0)

abbrev pub elects_any : Options → Image → Entry → ℕ → Partition → Result (Draft PartitionElectionResult) ℤ
elects_any options image entry id p =
    refuse ELECTION_NOT_NEEDED when not (int_eq p.leader (negsuc 0)) else
    refuse ELIGIBLE_LEADERS_NOT_AVAILABLE when finds_nobody options image entry p else
    Ok (drafted entry id (built p (in_mode p modes.Unclean) (facts_of options image entry.0)))

-- ---- both types

abbrev pub is_preferred_kind : ℤ → Bool
is_preferred_kind kind = int_eq kind (pos 0)

abbrev pub is_kind : ℤ → Bool
is_kind kind = is_preferred_kind kind || int_eq kind (pos 1)

abbrev pub of_partition : Options → ℤ → Image → Entry → ℕ → Partition → Result (Draft PartitionElectionResult) ℤ
of_partition options kind image entry id p =
    if is_preferred_kind kind then prefers options image entry id p else elects_any options image entry id p

abbrev pub rule : Options → ℤ → Image → ℤ → Entry → Result (Draft PartitionElectionResult) ℤ
rule options kind image place entry =
    found UNKNOWN_TOPIC_OR_PARTITION (entries.get text_order image.topics entry.0) (λ id.
    found UNKNOWN_TOPIC_OR_PARTITION (entries.get partition_order image.partitions (id, entry.1)) (λ p.
    of_partition options kind image entry id p))

-- ---- the whole request

-- a topic, and its partitions that are asked for
abbrev pub Group : Type 0
Group = List ℕ × List ℤ

-- all partitions of the topic
abbrev pub whole_topic : Image → List ℕ × ℕ → Group
whole_topic image topic = (topic.0, map (λ e. e.0.1) (of_topic topic.1 image.partitions))

abbrev pub groups_of : Image → Option (List ElectLeadersTopic) → List Group
groups_of image (Some topics) = map (λ t. (t.topic, t.partitions)) topics
groups_of image None = map (whole_topic image) image.topics

abbrev pub entries_of : Group → List Entry
entries_of group = map (λ index. (group.0, index)) group.1

abbrev pub answer_of : Group → List PartitionElectionResult → ReplicaElectionResult
answer_of group partitions = record { topic = group.0; partitions = partitions }

-- without the partitions that needed no election
abbrev pub needed : ReplicaElectionResult → ReplicaElectionResult
needed result = record result { partitions = filter (λ p. not (int_eq p.error ELECTION_NOT_NEEDED)) result.partitions }

-- where all partitions were asked for, those that needed no election aren't shown, nor topics with nothing to show
abbrev pub shown : Option (List ElectLeadersTopic) → List ReplicaElectionResult → List ReplicaElectionResult
shown (Some topics) results = results
shown None results = filter (λ result. nat_lt 0 (length result.partitions)) (map needed results)

abbrev pub reply_of : ℤ → List ReplicaElectionResult → Reply
reply_of error results = replies.ElectLeaders (record { error = error; results = results })

unfoldable pub decided : Options → Image → ℤ → ElectLeaders → Work × Reply
decided options image place request =
    let start = nothing_decided place image in
    let groups = groups_of image request.topics in
    if not (is_kind request.kind) then (start, reply_of INVALID_REQUEST []) else (
      after_groups answer (rule options request.kind) entries_of answer_of start groups,
      reply_of (pos 0) (shown request.topics (group_answers answer (rule options request.kind) entries_of answer_of start groups)),
    )
