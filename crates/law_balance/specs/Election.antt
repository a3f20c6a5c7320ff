-- Kafka's ElectLeaders (KIP-460) of type 0, for partitions that are named.
use Rattle.std.specs.Prelude.{ℕ, ℤ, pos, List, [], ◌∷◌, ◌++◌, bytes_eq, Some, if◌then◌else◌}
use Rattle.kr_calls.specs.declared.elect_leaders.ElectLeaders.{ElectLeaders}
use Rattle.kr_calls.specs.declared.elect_leaders.ElectLeadersTopic.{ElectLeadersTopic}

-- these partitions of a topic, and then those that others ask for: under one entry where the first ones are of the same topic
abbrev pub asked_before : List ℕ → List ℤ → List ElectLeadersTopic → List ElectLeadersTopic
asked_before topic indexes [] = record { topic = topic; partitions = indexes } ∷ []
asked_before topic indexes (t ∷ ts) =
    if bytes_eq t.topic topic
    then record { topic = topic; partitions = indexes ++ t.partitions } ∷ ts
    else record { topic = topic; partitions = indexes } ∷ t ∷ ts

-- neighbours of one topic stand under one entry
abbrev pub entries_by_topic : List (List ℕ × ℤ) → List ElectLeadersTopic
entries_by_topic [] = []
entries_by_topic (n ∷ ns) = asked_before n.0 (n.1 ∷ []) (entries_by_topic ns)

-- the preferred leaders of these are to lead
abbrev pub preferred_election : List (List ℕ × ℤ) → ElectLeaders
preferred_election partitions = record { kind = pos 0; topics = Some (entries_by_topic partitions) }
