-- Partitions that are named, grouped_with by neighbours of one topic.
use Rattle.std.specs.Prelude.{ℕ, ℤ, List, [], ◌∷◌, ◌++◌, bytes_eq, if◌then◌else◌}
use Rattle.kr_calls.specs.declared.elect_leaders.ElectLeadersTopic.{ElectLeadersTopic}
use Rattle.kr_rebalance.specs.declared.election.Grouping.{Grouping}
use Rattle.law_balance.specs.Election.{asked_before, entries_by_topic}

-- the entry that more may join
abbrev pub open_entry : Grouping → ElectLeadersTopic
open_entry g = record { topic = g.topic; partitions = g.partitions }

-- with one partition more
abbrev pub grouped_with : Grouping → List ℕ × ℤ → Grouping
grouped_with g n =
    if bytes_eq n.0 g.topic
    then record g { partitions = g.partitions ++ n.1 ∷ [] }
    else record { done = g.done ++ open_entry g ∷ []; topic = n.0; partitions = n.1 ∷ [] }

-- the entries, where these partitions follow
abbrev pub entries_with : Grouping → List (List ℕ × ℤ) → List ElectLeadersTopic
entries_with g ns = g.done ++ asked_before g.topic g.partitions (entries_by_topic ns)
