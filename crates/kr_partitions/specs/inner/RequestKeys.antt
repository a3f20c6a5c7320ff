-- The partitions that a ListPartitionReassignments names, by key. This project's own.
use Rattle.std.specs.Prelude.{◌≡◌, ℕ, ℤ, ◌==◌, ◌&&◌, Bool, true, false, List, Option, Some, None, length, filter, map, if◌then◌else◌}
use Rattle.std.specs.BTreeSet.{BTreeSet, contains}
use Rattle.std.specs.List.{list_any}
use Rattle.kr_defs.specs.Ids.{has}
use Rattle.kr_defs.specs.Image.{Image}
use Rattle.kr_defs.specs.Map as entries
use Rattle.kr_defs.specs.Map.{partition_order, text_order}
use Rattle.kr_defs.specs.Partition.{is_moving}
use Rattle.kr_defs.specs.Walk.{of_topic}
use Rattle.kr_calls.specs.declared.list_partition_reassignments.ListedTopic.{ListedTopic}
use Rattle.kr_calls.specs.declared.list_partition_reassignments.OngoingPartitionReassignment.{OngoingPartitionReassignment}
use Rattle.kr_calls.specs.declared.list_partition_reassignments.OngoingTopicReassignment.{OngoingTopicReassignment}
use Rattle.kr_calls.specs.ListPartitionReassignments.{ongoing}

-- there is a number, and it is this one
abbrev pub is_this : ℕ → Option ℕ → Bool
is_this id None = false
is_this id (Some other) = other == id

-- the topic has this name and this id
abbrev pub is_id_of : List (List ℕ × ℕ) → List ℕ → ℕ → Bool
is_id_of topics name id = is_this id (entries.get text_order topics name)

-- the entry names the partition
abbrev pub names_key : List (List ℕ × ℕ) → ListedTopic → ℕ × ℤ → Bool
names_key topics topic key = is_id_of topics topic.name key.0 && has topic.partitions key.1

-- the set has the partitions that the entries name
abbrev pub AreKeys : List (List ℕ × ℕ) → List ListedTopic → BTreeSet (ℕ × ℤ) → Type 0
AreKeys topics listed keys = (key : ℕ × ℤ) → contains partition_order keys key ≡ list_any (λ t. names_key topics t key) listed

-- the same of a request, which may ask for all
abbrev pub Asks : List (List ℕ × ℕ) → Option (List ListedTopic) → Option (BTreeSet (ℕ × ℤ)) → Type 0
Asks topics None None = Unit {0}
Asks topics None (Some keys) = ⊥
Asks topics (Some listed) None = ⊥
Asks topics (Some listed) (Some keys) = AreKeys topics listed keys

-- the partition is among them, or all are asked for
abbrev pub is_among : Option (BTreeSet (ℕ × ℤ)) → ℕ × ℤ → Bool
is_among None key = true
is_among (Some keys) key = contains partition_order keys key

-- the partitions of a topic that pass and move, by index
abbrev pub ongoing_where : Image → (ℤ → Bool) → ℕ → List OngoingPartitionReassignment
ongoing_where image test id = map ongoing (filter (λ e. is_moving e.1 && test e.0.1) (of_topic id image.partitions))

-- what is shown of a topic
abbrev pub shown_where : Image → (ℤ → Bool) → List ℕ × ℕ → Option OngoingTopicReassignment
shown_where image test topic =
    let partitions = ongoing_where image test topic.1 in
    if length partitions == 0 then None else Some (record { name = topic.0; partitions = partitions })
