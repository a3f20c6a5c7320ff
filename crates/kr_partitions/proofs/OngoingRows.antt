-- The reassignments that go on, as a walk gathers them.
use Rattle.std.proofs.Common.{◌≡◌, ◌∙◌, ℕ, ℤ, List, [], ◌∷◌}
use Rattle.std.specs.Prelude.{◌&&◌, Option, filter_map, option_to_list, if◌then◌else◌}
use Rattle.std.specs.BTreeSet.{BTreeSet}
use Rattle.std.specs.List.{flat_map}
use Rattle.kr_defs.specs.declared.partition.Partition.{Partition}
use Rattle.kr_defs.specs.Image.{AreTopics, Image}
use Rattle.kr_defs.specs.Partition.{is_moving}
use Rattle.kr_defs.specs.Walk.{of_topic}
use Rattle.kr_calls.specs.declared.list_partition_reassignments.ListedTopic.{ListedTopic}
use Rattle.kr_calls.specs.declared.list_partition_reassignments.OngoingPartitionReassignment.{OngoingPartitionReassignment}
use Rattle.kr_calls.specs.declared.list_partition_reassignments.OngoingTopicReassignment.{OngoingTopicReassignment}
use Rattle.kr_calls.specs.ListPartitionReassignments.{ongoing, shown}
use Rattle.kr_listing.proofs.Parts.{given_parts, some_parts}
use Rattle.kr_partitions.specs.inner.RequestKeys.{Asks, is_among, ongoing_where, shown_where}
use Rattle.kr_partitions.proofs.RequestKeys.{shown_by_key}

module _ (image : Image) (keys : Option (BTreeSet (ℕ × ℤ))) where
  pub moving : (id : ℕ) (rows : List OngoingPartitionReassignment) → rows ≡ flat_map (λ (e : (ℕ × ℤ) × Partition). if is_moving e.1 && is_among keys (id, e.0.1) then ongoing e ∷ [] else []) (of_topic id image.partitions) → rows ≡ ongoing_where image (λ index. is_among keys (id, index)) id
  moving id rows is = is ∙ given_parts (λ (e : (ℕ × ℤ) × Partition). is_moving e.1 && is_among keys (id, e.0.1)) ongoing (of_topic id image.partitions)

  pub all_shown : (asked : Option (List ListedTopic)) (rows : List OngoingTopicReassignment) → AreTopics image.topics → Asks image.topics asked keys → rows ≡ flat_map (λ (t : List ℕ × ℕ). option_to_list (shown_where image (λ index. is_among keys (t.1, index)) t)) image.topics → rows ≡ filter_map (shown image asked) image.topics
  all_shown asked rows are asks is = is ∙ (shown_by_key image asked keys are asks ∙ some_parts (shown image asked) image.topics)
