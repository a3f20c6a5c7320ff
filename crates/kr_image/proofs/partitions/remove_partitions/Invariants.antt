use Rattle.std.proofs.Common.{◌≡◌, ◌≤◌, ◌+◌, length, filter, not, true}
use Rattle.std.specs.Prelude.{count_by, ◌==◌}
use Rattle.std.specs.declared.cmp.Ordering.TheVariants.{Less}
use Rattle.kr_defs.specs.Map.{IsMap, partition_order}
use Rattle.kr_image.specs.inner.TopicKeys.{partitions_end}
use Rattle.kr_image.proofs.Removal.{AreBetween}
use Rattle.kr_image.proofs.partitions.remove_partitions.Given as goal

abbrev pub invariant-loop-key : goal.invariant-loop-key
invariant-loop-key l = record {
  others : filter (λ e. not (e.0.0 == l.topic)) l.partitions.maps.present ≡ filter (λ e. not (e.0.0 == l.topic)) l.initial.partitions.maps.present;
  ordered : IsMap partition_order l.partitions.maps.present;
  end : l.end ≡ partitions_end l.topic;
  own : (l.after.0 == l.topic) ≡ true;
  forward : partition_order l.after l.end ≡ Less;
  between : AreBetween partition_order (λ k. k.0 == l.topic) l.after l.end l.partitions.maps.present;
  counted : l.count ≡ length l.partitions.maps.present;
  made : l.partitions.maps.made + count_by (λ e. e.0.0 == l.topic) l.partitions.maps.present ≤ l.initial.partitions.maps.made + count_by (λ e. e.0.0 == l.topic) l.initial.partitions.maps.present;
  kept : l.partitions.maps.kept ≡ l.initial.partitions.maps.kept;
}

abbrev pub decreases-loop-key : goal.decreases-loop-key
decreases-loop-key l = length l.partitions.maps.present
