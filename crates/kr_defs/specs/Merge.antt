-- KIP-631: what a change makes of a partition.
use Rattle.std.specs.Prelude.{ℤ, pos, ◌+ℤ◌, int_lt, unwrap_or, is_some, if◌then◌else◌}
use Rattle.kr_defs.specs.declared.limits.TheConstants.{GREATEST_EPOCH}
use Rattle.kr_defs.specs.declared.partition.Partition.{Partition}
use Rattle.kr_defs.specs.declared.partition.PartitionChange.{PartitionChange}

-- one more; the greatest epoch stays
abbrev pub next_epoch : ℤ → ℤ
next_epoch epoch = if int_lt epoch GREATEST_EPOCH then epoch +ℤ pos 1 else epoch

-- Each present field replaces its value. The partition epoch rises, and the leader epoch where a leader is named.
unfoldable pub merged : Partition → PartitionChange → Partition
merged p change = record {
  replicas = unwrap_or change.replicas p.replicas;
  in_sync = unwrap_or change.in_sync p.in_sync;
  eligible = unwrap_or change.eligible p.eligible;
  last_known = unwrap_or change.last_known p.last_known;
  adding = unwrap_or change.adding p.adding;
  removing = unwrap_or change.removing p.removing;
  leader = unwrap_or change.leader p.leader;
  recovery = unwrap_or change.recovery p.recovery;
  leader_epoch = if is_some change.leader then next_epoch p.leader_epoch else p.leader_epoch;
  partition_epoch = next_epoch p.partition_epoch;
}
