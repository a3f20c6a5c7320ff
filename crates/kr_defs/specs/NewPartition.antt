-- KIP-631: a partition that is created, and (after KIP-966) a change that ends its standing by.
use Rattle.std.specs.Prelude.{List, [], length, slice_get, ◌==◌, ℤ, pos, negsuc, None, unwrap_or}
use Rattle.kr_defs.specs.declared.partition.Partition.{Partition}
use Rattle.kr_defs.specs.declared.partition.PartitionChange.{PartitionChange}
use Rattle.kr_defs.specs.Build.{unless}

-- the first replica in sync leads, or nobody
abbrev pub first_leader : List ℤ → ℤ
first_leader in_sync = unwrap_or (slice_get in_sync 0) (negsuc 0)

abbrev pub new_partition : List ℤ → List ℤ → Partition
new_partition replicas in_sync = record {
  replicas = replicas;
  in_sync = in_sync;
  eligible = [];
  last_known = [];
  adding = [];
  removing = [];
  leader = first_leader in_sync;
  recovery = pos 0;
  leader_epoch = pos 0;
  partition_epoch = pos 0;
}

-- nobody stands by any more; a list that is empty already isn't named
abbrev pub emptying : Partition → PartitionChange
emptying p = record {
  in_sync = None;
  replicas = None;
  removing = None;
  adding = None;
  eligible = unless (length p.eligible == 0) [];
  last_known = unless (length p.last_known == 0) [];
  leader = None;
  recovery = None;
}
