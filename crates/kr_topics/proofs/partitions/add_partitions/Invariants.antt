use Rattle.std.proofs.Common.{◌≡◌, ◌++◌, ◌+◌, drop}
use Rattle.kr_calls.specs.NewPartitions.{new_partitions}
use Rattle.kr_topics.proofs.partitions.add_partitions.Given as goal

abbrev pub invariant-loop-replicas : goal.invariant-loop-replicas
invariant-loop-replicas g l =
    let image = l.seen in
    record {
      told : l.records ++ new_partitions image l.topic l.number (drop l.replicas-index l.lists) ≡ l.fn.records ++ new_partitions image l.topic l.first l.lists;
      number : l.number ≡ l.first + l.replicas-index;
    }
