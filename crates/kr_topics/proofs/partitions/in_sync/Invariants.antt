use Rattle.std.proofs.Common.{◌≡◌, ◌++◌, drop}
use Rattle.kr_defs.specs.Brokers.{active}
use Rattle.kr_defs.specs.Ids.{within}
use Rattle.kr_topics.proofs.partitions.in_sync.Given as goal

abbrev pub invariant-loop-id : goal.invariant-loop-id
invariant-loop-id g l =
    let those = active l.seen in
    l.ids ++ within (drop l.id-index l.replicas) those ≡ within l.replicas those
