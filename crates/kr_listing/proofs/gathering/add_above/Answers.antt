use Rattle.std.proofs.Common.{refl}
use Rattle.kr_listing.proofs.WalkGathering.{key_more, key_over, key_less}
use Rattle.kr_listing.proofs.gathering.add_above.Goals as goal

pub loop-key-preserved : goal.loop-key-preserved
loop-key-preserved g c =
    let partitions = c.args.seen.now.partitions in
    key_more partitions (g.P.PartitionPart.part c.args.part.now) c.loop-key.after (c.in-Some.key.now, c.in-Some.partition.now) c.in-Some.ensures.next c.loop-key.rows _ _ c.in_ok-add.ensures c.loop-key.invariant

pub loop-key-smaller : goal.loop-key-smaller
loop-key-smaller g c =
    key_less c.args.seen.now.partitions c.loop-key.after (c.in-Some.key.now, c.in-Some.partition.now) c.in-Some.ensures.next

pub returns : goal.returns
returns g c =
    let partitions = c.args.seen.now.partitions in
    key_over partitions (g.P.PartitionPart.part c.args.part.now) c.loop-key.after (c.in_default.ensures.none refl) c.loop-key.rows _ c.loop-key.invariant
