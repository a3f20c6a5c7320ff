use Rattle.kr_listing.proofs.WalkGathering.{key_begun}
use Rattle.kr_listing.proofs.gathering.add_partitions.Goals as goal

pub returns : goal.returns
returns g c =
    key_begun c.args.seen.now.partitions (g.P.PartitionPart.part c.args.part.now) c.args.id.now c.is_valid.ensures.partitions.indexes _ _ (rw c.before_all.ensures at c.in_ok-add_above.ensures)
