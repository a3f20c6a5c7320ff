use Rattle.std.proofs.Common.{pos, refl}
use Rattle.kr_partitions.proofs.RequestKeys.{index_more, no_index}
use Rattle.kr_partitions.proofs.request_keys.add_indices.Goals as goal

pub loop-index-init : goal.loop-index-init
loop-index-init c = λ k. no_index _ c.args.id.now c.args.indices.now k

pub loop-index-preserved : goal.loop-index-preserved
loop-index-preserved c = λ k.
    index_more _ _ _ c.args.id.now c.args.indices.now c.loop-index.index-index _ (pos 0) k c.loop-index-test.true refl (c.loop-index.invariant k) (c.in_ok-add_key.ensures k)
