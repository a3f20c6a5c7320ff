use Rattle.kr_batch.proofs.Blocks.{next_block}
use Rattle.kr_batch.proofs.checksum.after_all.Goals as goal

pub loop-rest-preserved : goal.loop-rest-preserved
loop-rest-preserved c = next_block 16 c.loop-rest.sum _ c.loop-rest.rest.now _ _ _ c.split_at.ensures.front c.split_at.ensures.back c.after_block-sum.ensures c.loop-rest.invariant
