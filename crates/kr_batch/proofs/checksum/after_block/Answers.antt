use Rattle.kr_batch.proofs.Blocks.{block_shifted_out}
use Rattle.kr_batch.proofs.checksum.after_block.Goals as goal

pub returns : goal.returns
returns c =
    block_shifted_out c.args.block.now c.args.sum _ c.from_le_bytes-low.result c.from_le_bytes-high.result _ _ c.requires (λ i. (c.type_inv.block i).fits)
    c.from.ensures c.from_le_bytes-low.ensures c.from_le_bytes-high.ensures c.word_out.ensures c.word_out-2.ensures
