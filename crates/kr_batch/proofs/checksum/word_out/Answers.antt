use Rattle.kr_batch.proofs.Lookups.{word_shifted_out}
use Rattle.kr_batch.proofs.checksum.word_out.Goals as goal

pub returns : goal.returns
returns c =
    word_shifted_out c.args.zeros c.args.word c.to_le_bytes-bytes.result _ _ _ _ _ _ _ _ c.ranges.word.fits c.to_le_bytes-bytes.ensures c.byte_out.ensures c.byte_out-2.ensures
    c.byte_out-3.ensures c.byte_out-4.ensures c.byte_out-5.ensures c.byte_out-6.ensures c.byte_out-7.ensures c.byte_out-8.ensures
