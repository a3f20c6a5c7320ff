use Rattle.std.proofs.Common.{refl}
use Rattle.kr_batch.proofs.Lookups.{byte_shifted_out}
use Rattle.kr_batch.proofs.checksum.after_byte.Goals as goal

pub returns : goal.returns
returns c = byte_shifted_out c.args.sum c.args.byte _ _ _ c.ranges.byte.fits c.from.ensures refl c.byte_out.ensures
