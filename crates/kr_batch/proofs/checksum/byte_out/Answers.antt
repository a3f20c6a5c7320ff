use Rattle.kr_batch.proofs.Lookups.{byte_looked_up}
use Rattle.kr_batch.proofs.checksum.byte_out.Goals as goal

pub returns : goal.returns
returns c = byte_looked_up c.args.zeros c.args.byte _ _ c.requires c.ranges.byte.fits c.from.ensures c.entry.ensures
