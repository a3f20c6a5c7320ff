use Rattle.kr_shared.proofs.ImageWalks.{reads_more}
use Rattle.kr_shared.proofs.image_writing.write_image.Goals as goal

pub returns-clause-reads : goal.returns-clause-reads
returns-clause-reads g c = reads_more c.args.seat.now c.begin.new.seat c.write_walk.new.seat c.begin.ensures.reads c.write_walk.ensures.reads
