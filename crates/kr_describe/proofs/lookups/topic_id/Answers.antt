use Rattle.kr_describe.proofs.Going.{no_memory}
use Rattle.kr_describe.proofs.lookups.topic_id.Goals as goal

pub returns-in_err-copied-clause-went : goal.returns-in_err-copied-clause-went
returns-in_err-copied-clause-went g c = no_memory g.R.RecordReader.reading g.R.RecordReader.with_reading c.args.steady.now c.args.reader.now c.from_residual.result c.requires c.from_residual.ensures.1
