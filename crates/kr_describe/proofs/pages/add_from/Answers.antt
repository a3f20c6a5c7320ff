use Rattle.kr_describe.proofs.SoFar.{begun, ended}
use Rattle.kr_describe.proofs.pages.add_from.Goals as goal

pub returns-in_default-clause-went : goal.returns-in_default-clause-went
returns-in_default-clause-went g c = ended tt (begun g.R.RecordReader.reading g.R.RecordReader.with_reading c.args.steady.now c.args.reader.now c.requires.steady)
