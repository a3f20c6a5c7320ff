use Rattle.kr_describe.proofs.SoFar.{begun, ended, failed, further}
use Rattle.kr_describe.proofs.pages.add_own.Goals as goal

pub returns-in_err-add_name-clause-went : goal.returns-in_err-add_name-clause-went
returns-in_err-add_name-clause-went g c = failed c.from_residual-in_err-add_name.result (further (begun g.R.RecordReader.reading g.R.RecordReader.with_reading c.args.steady.now c.args.reader.now c.requires.steady) c.in_ok-_id.ensures.went) c.in_err-add_name.ensures.went c.from_residual-in_err-add_name.ensures.1

pub returns-clause-went : goal.returns-clause-went
returns-clause-went g c = ended tt (further (further (begun g.R.RecordReader.reading g.R.RecordReader.with_reading c.args.steady.now c.args.reader.now c.requires.steady) c.in_ok-_id.ensures.went) c.in_ok-add_name.ensures.went)
