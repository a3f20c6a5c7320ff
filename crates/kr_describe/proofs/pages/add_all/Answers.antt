use Rattle.kr_describe.proofs.NamedLines.{both_added}
use Rattle.kr_describe.proofs.SoFar.{begun, ended, failed, further, image_there}
use Rattle.kr_describe.proofs.pages.add_all.Goals as goal

pub returns-in_err-add_topics-clause-went : goal.returns-in_err-add_topics-clause-went
returns-in_err-add_topics-clause-went g c = failed c.from_residual-in_err-add_topics.result (further (begun g.R.RecordReader.reading g.R.RecordReader.with_reading c.args.steady.now c.args.reader.now c.requires.steady) c.in_ok-add_own.ensures.went) c.in_err-add_topics.ensures.went c.from_residual-in_err-add_topics.ensures.1

pub returns-clause-went : goal.returns-clause-went
returns-clause-went g c = ended tt (further (further (begun g.R.RecordReader.reading g.R.RecordReader.with_reading c.args.steady.now c.args.reader.now c.requires.steady) c.in_ok-add_own.ensures.went) c.in_ok-add_topics.ensures.went)

pub returns-clause-entries : goal.returns-clause-entries
returns-clause-entries g c =
    let own = further (begun g.R.RecordReader.reading g.R.RecordReader.with_reading c.args.steady.now c.args.reader.now c.requires.steady) c.in_ok-add_own.ensures.went in
    both_added _ c.requires.steady.valid _ _ _ c.args.cursor.now _ c.in_ok-add_own.ensures.entries _ (image_there own) c.in_ok-add_topics.ensures.entries
