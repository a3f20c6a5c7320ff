use Rattle.std.proofs.Common.{◌∙◌}
use Rattle.kr_describe.proofs.Going.{no_memory}
use Rattle.kr_describe.proofs.LookedUp.{topic_next}
use Rattle.kr_describe.proofs.lookups.next_name.Goals as goal

pub returns-clause-name : goal.returns-clause-name
returns-clause-name g c = c.in_ok-name_in.ensures ∙ topic_next _ c.args.name.now _ c.requires.valid (rw c.in_ok-copied.ensures at c.in_ok-found.ensures.next)

pub returns-in_err-copied-clause-went : goal.returns-in_err-copied-clause-went
returns-in_err-copied-clause-went g c = no_memory g.R.RecordReader.reading g.R.RecordReader.with_reading c.args.steady.now c.args.reader.now c.from_residual.result c.requires c.from_residual.ensures.1
