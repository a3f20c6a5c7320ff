use Rattle.std.proofs.Common.{Some, length}
use Rattle.kr_defs.specs.Map.{above, text_order}
use Rattle.kr_view.proofs.Filling.{IsFilling}
use Rattle.kr_describe.specs.inner.ShownLines.{topics_entries}
use Rattle.kr_describe.specs.SteadyReads.{steady_image}
use Rattle.kr_describe.proofs.SoFar.{SoFar}
use Rattle.kr_describe.proofs.entries.add_topics.Given as goal

abbrev pub invariant-loop-last : goal.invariant-loop-last
invariant-loop-last g l = record {
  went : SoFar g.R.RecordReader.reading g.R.RecordReader.with_reading l.steady l.fn.reader l.reader;
  filled : IsFilling l.most l.fn.entries (topics_entries (steady_image l.steady (g.R.RecordReader.reading l.fn.reader)) l.after) l.entries (topics_entries (steady_image l.steady (g.R.RecordReader.reading l.fn.reader)) l.last);
}

abbrev pub decreases-loop-last : goal.decreases-loop-last
decreases-loop-last g l = length (above text_order (steady_image l.steady (g.R.RecordReader.reading l.fn.reader)).topics (Some l.last))
