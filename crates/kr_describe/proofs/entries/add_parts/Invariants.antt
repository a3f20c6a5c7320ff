use Rattle.std.proofs.Common.{◌-◌, length}
use Rattle.kr_view.proofs.Filling.{IsFilling}
use Rattle.kr_describe.specs.inner.ShownLines.{part_entries}
use Rattle.kr_describe.specs.SteadyReads.{steady_image}
use Rattle.kr_describe.proofs.SoFar.{SoFar}
use Rattle.kr_describe.proofs.entries.add_parts.Given as goal

abbrev pub invariant-loop-index : goal.invariant-loop-index
invariant-loop-index g l = record {
  went : SoFar g.R.RecordReader.reading g.R.RecordReader.with_reading l.steady l.fn.reader l.reader;
  filled : IsFilling l.most l.fn.entries (part_entries (steady_image l.steady (g.R.RecordReader.reading l.fn.reader)) l.name l.id l.fn.after) l.entries (part_entries (steady_image l.steady (g.R.RecordReader.reading l.fn.reader)) l.name l.id l.last);
}

abbrev pub decreases-loop-index : goal.decreases-loop-index
decreases-loop-index g l = l.most - length l.entries
