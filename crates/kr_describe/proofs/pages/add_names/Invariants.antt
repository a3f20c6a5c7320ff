use Rattle.std.proofs.Common.{length}
use Rattle.std.specs.Map.{keys_of}
use Rattle.kr_view.proofs.Filling.{IsFilling}
use Rattle.kr_describe.specs.inner.ShownLines.{names_entries}
use Rattle.kr_describe.specs.SteadyReads.{steady_image}
use Rattle.kr_describe.proofs.SoFar.{SoFar}
use Rattle.kr_describe.proofs.pages.add_names.Given as goal

abbrev pub invariant-loop-name : goal.invariant-loop-name
invariant-loop-name g l = record {
  went : SoFar g.R.RecordReader.reading g.R.RecordReader.with_reading l.steady l.fn.reader l.reader;
  filled : IsFilling l.most l.fn.entries (names_entries (steady_image l.steady (g.R.RecordReader.reading l.fn.reader)) l.cursor (keys_of l.fn.names.entries)) l.entries (names_entries (steady_image l.steady (g.R.RecordReader.reading l.fn.reader)) l.cursor (keys_of l.names.entries));
}

abbrev pub decreases-loop-name : goal.decreases-loop-name
decreases-loop-name g l = length l.names.entries
