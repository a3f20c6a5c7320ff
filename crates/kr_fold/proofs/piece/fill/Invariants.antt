use Rattle.std.proofs.Common.{length, ◌-◌, ◌+◌, ◌≤◌}
use Rattle.kr_fold.specs.SourceBytes.{longest}
use Rattle.kr_fold.specs.inner.SourceReads.{Grew}
use Rattle.kr_fold.proofs.piece.fill.Given as goal

abbrev pub invariant-loop-bytes : goal.invariant-loop-bytes
invariant-loop-bytes g l = record {
  grew : Grew (g.S.Source.left l.initial.source) (g.S.Source.left l.source) l.initial.bytes.items l.bytes.items;
  short : length l.bytes.items ≤ l.len;
  within : l.at + length l.bytes.items ≤ longest;
  faults : g.S.Source.faults l.initial.source ≤ g.S.Source.faults l.source;
}

abbrev pub decreases-loop-bytes : goal.decreases-loop-bytes
decreases-loop-bytes g l = l.len - length l.bytes.items
