use Rattle.std.proofs.Common.{◌≤◌, ◌-◌}
use Rattle.kr_fold.specs.Endings.{ReadsLog}
use Rattle.kr_fold.specs.inner.NextBatches.{IsWithin, Stands, log_at}
use Rattle.kr_fold.specs.SourceBytes.{longest}
use Rattle.kr_fold.proofs.log.read_log.Given as goal

abbrev pub invariant-loop-next : goal.invariant-loop-next
invariant-loop-next g l = record {
  stands : Stands l.store l.place.tip;
  within : IsWithin l.place;
  reads : ReadsLog (g.S.Source.left l.initial.source) (g.S.Source.left l.source) (log_at l.place l.store) l.place.at;
  faults : g.S.Source.faults l.initial.source ≤ g.S.Source.faults l.source;
}

abbrev pub decreases-loop-next : goal.decreases-loop-next
decreases-loop-next g l = longest - l.place.at
