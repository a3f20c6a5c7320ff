use Rattle.std.proofs.Common.{length, ◌-◌, ◌≤◌, take}
use Rattle.std.specs.Io.KnownBytes.{Consumes}
use Rattle.kr_intake.proofs.taking.fill.Given as goal

abbrev pub invariant-loop-at : goal.invariant-loop-at
invariant-loop-at g l = record {
  within : l.at ≤ length l.into;
  faults : g.S.Source.faults l.initial.source ≤ g.S.Source.faults l.source;
  took : Consumes (g.S.Source.left l.initial.source) (g.S.Source.left l.source) (take l.at l.into);
}

abbrev pub decreases-loop-at : goal.decreases-loop-at
decreases-loop-at g l = length l.into - l.at
