use Rattle.std.proofs.Common.{ℕ}
use Rattle.kr_drive.specs.Driving.{driven, nothing_driven}
use Rattle.kr_drive.specs.inner.Standing.{HasDriven, MayDrive}
use Rattle.kr_drive.proofs.driving.Driver.rounds.Given as goal

abbrev pub invariant-loop-round : goal.invariant-loop-round
invariant-loop-round l = record {
  stands : (seed : ℕ) → HasDriven seed 0 (nothing_driven seed) l.fn.self → HasDriven seed l.round (driven seed l.round) l.self;
  may : MayDrive l.round l.self;
}
