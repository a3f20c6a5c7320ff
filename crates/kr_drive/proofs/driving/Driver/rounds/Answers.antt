use Rattle.std.proofs.Common.{◌+◌, subst, sym}
use Rattle.kr_drive.specs.Driving.{Driven}
use Rattle.kr_drive.specs.inner.Standing.{HasDriven}
use Rattle.kr_drive.proofs.DrivenMoves.{driven_next, driven_none}
use Rattle.kr_drive.proofs.driving.Driver.rounds.Goals as goal

pub loop-round-init : goal.loop-round-init
loop-round-init c = record {
  stands = λ seed has. subst (λ (d : Driven). HasDriven seed 0 d c.args.self.now) (sym (driven_none seed)) has;
  may = c.requires.first;
}

pub loop-round-preserved : goal.loop-round-preserved
loop-round-preserved c = record {
  stands = λ seed has. subst (λ (d : Driven). HasDriven seed (c.loop-round.round + 1) d c.round.new.self) (sym (driven_next seed c.loop-round.round))
      (c.in_ok-round.ensures.stands seed _ (c.loop-round.invariant.stands seed has));
  may = c.in_ok-round.ensures.may;
}
