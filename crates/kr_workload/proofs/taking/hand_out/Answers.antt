use Rattle.std.proofs.Common.{[], refl}
use Rattle.kr_session_loop.proofs.Handed.{drains}
use Rattle.kr_workload.proofs.HandedOut.{handed_on}
use Rattle.kr_workload.proofs.taking.hand_out.Goals as goal

pub loop-output-init : goal.loop-output-init
loop-output-init c = record { ordered = c.requires; gone = ([], refl, refl) }

pub loop-output-preserved-in-Some : goal.loop-output-preserved-in-Some
loop-output-preserved-in-Some c = record {
  ordered = c.in-Some.ensures.hands.ordered;
  gone = handed_on _ _ _ _ _ _ c.in-Some.output c.loop-output.invariant.gone c.in-Some.ensures.hands c.count_output.ensures;
}

pub loop-output-preserved-in-Some-2 : goal.loop-output-preserved-in-Some-2
loop-output-preserved-in-Some-2 c = record {
  ordered = c.in-Some.ensures.hands.ordered;
  gone = handed_on _ _ _ _ _ _ c.in-Some.output c.loop-output.invariant.gone c.in-Some.ensures.hands c.count_output.ensures;
}

pub loop-output-preserved-in-Some-3 : goal.loop-output-preserved-in-Some-3
loop-output-preserved-in-Some-3 c = record {
  ordered = c.in-Some.ensures.hands.ordered;
  gone = handed_on _ _ _ _ _ _ c.in-Some.output c.loop-output.invariant.gone c.in-Some.ensures.hands c.count_output.ensures;
}

pub loop-output-preserved : goal.loop-output-preserved
loop-output-preserved c = record {
  ordered = c.in-Some.ensures.hands.ordered;
  gone = handed_on _ _ _ _ _ _ c.in-Some.output c.loop-output.invariant.gone c.in-Some.ensures.hands c.count_output.ensures;
}

pub returns : goal.returns
returns c =
    let gone = c.loop-output.invariant.gone in
    (gone.0, drains _ _ _ gone.0 gone.1 c.in_default.ensures.hands, gone.2)
